-- Decimals: a number that is written and then read is the same number. Also the length of a written number.
-- Assumes nothing.
use mathlib.Core.Path.{◌≡◌, refl}
use Prim.Native.Nat.{ℕ, zero, suc, ◌+◌, ◌-◌, ◌*◌, ◌/◌, ◌%◌, ◌^◌, ◌≤◌, ◌<◌}
use native.Mathlib.Omega.{arith}
use native.Mathlib.Nat.{le_refl, mul-le-mul_right, pow-succ'}
use mathlib.Core.Bool.{true, false, not}
use mathlib.Core.List.{List, [], ◌∷◌, ◌++◌}
use lib.ListN.{length, length-append}
use lib.Dec.{leb, ltb}
use borrow.Author.Tests.{ltb-true, ltb-false, le-leb, leb-true}
use Rattle.lent.specs.Lists.{every, is_empty}
use Rattle.lent.proofs.Tests.{by-test, and_true, and_true_l, and_true_r}
use Rattle.lent.proofs.Lists.{every_append}
use Rattle.samtags.specs.Bytes.{is_digit}
use Rattle.samtags.specs.Decimal.{is_number, value_from, value, digits_in, digits}

-- ---- written and read

pub value_from_snoc : (a : ℕ) (xs : List ℕ) (d : ℕ) → value_from a (xs ++ d ∷ []) ≡ 10 * value_from a xs + (d - 48)
value_from_snoc a [] d = refl
value_from_snoc a (x ∷ xs) d = value_from_snoc (10 * a + (x - 48)) xs d

value_digits_in : (k n : ℕ) → n ≤ k → value_from 0 (digits_in k n) ≡ n
unfolding digits_in
value_digits_in zero n h = omega arith
value_digits_in (suc k) n h =
    by-test (ltb n 10)
    (λ e. rw e (omega arith))
    (λ e. rw e (
    let l : 10 ≤ n = ltb-false n 10 e in
    rw (value_from_snoc, value_digits_in k (n / 10) (omega arith)) (omega arith)))

pub value_digits : (n : ℕ) → value (digits n) ≡ n
unfolding value digits
value_digits n = value_digits_in n n (le_refl n)

digit_is : (d : ℕ) → d < 10 → is_digit (48 + d) ≡ true
unfolding is_digit
digit_is d h = and_true (leb 48 (48 + d)) (leb (48 + d) 57) (le-leb 48 (48 + d) (omega arith)) (le-leb (48 + d) 57 (omega arith))

digits_in_are : (k n : ℕ) → every is_digit (digits_in k n) ≡ true
unfolding digits_in
digits_in_are zero n = and_true (is_digit (48 + n % 10)) true (digit_is (n % 10) (omega arith)) refl
digits_in_are (suc k) n =
    by-test (ltb n 10)
    (λ e. rw e (and_true (is_digit (48 + n)) true (digit_is n (ltb-true n 10 e)) refl))
    (λ e. rw (e, every_append) (and_true _ _ (digits_in_are k (n / 10)) (and_true (is_digit (48 + n % 10)) true (digit_is (n % 10) (omega arith)) refl)))

digits_in_some : (k n : ℕ) → is_empty (digits_in k n) ≡ false
unfolding digits_in
digits_in_some zero n = refl
digits_in_some (suc k) n = by-test (ltb n 10) (λ e. rw e) (λ e. rw e (snoc_some (digits_in k (n / 10)) (48 + n % 10)))
  where
    snoc_some : (xs : List ℕ) (d : ℕ) → is_empty (xs ++ d ∷ []) ≡ false
    snoc_some [] d = refl
    snoc_some (x ∷ xs) d = refl

pub digits_number : (n : ℕ) → is_number (digits n) ≡ true
unfolding is_number digits
digits_number n = rw (digits_in_some n n, digits_in_are n n)

-- ---- lengths

digits_in_length : (k n l : ℕ) → n < 10 ^ suc l → length (digits_in k n) ≤ suc l
unfolding digits_in
digits_in_length zero n l h = omega arith
digits_in_length (suc k) n zero h = rw (is_small n h) (omega arith)
  where
    is_small : (n : ℕ) → n < 10 ^ 1 → ltb n 10 ≡ true
    is_small n h = le-leb (suc n) 10 h
digits_in_length (suc k) n (suc l) h =
    by-test (ltb n 10)
    (λ e. rw e (omega arith))
    (λ e. rw e (omega (arith, length-append (digits_in k (n / 10)) ((48 + n % 10) ∷ []), digits_in_length k (n / 10) l (omega arith))))

-- a number below 10^l is written with at most l digits
pub digits_fit : (n l : ℕ) → 0 < l → n < 10 ^ l → length (digits n) ≤ l
unfolding digits
digits_fit n zero h k = omega arith
digits_fit n (suc l) h k = digits_in_length n n l k

-- a number has at most one digit more than it counts
digits_in_few : (k n : ℕ) → n ≤ k → length (digits_in k n) ≤ suc n
unfolding digits_in
digits_in_few zero n h = omega arith
digits_in_few (suc k) n h =
    by-test (ltb n 10)
    (λ e. rw e (omega arith))
    (λ e.
    let l : 10 ≤ n = ltb-false n 10 e in
    rw e (omega (arith, length-append (digits_in k (n / 10)) ((48 + n % 10) ∷ []), digits_in_few k (n / 10) (omega arith))))

pub digits_few : (n : ℕ) → length (digits n) ≤ suc n
unfolding digits
digits_few n = digits_in_few n n (le_refl n)

ten_times : (v x a p : ℕ) → v < suc x * p → suc x ≤ 10 * suc a → v < suc a * (10 * p)
ten_times v x a p h l = omega (arith, mul-le-mul_right p l)

value_from_lt : (a : ℕ) (f : List ℕ) → every is_digit f ≡ true → value_from a f < suc a * 10 ^ length f
unfolding is_digit
value_from_lt a [] h = omega arith
value_from_lt a (d ∷ ds) h =
    let t = and_true_l (is_digit d) (every is_digit ds) h in
    let lo : 48 ≤ d = leb-true 48 d (and_true_l (leb 48 d) (leb d 57) t) in
    let hi : d ≤ 57 = leb-true d 57 (and_true_r (leb 48 d) (leb d 57) t) in
    let b : suc (10 * a + (d - 48)) ≤ 10 * suc a = omega arith in
    rw (pow-succ' 10 (length ds)) (ten_times _ (10 * a + (d - 48)) a (10 ^ length ds) (value_from_lt (10 * a + (d - 48)) ds (and_true_r (is_digit d) (every is_digit ds) h)) b)

-- a field of l digits spells a number below 10^l
pub value_lt : (f : List ℕ) → is_number f ≡ true → value f < 10 ^ length f
unfolding value is_number
value_lt f h = let b = value_from_lt 0 f (and_true_r (not (is_empty f)) (every is_digit f) h) in omega arith

pub number_some : (f : List ℕ) → is_number f ≡ true → 0 < length f
unfolding is_number
number_some [] h = let z : ◌≡◌ {A = ℕ} 0 1 = cc in omega arith
number_some (x ∷ xs) h = omega arith
