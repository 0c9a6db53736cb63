-- Reading a number digit by digit without passing a bound, and storing the digits of a number one by one.
-- Assumes nothing.
use mathlib.Core.Path.{◌≡◌, refl}
use Prim.Native.Nat.{◌%◌, ◌*◌, ◌+◌, ◌-◌, ◌/◌, ◌<◌, ◌≤◌, min, suc, zero, ℕ}
use native.Mathlib.Omega.{arith}
use mathlib.Core.Bool.{false, true}
use mathlib.Core.List.{List, [], ◌++◌, ◌∷◌}
use lib.Dec.{ltb}
use lib.ListN.{length-append, drop, drop_of_length-le, get_or, length, set}
use lib.Seq.{sets}
use borrow.Author.Tests.{le-leb, le-ltb, lt-leb, lt-ltb, ltb-false}
use Rattle.lent.proofs.Lists.{drop_here}
use Rattle.lent.proofs.Tests.{by-test}
use Rattle.lent.specs.Lists.{every}
use Rattle.samtags.specs.Bytes.{is_digit}
use Rattle.samtags.specs.Decimal.{digits, digits_in, is_number, value_from}

-- ---- reading

-- past the bound the digits that follow do not matter
pub bounded : (most n m : ℕ) (xs : List ℕ) → min most n ≡ min most m → min most (value_from n xs) ≡ min most (value_from m xs)
bounded most n m [] e = e
bounded most n m (d ∷ ds) e = bounded most (10 * n + (d - 48)) (10 * m + (d - 48)) ds (omega arith)

pub digit_low : (b : ℕ) → b < 48 → is_digit b ≡ false
unfolding is_digit
digit_low b h = rw (lt-leb 48 b h)

pub digit_high : (b : ℕ) → 57 < b → is_digit b ≡ false
unfolding is_digit
digit_high b h = rw (le-leb 48 b (omega arith), lt-leb b 57 h)

pub digit_is : (b : ℕ) → 48 ≤ b → b ≤ 57 → is_digit b ≡ true
unfolding is_digit
digit_is b l h = rw (le-leb 48 b l, le-leb b 57 h)

module _ (s : List ℕ) (i n : ℕ) where
  pub value_end : length s ≤ i → value_from n (drop i s) ≡ n
  value_end h = rw (drop_of_length-le s h)

  pub value_on : i < length s → value_from n (drop i s) ≡ value_from (10 * n + (get_or s i 0 - 48)) (drop (i + 1) s)
  value_on l = rw (drop_here s i 0 l)

pub number_is : (s : List ℕ) → (length s ≡ 0 → ⊥) → is_number s ≡ every is_digit s
unfolding is_number
number_is [] h = absurd (h refl)
number_is (x ∷ xs) h = refl

pub no_number : (s : List ℕ) → length s ≡ 0 → is_number s ≡ false
unfolding is_number
no_number [] h = refl
no_number (x ∷ xs) h = absurd (omega arith)

-- ---- writing

pub digits_small : (n : ℕ) → n < 10 → digits n ≡ (48 + n) ∷ []
unfolding digits digits_in
digits_small zero h = refl
digits_small (suc n) h = rw (lt-ltb (suc n) 10 h)

-- how many digits are allowed does not matter, if there are enough
digits_enough : (k m n : ℕ) → n ≤ k → n ≤ m → digits_in k n ≡ digits_in m n
unfolding digits_in
digits_enough zero zero n h l = refl
digits_enough zero (suc m) n h l = let z : n ≡ 0 = omega arith in rw z
digits_enough (suc k) zero n h l = let z : n ≡ 0 = omega arith in rw z
digits_enough (suc k) (suc m) n h l =
    by-test (ltb n 10)
    (λ e. rw e)
    (λ e. let big : 10 ≤ n = ltb-false n 10 e in rw (e, digits_enough k m (n / 10) (omega arith) (omega arith)))

pub digits_more : (n : ℕ) → 10 ≤ n → digits n ≡ digits (n / 10) ++ (48 + n % 10) ∷ []
unfolding digits digits_in
digits_more zero h = absurd (omega arith)
digits_more (suc n) h = rw (le-ltb (suc n) 10 h, digits_enough n (suc n / 10) (suc n / 10) (omega arith) (omega arith))

pub length_small : (n : ℕ) → n < 10 → length (digits n) ≡ 1
length_small n h = rw (digits_small n h)

pub length_more : (n : ℕ) → 10 ≤ n → length (digits n) ≡ length (digits (n / 10)) + 1
length_more n h = rw (digits_more n h) (simp length-append)

-- a run of stores, and one more where it ends
pub sets_snoc : {A : Type 0} (l : List A) (i : ℕ) (vs : List A) (v : A) (k : ℕ) → k ≡ i + length vs → set (sets l i vs) k v ≡ sets l i (vs ++ v ∷ [])
sets_snoc l i [] v k e = let z : k ≡ i = omega arith in rw z
sets_snoc l i (x ∷ vs) v k e = sets_snoc (set l i x) (suc i) vs v k (omega arith)
