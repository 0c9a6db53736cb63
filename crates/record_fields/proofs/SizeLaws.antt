-- The size of a value, at a place of the bytes: where a text ends, and the parts of an array and of a field.
-- Assumes nothing.
use mathlib.Core.Path.{◌≡◌, refl, sym, ap, ◌∙◌}
use mathlib.Core.Bool.{Bool, true, false, cond, not, ◌&&◌, and-false}
use Prim.Native.Nat.{ℕ, zero, suc, ◌+◌, ◌*◌, ◌-◌, ◌/◌, ◌%◌, ◌≤◌, ◌<◌}
use native.Mathlib.Nat.{mul-le-mul_right}
use native.Mathlib.Omega.{arith}
use mathlib.Core.List.{List, [], ◌∷◌}
use Prim.Native.Nat.compare
use lib.Dec.{eqb, is_le, leb}
use lib.ListN.{drop, drop_of_length-le, get_or, length, length-drop, replicate, set, take}
use lib.Seq.{drop-drop, get_or-drop, sets, take_all}
use borrow.Author.Tests.{le-leb, leb-false, leb-true, lt-leb, ne_eqb}
use Rattle.std.proofs.Common.{None, Some, nat_lt, position}
use Rattle.std.proofs.lemmas.List.Recursion.{is_position_or_len}
use Rattle.std.proofs.lemmas.Option.{cond_some, none-some}
use Rattle.std.specs.List.{position_or_len}
use Rattle.lent.proofs.Lists.{drop_here}
use Rattle.lent.proofs.Tests.{by-test}
use Rattle.lent.specs.Lists.{among}
use Rattle.samtags.specs.Text.{up_to}
use Rattle.record_fields.specs.Bam.{half, word, word_bytes}
use Rattle.record_fields.specs.Fields.{array_size, element_size, field_size, text_size, value_size}

-- a row of zeros, at every place
pub zeros : (n k : ℕ) → ◌≡◌ {A = ℕ} (get_or (replicate n 0) k 0) 0
zeros zero k = refl
zeros (suc n) zero = refl
zeros (suc n) (suc k) = zeros n k

-- ---- a text, at a byte of it

module _ (t : List ℕ) (e : ℕ) where
  pub text_end : length t ≤ e → among (drop e t) 0 ≡ false
  text_end h = rw (drop_of_length-le t h)

  pub text_stop : e < length t → get_or t e 0 ≡ 0 → (among (drop e t) 0 ≡ true) × (length (up_to 0 (drop e t)) ≡ 0)
  text_stop l h = rw (drop_here t e 0 l, h) (refl, refl)

  pub text_on : e < length t → (get_or t e 0 ≡ 0 → ⊥)
      → (among (drop e t) 0 ≡ among (drop (e + 1) t) 0) × (length (up_to 0 (drop e t)) ≡ suc (length (up_to 0 (drop (e + 1) t))))
  text_on l h = rw (drop_here t e 0 l, ne_eqb (get_or t e 0) 0 h) (refl, refl)

-- ---- a text, by the place of its NUL

abbrev is_nul : ℕ → Bool
is_nul x = eqb x 0

up_to_nul : (xs : List ℕ) → length (up_to 0 xs) ≡ position_or_len is_nul xs
up_to_nul = is_position_or_len (λ xs. length (up_to 0 xs)) is_nul refl (λ x xs. by-test (eqb x 0) (λ p. rw p) (λ p. rw p (omega arith)))

nul_among : (xs : List ℕ) → among xs 0 ≡ nat_lt (length (up_to 0 xs)) (length xs)
nul_among [] = refl
nul_among (x ∷ xs) = by-test (eqb x 0) (λ p. rw p (sym (le-leb 1 (suc (length xs)) (omega arith)))) (λ p. rw p (nul_among xs ∙ sym (ap is_le (compare.suc-suc (suc (length (up_to 0 xs))) (length xs)))))

-- from a place on, as the function reads it
module _ (b : List ℕ) (from : ℕ) where
  rest : take (length b - from) (drop from b) ≡ drop from b
  rest = take_all (length b - from) (drop from b) (omega (arith, length-drop from b))

  -- no NUL
  pub text_none : position is_nul (take (length b - from) (drop from b)) ≡ None → 0 ≡ text_size (drop from b)
  text_none e =
      let xs = drop from b in
      let n = position_or_len is_nul xs in
      by-test (nat_lt n (length xs))
      (λ p. absurd (none-some n (sym e ∙ ap (position is_nul) rest ∙ rw p)))
      (λ p. rw (nul_among xs, up_to_nul xs, p))

  -- a NUL after n bytes
  pub text_some : (n : ℕ) → position is_nul (take (length b - from) (drop from b)) ≡ Some n → n + 1 ≡ text_size (drop from b)
  text_some n e =
      let xs = drop from b in
      let p = position_or_len is_nul xs in
      let found = cond_some (nat_lt p (length xs)) p n (sym (ap (position is_nul) rest) ∙ e) in
      rw (nul_among xs, up_to_nul xs, found.0, found.1)

-- ---- numbers behind some bytes

module _ (b : List ℕ) (at : ℕ) where
  pub half_behind : (i : ℕ) → half (drop at b) i ≡ half b (at + i)
  half_behind i =
      let s : at + (i + 1) ≡ at + i + 1 = omega arith in
      rw (get_or-drop at b i 0, get_or-drop at b (i + 1) 0, s)

  pub word_behind : (i : ℕ) → word (drop at b) i ≡ word b (at + i)
  word_behind i =
      let s : at + (i + 2) ≡ at + i + 2 = omega arith in
      ap (λ (n : ℕ). n + 65536 * half (drop at b) (i + 2)) (half_behind i)
      ∙ ap (λ (n : ℕ). half b (at + i) + 65536 * n) (half_behind (i + 2) ∙ ap (half b) s)

-- a count of 32 bits, times the size of an element
pub product_at_most : (w s : ℕ) → w < 4294967296 → s ≤ 4 → w * s ≤ 17179869180
product_at_most w s h k = let low : w ≤ 4294967295 = omega arith in omega (arith, mul-le-mul_right s low)

-- ---- an array, at a byte

module _ (b : List ℕ) (at : ℕ) where
  array_at : array_size (drop at b)
      ≡ cond (leb 5 (length b - at) && not (eqb (element_size (get_or b at 0)) 0)) (5 + word b (at + 1) * element_size (get_or b at 0)) 0
  array_at =
      let z : at + 0 ≡ at = omega arith in
      let first : get_or (drop at b) 0 0 ≡ get_or b at 0 = get_or-drop at b 0 0 ∙ ap (λ (i : ℕ). get_or b i 0) z in
      rw (length-drop at b, first, word_behind b at 1)

  pub array_short : length b - at < 5 → array_size (drop at b) ≡ 0
  array_short h = rw (array_at, lt-leb 5 (length b - at) h)

  pub array_untyped : element_size (get_or b at 0) ≡ 0 → array_size (drop at b) ≡ 0
  array_untyped e = rw (array_at, e) (both (leb 5 (length b - at)))
    where
      both : (t : Bool) → cond (t && false) (5 + word b (at + 1) * 0) 0 ≡ 0
      both true = refl
      both false = refl

  pub array_sized : 5 ≤ length b - at → (element_size (get_or b at 0) ≡ 0 → ⊥)
      → array_size (drop at b) ≡ 5 + word b (at + 1) * element_size (get_or b at 0)
  array_sized h k = rw (array_at, le-leb 5 (length b - at) h, ne_eqb (element_size (get_or b at 0)) 0 k)

-- an array takes five bytes or more
pub array_least : (xs : List ℕ) → array_size xs < 5 → array_size xs ≡ 0
array_least xs h =
    by-test (leb 5 (length xs) && not (eqb (element_size (get_or xs 0 0)) 0))
    (λ e. let t : array_size xs ≡ 5 + word xs 1 * element_size (get_or xs 0 0) = rw e in absurd (omega (arith, t)))
    (λ e. rw e)

pub array_some : (xs : List ℕ) → (array_size xs ≡ 0 → ⊥) → 5 ≤ length xs
array_some xs h = by-test (leb 5 (length xs)) (λ e. leb-true 5 (length xs) e) (λ e. absurd (h (rw e)))

-- ---- a field: n is what its value takes, l is how many bytes there are

abbrev pub size_in : ℕ → ℕ → ℕ
size_in l n = cond (leb 3 l && not (eqb n 0) && leb (3 + n) l) (3 + n) 0

module _ (l n : ℕ) where
  pub in_short : l < 3 → size_in l n ≡ 0
  in_short h = rw (lt-leb 3 l h)

  pub in_none : n ≡ 0 → size_in l n ≡ 0
  in_none e = rw e (both (leb 3 l))
    where
      both : (t : Bool) → cond (t && false && leb (3 + 0) l) (3 + 0) 0 ≡ 0
      both true = refl
      both false = refl

  pub in_long : l < 3 + n → size_in l n ≡ 0
  in_long h = rw (lt-leb (3 + n) l h, and-false (leb 3 l && not (eqb n 0)))

  pub in_fits : (n ≡ 0 → ⊥) → 3 + n ≤ l → size_in l n ≡ 3 + n
  in_fits k h = rw (le-leb 3 l (omega arith), ne_eqb n 0 k, le-leb (3 + n) l h)

  -- the size is not 0 only if all of it is there
  pub in_some : (size_in l n ≡ 0 → ⊥) → (n ≡ 0 → ⊥) × (3 + n ≤ l)
  in_some h =
      by-test (leb (3 + n) l)
      (λ e. (λ z. h (in_none z), leb-true (3 + n) l e))
      (λ e. absurd (h (in_long (leb-false (3 + n) l e))))

-- the field at a byte
pub field_at : (b : List ℕ) (at n : ℕ) → n ≡ value_size (get_or b (at + 2) 0) (drop (at + 3) b) → field_size (drop at b) ≡ size_in (length b - at) n
unfolding field_size
field_at b at n e = rw (e, get_or-drop at b 2 0, drop-drop 3 at b, length-drop at b)

-- ---- a word, stored byte by byte

pub four_stores : (o p q r s : List ℕ) (at n : ℕ) → p ≡ set o at (n % 256) → q ≡ set p (at + 1) (n / 256 % 256)
    → r ≡ set q (at + 2) (n / 65536 % 256) → s ≡ set r (at + 3) (n / 16777216 % 256) → s ≡ sets o at (word_bytes n)
four_stores o p q r s at n e f g h =
    let one : at + 1 ≡ suc at = omega arith in
    let two : at + 2 ≡ suc (suc at) = omega arith in
    let three : at + 3 ≡ suc (suc (suc at)) = omega arith in
    rw (h, g, f, e, one, two, three)
