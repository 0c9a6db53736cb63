-- The field that begins at a place of a text: where it ends, and that it is a part of the text.
-- Assumes nothing.
use mathlib.Core.Path.{◌≡◌, refl, ap}
use Prim.Native.Nat.{◌+◌, ◌<◌, ◌≤◌, suc, zero, ℕ}
use native.Mathlib.Omega.{arith}
use mathlib.Core.List.{List, [], ◌∷◌}
use lib.Dec.{eqb}
use lib.ListN.{drop, drop_of_length-le, get_or, length, take}
use borrow.Author.Tests.{ne_eqb}
use Rattle.lent.proofs.Lists.{drop_here, empty_of_length}
use Rattle.lent.proofs.Tests.{by-test}
use Rattle.lent.specs.Lists.{last_or}
use Rattle.fields.specs.Fields.{field_of}

module _ (t : List ℕ) (e : ℕ) where
  pub field_end : length t ≤ e → length (field_of (drop e t)) ≡ 0
  field_end h = rw (drop_of_length-le t h)

  pub field_comma : e < length t → get_or t e 0 ≡ 44 → length (field_of (drop e t)) ≡ 0
  field_comma l h = rw (drop_here t e 0 l, h)

  pub field_semicolon : e < length t → get_or t e 0 ≡ 59 → length (field_of (drop e t)) ≡ 0
  field_semicolon l h = rw (drop_here t e 0 l, h)

  pub field_on : e < length t → (get_or t e 0 ≡ 44 → ⊥) → (get_or t e 0 ≡ 59 → ⊥) → length (field_of (drop e t)) ≡ suc (length (field_of (drop (e + 1) t)))
  field_on l h k = rw (drop_here t e 0 l, ne_eqb _ 59 k, ne_eqb _ 44 h)

field_take : (xs : List ℕ) → take (length (field_of xs)) xs ≡ field_of xs
field_take [] = refl
field_take (x ∷ xs) =
    by-test (eqb x 59)
    (λ p. rw p)
    (λ p. by-test (eqb x 44) (λ q. rw (p, q)) (λ q. rw (p, q) (ap (λ (r : List ℕ). x ∷ r) (field_take xs))))

-- the first n bytes, where the field is n long
pub field_part : (xs : List ℕ) (n : ℕ) → length (field_of xs) ≡ n → take n xs ≡ field_of xs
field_part xs n h = rw (← h) (field_take xs)

-- ---- the text's last byte

pub last_at : (d : ℕ) (xs : List ℕ) (n : ℕ) → length xs ≡ suc n → last_or d xs ≡ get_or xs n 0
last_at d [] n h = absurd (omega arith)
last_at d (x ∷ []) zero h = refl
last_at d (x ∷ []) (suc n) h = absurd (omega arith)
last_at d (x ∷ y ∷ ys) zero h = absurd (omega arith)
last_at d (x ∷ y ∷ ys) (suc n) h = last_at x (y ∷ ys) n (omega arith)

pub last_of_none : (xs : List ℕ) → length xs ≡ 0 → last_or 0 xs ≡ 0
last_of_none xs h = rw (empty_of_length xs h)
