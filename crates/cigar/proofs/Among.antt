-- A number is in a list, or is not in it, from what is known about the number.
-- Assumes nothing.
use mathlib.Core.Path.{◌≡◌, refl}
use mathlib.Core.Bool.{true, false}
use mathlib.Core.List.{List, [], ◌∷◌}
use Prim.Native.Nat.{ℕ}
use native.Mathlib.Omega.{arith}
use lib.Dec.{eqb}
use borrow.Author.Tests.{eqb-false, ne_eqb}
use Rattle.lent.specs.Lists.{among}
use Rattle.lent.proofs.Tests.{by-test}

-- it is none of them
abbrev pub NoneOf : List ℕ → ℕ → Type 0
NoneOf [] n = Unit {0}
NoneOf (m ∷ ms) n = (m ≡ n → ⊥) × NoneOf ms n

pub not_among : (ms : List ℕ) (n : ℕ) → NoneOf ms n → among ms n ≡ false
not_among [] n h = refl
not_among (m ∷ ms) n h = rw (ne_eqb m n h.0) (not_among ms n h.1)

was_not_among : (ms : List ℕ) (n : ℕ) → among ms n ≡ false → NoneOf ms n
was_not_among [] n e = tt
was_not_among (m ∷ ms) n e =
    by-test (eqb m n)
    (λ t. let z : true ≡ false = rw t at e in let w : ◌≡◌ {A = ℕ} 0 1 = cc in absurd (omega arith))
    (λ t. (eqb-false m n t, was_not_among ms n (rw t at e)))

-- where it cannot be none of them
pub is_among : (ms : List ℕ) (n : ℕ) → (NoneOf ms n → ⊥) → among ms n ≡ true
is_among ms n f = by-test (among ms n) (λ e. e) (λ e. absurd (f (was_not_among ms n e)))
