-- Laws of numbers: the two sides of a comparison, and counting up to a cap.
-- Assumes nothing.
use mathlib.Core.Path.{◌≡◌}
use mathlib.Core.Logic.{◌⊎◌, inl, inr}
use Prim.Native.Nat.{ℕ, ◌+◌, ◌≤◌, ◌<◌, min}
use native.Mathlib.Omega.{arith}
use lib.Dec.{leb}
use borrow.Author.Tests.{leb-true, leb-false}
use Rattle.lent.proofs.Tests.{by-test}

pub le_or_lt : (a b : ℕ) → (a ≤ b) ⊎ (b < a)
le_or_lt a b = by-test (leb a b) (λ e. inl (leb-true a b e)) (λ e. inr (leb-false a b e))

-- a count that stops at the cap may be capped at each step or once at the end
pub capped_sum : (cap n m : ℕ) → min cap (min cap n + m) ≡ min cap (n + m)
capped_sum cap n m = omega arith
