-- `is_far`: yes means that there is a whole block.
-- Assumes nothing.
use mathlib.Core.Path.{◌≡◌}
use mathlib.Core.Bool.{false, true}
use Prim.Native.Nat.{ℕ}
use native.Mathlib.Omega.{arith}
use Rattle.strides.proofs.is_far.Goals as goal

pub returns-then-skip-lt6 : goal.returns-then-skip-lt6
returns-then-skip-lt6 c = λ (e : false ≡ true). let z : ◌≡◌ {A = ℕ} 0 1 = cc in absurd (omega arith)
