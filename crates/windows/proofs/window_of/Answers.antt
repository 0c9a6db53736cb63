-- `window_of` sets the flag only if nothing is cut off and the two rows are the same.
-- Assumes nothing.
use mathlib.Core.Path.{◌∙◌, ◌≡◌, refl, sym}
use Prim.Native.Nat.{ℕ}
use native.Mathlib.Omega.{arith}
use mathlib.Core.Bool.{false, true}
use Rattle.windows.proofs.SameLaws.{one_row}
use Rattle.windows.proofs.window_of.Goals as goal

pub returns-then-lo-ne0 : goal.returns-then-lo-ne0
returns-then-lo-ne0 c = (refl, λ (t : false ≡ true). let z : ◌≡◌ {A = ℕ} 0 1 = cc in absurd (omega arith))

pub returns : goal.returns
returns c =
    let a = c.args in (
      refl,
      λ t. (omega arith, one_row a.after.now a.seq.now (sym c.same_bytes-same.ensures ∙ t)),
    )
