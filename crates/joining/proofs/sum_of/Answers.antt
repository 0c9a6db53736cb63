-- `sum_of`: the sum, or 32,767 if the sum is larger.
-- Assumes nothing.
use mathlib.Core.Path.{◌∙◌, ◌≡◌, ap}
use Prim.Native.Nat.{◌+◌, min}
use native.Mathlib.Omega.{arith}
use lib.IntN.{pos}
use mir.Facts.{to_z_pos}
use mir.Syntax.{w16}
use Rattle.joining.proofs.sum_of.Goals as goal

pub returns-then-total-gt32767 : goal.returns-then-total-gt32767
returns-then-total-gt32767 c =
    let e : 32767 ≡ min 32767 (c.args.a + c.args.b) = omega arith in
    ap pos e

pub returns : goal.returns
returns c =
    let e : c.args.a + c.args.b ≡ min 32767 (c.args.a + c.args.b) = omega arith in
    to_z_pos w16 (omega arith) ∙ ap pos e
