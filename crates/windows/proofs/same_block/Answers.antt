use mathlib.Core.Path.{◌∙◌, ap, sym}
use Prim.Native.Nat.{◌+◌}
use native.Mathlib.Omega.{arith}
use mathlib.Core.Bool.{Bool, ◌&&◌}
use lib.Dec.{eqb}
use lib.ListN.{get_or}
use Rattle.windows.proofs.SameLaws.{same_more}
use Rattle.windows.proofs.same_block.Goals as goal

pub loop-i-preserved : goal.loop-i-preserved
loop-i-preserved c =
    let h = c.loop-i in
    let a = c.args in
    let here = eqb (get_or a.a.now (a.from + h.i) 0) (get_or a.b.now (a.from + h.i) 0) in
    ap (λ (t : Bool). t && here) h.invariant ∙ sym (same_more a.a.now a.b.now a.from h.i (omega arith) (omega arith))
