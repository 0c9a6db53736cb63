use Prim.Native.Nat.{◌+◌}
use native.Mathlib.Omega.{arith}
use mathlib.Core.Bool.{◌&&◌}
use lib.Dec.{eqb}
use lib.ListN.{get_or}
use Rattle.strides.proofs.StrideLaws.{both_on, one_at_most}
use Rattle.strides.proofs.both_in_block.Goals as goal

pub loop-i-preserved : goal.loop-i-preserved
loop-i-preserved c =
    let h = c.loop-i in
    let a = c.args in (
      omega (arith, one_at_most (eqb (get_or a.seq.now (a.from + h.i) 0) a.base && eqb (get_or a.after.now (a.there + h.i) 0) a.base)),
      omega (arith, both_on a.base c.requires.2 a.seq.now a.after.now a.from a.there h.i (omega arith) (omega arith)),
    )
