use Prim.Native.Nat.{◌+◌, ◌-◌}
use native.Mathlib.Omega.{arith}
use lib.Dec.{eqb}
use lib.ListN.{drop, get_or, take}
use Rattle.strides.proofs.StrideLaws.{count_on, one_at_most}
use Rattle.strides.proofs.count_block.Goals as goal

pub loop-b-preserved : goal.loop-b-preserved
loop-b-preserved c =
    let h = c.loop-b in
    let a = c.args in
    let l = take (a.from + a.size - a.from) (drop a.from a.seq.now) in (
      omega (arith, one_at_most (eqb (get_or l h.b-index 0) a.base)),
      omega (arith, count_on a.base c.requires.2 l h.b-index (omega arith)),
    )
