use native.Mathlib.Omega.{arith}
use Rattle.lent.proofs.Filled.{over_none}
use Rattle.lent.proofs.Tabulate.{over_map_more}
use Rattle.columns.proofs.marks.copy_marks.Goals as goal
use Rattle.columns.proofs.marks.copy_marks.Invariants.{mark}

pub loop-i-init : goal.loop-i-init
loop-i-init c = over_none c.args.out.now

pub loop-i-preserved : goal.loop-i-preserved
loop-i-preserved c =
    let a = c.args in
    rw (c.yes_byte.ensures, c.loop-i.invariant)
    (over_map_more mark a.informative.now a.out.now c.loop-i.i 0 (omega arith) (omega arith))
