use mathlib.Core.Path.{◌≡◌}
use native.Mathlib.Omega.{arith}
use lib.ListN.{get_or}
use mir.Syntax.{w16}
use mir.Val.{to_z, of_z}
use mir.Facts.{to_z_pos}
use Rattle.lent.proofs.Filled.{over_none}
use Rattle.lent.proofs.Tabulate.{over_map_more}
use Rattle.columns.proofs.put_tag_counts.Goals as goal
use Rattle.columns.proofs.put_tag_counts.Invariants.{tag_count}

pub loop-i-init : goal.loop-i-init
loop-i-init c = over_none c.args.counts.now

pub loop-i-preserved : goal.loop-i-preserved
loop-i-preserved c =
    let a = c.args in
    let column = a.column.now in
    let i = c.loop-i.i in
    let n = get_or column i 0 in
    let stored : to_z w16 (of_z w16 c.tag_count.result) ≡ tag_count n =
    rw c.tag_count.ensures (to_z_pos w16 (omega arith)) in
    rw (stored, c.loop-i.invariant) (over_map_more tag_count column a.counts.now i 0 (omega arith) (omega arith))
