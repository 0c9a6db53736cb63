use mathlib.Core.Path.{◌≡◌}
use Prim.Native.Nat.{◌+◌}
use native.Mathlib.Omega.{arith}
use lib.ListN.{get_or}
use mir.Facts.{to_z_pos}
use mir.Syntax.{w16}
use mir.Val.{of_z, to_z}
use Rattle.lent.proofs.Filled.{over_none}
use Rattle.lent.proofs.Tabulate.{over_tabulate_more}
use Rattle.joining.proofs.put_sums.Goals as goal
use Rattle.joining.proofs.put_sums.Invariants.{sum_at}

pub loop-i-init : goal.loop-i-init
loop-i-init c = over_none c.args.counts.now

pub loop-i-preserved : goal.loop-i-preserved
loop-i-preserved c =
    let i = c.loop-i.i in
    let n = get_or c.args.a.now i 0 + get_or c.args.b.now i 0 in
    let stored : to_z w16 (of_z w16 c.sum_of.result) ≡ sum_at c.args.a.now c.args.b.now i =
    rw c.sum_of.ensures (to_z_pos w16 (omega arith)) in
    rw (stored, c.loop-i.invariant) (over_tabulate_more i (sum_at c.args.a.now c.args.b.now) c.args.counts.now (omega arith))
