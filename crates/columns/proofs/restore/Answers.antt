use mathlib.Core.Path.{◌≡◌}
use native.Mathlib.Omega.{arith}
use lib.ListN.{length}
use Rattle.lent.proofs.InPlace.{changed_is_zip}
use Rattle.lent.proofs.Tabulate.{changed_turn}
use Rattle.columns.proofs.restore.Goals as goal
use Rattle.columns.proofs.restore.Invariants.{restore_at, restore_one}

pub loop-i-preserved : goal.loop-i-preserved
loop-i-preserved c =
    let a = c.args in
    changed_turn (restore_at a.pattern a.informative.now) 0 a.bases.now c.loop-i.bases c.loop-i.i _ c.loop-i.invariant (omega arith)
    c.restored_base.ensures

pub returns : goal.returns
returns c =
    let a = c.args in
    let all : c.loop-i.i ≡ length a.bases.now = omega arith in
    rw (c.loop-i.invariant, all) (changed_is_zip (restore_one a.pattern) a.informative.now 0 a.bases.now (omega arith))
