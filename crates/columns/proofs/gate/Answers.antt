use mathlib.Core.Path.{◌≡◌}
use native.Mathlib.Omega.{arith}
use lib.ListN.{length}
use Rattle.lent.proofs.InPlace.{changed_is_zip}
use Rattle.lent.proofs.Tabulate.{changed_turn}
use Rattle.columns.proofs.gate.Goals as goal
use Rattle.columns.proofs.gate.Invariants.{gate_at, gate_one}

pub loop-i-preserved : goal.loop-i-preserved
loop-i-preserved c =
    let a = c.args in
    changed_turn (gate_at a.informative.now) 0 a.counts.now c.loop-i.counts c.loop-i.i _ c.loop-i.invariant (omega arith)
    c.gated_count.ensures

pub returns : goal.returns
returns c =
    let a = c.args in
    let all : c.loop-i.i ≡ length a.counts.now = omega arith in
    rw (c.loop-i.invariant, all) (changed_is_zip gate_one a.informative.now 0 a.counts.now (omega arith))
