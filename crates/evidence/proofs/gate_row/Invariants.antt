-- The records so far are gated, among those that the domain allows.
-- Assumes nothing.
use Rattle.std.proofs.Common.{◌≡◌}
use Rattle.evidence.proofs.Rows.{gated_up_to}
use Rattle.evidence.proofs.gate_row.Given as goal

abbrev pub invariant-loop-e : goal.invariant-loop-e
invariant-loop-e l = l.e-items ≡ gated_up_to l.e-index l.initial.e-items
