-- Three records are a row that the domain allows: each of them is gated.
-- Assumes nothing.
use native.Mathlib.Omega.{arith}
use Rattle.evidence.proofs.Rows.{short_row_gated}
use Rattle.evidence.proofs.gated_three.Goals as goal

pub returns : goal.returns
returns c = short_row_gated c.args.row c.gate_row.result c.gate_row.new.row (omega arith) c.gate_row.ensures
