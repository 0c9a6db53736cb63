-- `body_of`: the line from its third byte on, or the empty part if the line has fewer than two bytes.
-- Assumes nothing.
use native.Mathlib.Omega.{arith}
use Rattle.lines.proofs.MarkLaws.{body_long, body_short}
use Rattle.lines.proofs.body_of.Goals as goal

pub returns-then-end-lt2 : goal.returns-then-end-lt2
returns-then-end-lt2 c = body_short c.args.line.now (omega arith)

pub returns : goal.returns
returns c = body_long c.args.line.now
