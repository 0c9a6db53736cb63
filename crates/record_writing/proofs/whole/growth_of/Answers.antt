-- `growth_of`: only MN grows, and its number is 5 or 6.
-- Assumes nothing.
use native.Mathlib.Omega.{arith}
use Rattle.record_writing.proofs.WalkLaws.{grown, not_grown}
use Rattle.record_writing.proofs.whole.growth_of.Goals as goal

pub returns-then-plan-ge-LENGTH : goal.returns-then-plan-ge-LENGTH
returns-then-plan-ge-LENGTH c = grown c.args.plan (omega arith)

pub returns : goal.returns
returns c = not_grown c.args.plan (omega arith)
