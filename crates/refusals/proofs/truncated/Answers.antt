-- `truncated` passes on a refusal of the columns, and checks the room for the positions that are kept.
-- Assumes nothing.
use mathlib.Core.Path.{sym}
use Rattle.refusals.specs.Refusals.{truncated}
use Rattle.lent.proofs.Outcome.{passed_on}
use Rattle.refusals.proofs.truncated.Goals as goal

pub returns-in_err-n : goal.returns-in_err-n
unfolding truncated
returns-in_err-n c = rw (passed_on _ _ c.from_residual.ensures.1, sym c.columns_of.ensures, c.in_err-n.was)

pub returns : goal.returns
unfolding truncated
returns c =
    rw (c.in_room.ensures, c.min-kept.ensures, sym c.columns_of.ensures, c.in_ok-n.was)
