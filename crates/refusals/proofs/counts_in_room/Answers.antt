-- `counts_in_room` passes on a refusal of the columns, and answers 12 if their counts have no room.
-- Assumes nothing.
use mathlib.Core.Path.{sym}
use native.Mathlib.Omega.{arith}
use borrow.Author.Tests.{le-leb, lt-leb}
use Rattle.refusals.specs.Refusals.{counts_in_room}
use Rattle.lent.proofs.Outcome.{passed_on}
use Rattle.refusals.proofs.counts_in_room.Goals as goal

pub returns-in_err-n : goal.returns-in_err-n
unfolding counts_in_room
returns-in_err-n c = rw (passed_on _ _ c.from_residual.ensures.1, sym c.columns_of.ensures, c.in_err-n.was)

pub returns-then-room-n : goal.returns-then-room-n
unfolding counts_in_room
returns-then-room-n c =
    let room = c.args.room in
    rw (sym c.columns_of.ensures, c.in_ok-n.was, lt-leb c.in_ok-n.n room (omega arith))

pub returns : goal.returns
unfolding counts_in_room
returns c =
    let room = c.args.room in
    rw (sym c.columns_of.ensures, c.in_ok-n.was, le-leb c.in_ok-n.n room (omega arith))
