-- `second_agrees` checks only if there is a second strand.
-- Assumes nothing.
use Rattle.duplex.proofs.second_agrees.Goals as goal

pub returns-then-two : goal.returns-then-two
returns-then-two c = rw c.if-two.true c.agree.ensures
