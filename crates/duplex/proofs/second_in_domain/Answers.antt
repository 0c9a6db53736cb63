-- `second_in_domain` checks only if there is a second strand.
-- Assumes nothing.
use Rattle.duplex.proofs.second_in_domain.Goals as goal

pub returns-then-two : goal.returns-then-two
returns-then-two c = rw c.if-two.true c.in_domain.ensures
