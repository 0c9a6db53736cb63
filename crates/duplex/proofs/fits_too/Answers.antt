-- `fits_too`, by cases: whether every row before had room.
-- Assumes nothing.
use Rattle.duplex.proofs.fits_too.Goals as goal

pub returns-then-so_far : goal.returns-then-so_far
returns-then-so_far c = rw c.if-so_far.true
