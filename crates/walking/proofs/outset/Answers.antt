-- `outset`: forward the start, and backward the start plus the number of all places.
-- Assumes nothing.
use Rattle.walking.proofs.outset.Goals as goal

pub returns-then-is_reverse : goal.returns-then-is_reverse
returns-then-is_reverse c = rw (c.if-is_reverse.true, c.reference_span.ensures)

pub returns : goal.returns
returns c = rw c.if-is_reverse.false
