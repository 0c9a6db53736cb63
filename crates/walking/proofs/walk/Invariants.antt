-- `walk` goes from operation to operation, in the walk's order. The invariant is `Come`.
-- Assumes nothing.
use Rattle.walking.specs.Walk.{in_order_of}
use Rattle.walking.proofs.Walks.{Come}
use Rattle.walking.proofs.walk.Given as goal

abbrev pub invariant-loop-i : goal.invariant-loop-i
invariant-loop-i l = Come l.is_reverse l.outset (in_order_of l.is_reverse l.cigar) l.initial.positions l.positions l.place l.at l.i
