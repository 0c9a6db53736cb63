-- `query_length` sums the bases that the operations take. Invariant: the sum so far plus that of the remaining words is the total, so nothing wraps.
-- Assumes nothing.
use mathlib.Core.Path.{◌≡◌}
use Prim.Native.Nat.{◌+◌}
use lib.ListN.{drop}
use Rattle.cigar.specs.Cigar.{query_length}
use Rattle.cigar.proofs.query_length.Given as goal

abbrev pub invariant-loop-word : goal.invariant-loop-word
invariant-loop-word l = l.sum + query_length (drop l.word-index l.cigar) ≡ query_length l.cigar
