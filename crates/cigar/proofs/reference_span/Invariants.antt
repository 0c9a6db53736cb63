-- `reference_span` sums the places that the operations take. Invariant: the sum so far plus that of the remaining words is the total, so nothing wraps.
-- Assumes nothing.
use mathlib.Core.Path.{◌≡◌}
use Prim.Native.Nat.{◌+◌}
use lib.ListN.{drop}
use Rattle.cigar.specs.Cigar.{reference_span}
use Rattle.cigar.proofs.reference_span.Given as goal

abbrev pub invariant-loop-word : goal.invariant-loop-word
invariant-loop-word l = l.sum + reference_span (drop l.word-index l.cigar) ≡ reference_span l.cigar
