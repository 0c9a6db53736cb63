-- `put_missing` stores -1 again and again. Invariant: the front of the row holds one missing place for each turn so far, and the rest is unchanged.
-- Assumes nothing.
use mathlib.Core.Path.{◌≡◌}
use lib.ListN.{replicate}
use Rattle.lent.specs.Filled.{over}
use Rattle.cigar.specs.Cigar.{missing}
use Rattle.walking.proofs.put_missing.Given as goal

abbrev pub invariant-loop-i : goal.invariant-loop-i
invariant-loop-i l = l.out ≡ over (replicate l.i missing) l.initial.out
