-- `copy_counts`. Invariant: the front of the row holds the counts so far, and the rest is unchanged.
-- Assumes nothing.
use mathlib.Core.Path.{◌≡◌}
use lib.ListN.{take}
use Rattle.lent.specs.Filled.{over}
use Rattle.columns.proofs.copy_counts.Given as goal

abbrev pub invariant-loop-i : goal.invariant-loop-i
invariant-loop-i l = l.out ≡ over (take l.i l.counts) l.initial.out
