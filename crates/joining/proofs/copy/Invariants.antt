-- `copy`. Invariant: the front of the row holds the bytes so far, and the rest is unchanged.
-- Assumes nothing.
use mathlib.Core.Path.{◌≡◌}
use lib.ListN.{take}
use Rattle.lent.specs.Filled.{over}
use Rattle.joining.proofs.copy.Given as goal

abbrev pub invariant-loop-i : goal.invariant-loop-i
invariant-loop-i l = l.out ≡ over (take l.i l.bytes) l.initial.out
