-- `how_many` counts block by block, and then what is left.
-- Assumes nothing.
use mathlib.Core.Path.{◌≡◌}
use Prim.Native.Nat.{◌-◌, ◌≤◌}
use lib.ListN.{length, take}
use Rattle.lent.specs.Lists.{filter}
use Rattle.samtags.specs.Spots.{holds}
use Rattle.strides.proofs.how_many.Given as goal

abbrev pub invariant-loop-i : goal.invariant-loop-i
invariant-loop-i l = (l.i ≤ length l.seq) × (l.n ≤ l.i) × (l.n ≡ length (filter (holds l.base) (take l.i l.seq)))

abbrev pub decreases-loop-i : goal.decreases-loop-i
decreases-loop-i l = length l.seq - l.i
