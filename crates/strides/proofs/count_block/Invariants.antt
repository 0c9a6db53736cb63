-- `count_block` looks at one byte after the other.
-- Assumes nothing.
use mathlib.Core.Path.{◌≡◌}
use Prim.Native.Nat.{◌≤◌}
use lib.ListN.{length, take}
use Rattle.lent.specs.Lists.{filter}
use Rattle.samtags.specs.Spots.{holds}
use Rattle.strides.proofs.count_block.Given as goal

abbrev pub invariant-loop-b : goal.invariant-loop-b
invariant-loop-b l = (l.n ≤ l.b-index) × (l.n ≡ length (filter (holds l.base) (take l.b-index l.block)))
