-- `count_above` looks at one value after the other.
-- Assumes nothing.
use mathlib.Core.Path.{◌≡◌}
use Prim.Native.Nat.{◌≤◌}
use lib.ListN.{length, take}
use Rattle.lent.specs.Lists.{filter}
use Rattle.samtags.specs.Reading.{is_above}
use Rattle.reading.proofs.count_above.Given as goal

abbrev pub invariant-loop-v : goal.invariant-loop-v
invariant-loop-v l = (l.above ≤ l.v-index) × (l.above ≡ length (filter is_above (take l.v-index l.ml)))
