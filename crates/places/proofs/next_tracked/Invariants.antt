-- `next_tracked`. Invariant: the number of the group's bases still to pass is `skip` minus the ordinal.
-- Assumes nothing.
use mathlib.Core.Path.{◌≡◌}
use Prim.Native.Nat.{◌-◌, ◌≤◌}
use lib.ListN.{drop}
use Rattle.places.specs.Walk.{tracked_from}
use Rattle.places.proofs.next_tracked.Given as goal

abbrev pub invariant-loop-at : goal.invariant-loop-at
invariant-loop-at l = (l.ordinal.0 ≤ l.skip.0)
    × (drop l.skip.0 (tracked_from l.base l.fn.from.0 l.seq) ≡ drop (l.skip.0 - l.ordinal.0) (tracked_from l.base l.at l.seq))
