-- `pass_tracked`. Invariant: the number of the group's bases still to pass is `skip` minus the ordinal, and of those that were passed the ones still held
-- are counted.
-- Assumes nothing.
use mathlib.Core.Path.{◌≡◌}
use Prim.Native.Nat.{◌-◌, ◌≤◌}
use Rattle.changing.specs.Drafts.{passing}
use Rattle.changing.specs.Windows.{held_in}
use Rattle.places.specs.Walk.{tracked_from}
use Rattle.entries.proofs.pass_tracked.Given as goal

abbrev pub invariant-loop-at : goal.invariant-loop-at
invariant-loop-at l = record {
  not_past : l.ordinal.0 ≤ l.skip.0;
  below : l.ordinal.0 ≤ l.at;
  few : l.held.0 ≤ l.ordinal.0;
  passes : passing (held_in l.window.lo l.after l.base) 0 l.skip.0 (tracked_from l.base l.fn.from.0 l.seq)
      ≡ passing (held_in l.window.lo l.after l.base) l.held.0 (l.skip.0 - l.ordinal.0) (tracked_from l.base l.at l.seq);
}
