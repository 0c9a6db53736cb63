-- `put_places` stores one place after the other. Invariant: the front of the row holds the places so far, and the rest is unchanged.
-- Assumes nothing.
use mathlib.Core.Path.{◌≡◌}
use Rattle.lent.specs.Filled.{over}
use Rattle.walking.specs.Walk.{run}
use Rattle.walking.proofs.put_places.Given as goal

abbrev pub invariant-loop-i : goal.invariant-loop-i
invariant-loop-i l = l.out ≡ over (run l.is_reverse l.place l.i) l.initial.out
