-- `mark_places`. Invariant: storing at the remaining places in the present row gives the same as storing at all places in the row that was lent.
-- Assumes nothing.
use mathlib.Core.Path.{◌≡◌}
use lib.ListN.{drop}
use Rattle.changing.specs.Windows.{stored_at}
use Rattle.changing.proofs.mark_places.Given as goal

abbrev pub invariant-loop-p : goal.invariant-loop-p
invariant-loop-p l = stored_at l.b l.places l.initial.row ≡ stored_at l.b (drop l.p-index l.places) l.row
