-- `mark_mirrored`. Invariant: storing at the mirrors of the remaining places in the present row gives the same as storing at all of them in the lent row.
-- Assumes nothing.
use mathlib.Core.Path.{◌≡◌}
use mathlib.Core.Bool.{true}
use lib.ListN.{drop, length}
use Rattle.changing.specs.Windows.{stored_at}
use Rattle.packed.specs.Stored.{places_in_read}
use Rattle.stored_rows.proofs.mark_mirrored.Given as goal

abbrev pub invariant-loop-place : goal.invariant-loop-place
invariant-loop-place l = (stored_at l.b (places_in_read true l.n l.places) l.initial.row ≡ stored_at l.b (places_in_read true l.n (drop l.place-index l.places)) l.row)
    × (length l.row ≡ length l.initial.row)
