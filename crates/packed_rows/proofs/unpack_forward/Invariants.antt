-- `unpack_forward`. Invariant: the bases of the first i bytes are at the front of the row.
-- Assumes nothing.
use mathlib.Core.Path.{◌≡◌}
use Prim.Native.Nat.{◌*◌}
use lib.ListN.{length}
use Rattle.lent.specs.Filled.{over}
use Rattle.lent.specs.Lists.{tabulate}
use Rattle.packed.specs.Walks.{letter_at}
use Rattle.packed_rows.proofs.unpack_forward.Given as goal

abbrev pub invariant-loop-i : goal.invariant-loop-i
invariant-loop-i l = (l.row ≡ over (tabulate (2 * l.i) (letter_at l.packed)) l.initial.row) × (length l.row ≡ length l.initial.row)
