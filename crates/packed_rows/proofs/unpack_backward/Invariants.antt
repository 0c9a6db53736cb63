-- `unpack_backward`. Invariant: the odd base, and the bases of the last i whole bytes, are at the front of the row, reverse-complemented.
-- Assumes nothing.
use mathlib.Core.Path.{◌≡◌}
use Prim.Native.Nat.{◌*◌, ◌+◌, ◌%◌, ℕ}
use mathlib.Core.List.{List}
use lib.ListN.{length}
use Rattle.lent.specs.Filled.{over}
use Rattle.lent.specs.Lists.{tabulate}
use Rattle.packed.specs.Walks.{turned_at}
use Rattle.packed_rows.proofs.unpack_backward.Given as goal

abbrev pub invariant-loop-i : goal.invariant-loop-i
invariant-loop-i l = (l.odd ≡ l.n % 2) × (length l.row ≡ length l.initial.row)
    × ((out : List ℕ) → length l.initial.row ≡ length out → l.initial.row ≡ over (tabulate l.odd (turned_at l.n l.packed)) out
    → l.row ≡ over (tabulate (l.odd + 2 * l.i) (turned_at l.n l.packed)) out)
