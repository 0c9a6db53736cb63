-- `letters_backward`. Invariant: the complements of the last i letters, in reverse order, are at the front of the row.
-- Assumes nothing.
use mathlib.Core.Path.{◌≡◌}
use lib.ListN.{length}
use Rattle.lent.specs.Filled.{over}
use Rattle.lent.specs.Lists.{tabulate}
use Rattle.record_rows.proofs.LetterLaws.{turned_at}
use Rattle.record_rows.proofs.letters_backward.Given as goal

abbrev pub invariant-loop-i : goal.invariant-loop-i
invariant-loop-i l = (l.row ≡ over (tabulate l.i (turned_at l.letters)) l.initial.row) × (length l.row ≡ length l.initial.row)
