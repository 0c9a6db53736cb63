-- `letters_forward`. Invariant: the first i letters are at the front of the row.
-- Assumes nothing.
use mathlib.Core.Path.{◌≡◌}
use lib.ListN.{get_or, length}
use Rattle.lent.specs.Filled.{over}
use Rattle.lent.specs.Lists.{tabulate}
use Rattle.record_rows.proofs.letters_forward.Given as goal

abbrev pub invariant-loop-i : goal.invariant-loop-i
invariant-loop-i l = (l.row ≡ over (tabulate l.i (λ p. get_or l.letters p 0)) l.initial.row) × (length l.row ≡ length l.initial.row)
