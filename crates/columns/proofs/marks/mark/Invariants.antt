-- `mark`. Invariant: the positions so far have their marks, and the others have none. Positions beyond the reference row need none.
-- Assumes nothing.
use mathlib.Core.Path.{◌≡◌}
use Rattle.lent.proofs.InPlace.{changed_up_to}
use Rattle.columns.proofs.Marked.{mark_at}
use Rattle.columns.proofs.marks.mark.Given as goal

abbrev pub invariant-loop-i : goal.invariant-loop-i
invariant-loop-i l = l.informative ≡ changed_up_to (mark_at l.pattern l.ref_bases) l.i l.initial.informative
