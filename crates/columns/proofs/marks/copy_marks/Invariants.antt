-- `copy_marks`. Invariant: the front of the row holds the marks so far, yes written as 1, and the rest is unchanged.
-- Assumes nothing.
use mathlib.Core.Path.{◌≡◌}
use mathlib.Core.List.{map}
use Prim.Native.Nat.{ℕ}
use lib.ListN.{take}
use Rattle.lent.specs.Filled.{over}
use Rattle.columns.specs.Columns.{is_yes, yes_byte}
use Rattle.columns.proofs.marks.copy_marks.Given as goal

abbrev pub mark : ℕ → ℕ
mark y = yes_byte (is_yes y)

abbrev pub invariant-loop-i : goal.invariant-loop-i
invariant-loop-i l = l.out ≡ over (map mark (take l.i l.informative)) l.initial.out
