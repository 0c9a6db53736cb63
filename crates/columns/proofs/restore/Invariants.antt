-- `restore`. Invariant: the bases so far are restored, and the others are unchanged.
-- Assumes nothing.
use mathlib.Core.Path.{◌≡◌}
use mathlib.Core.Bool.{cond, ◌&&◌}
use mathlib.Core.List.{List}
use Prim.Native.Nat.{ℕ}
use lib.ListN.{get_or}
use Rattle.lent.proofs.InPlace.{changed_up_to}
use Rattle.pattern.specs.Case.{same_in_any_case}
use Rattle.pattern.specs.Patterns.{bases_of}
use Rattle.pattern.specs.declared.ConversionPattern.{ConversionPattern}
use Rattle.columns.specs.Columns.{is_yes}
use Rattle.columns.proofs.restore.Given as goal

abbrev pub restore_one : ConversionPattern → ℕ → ℕ → ℕ
restore_one p y b = cond (is_yes y && same_in_any_case b (bases_of p).converted) (bases_of p).unconverted b

abbrev pub restore_at : ConversionPattern → List ℕ → ℕ → ℕ → ℕ
restore_at p informative i b = restore_one p (get_or informative i 0) b

abbrev pub invariant-loop-i : goal.invariant-loop-i
invariant-loop-i l = l.bases ≡ changed_up_to (restore_at l.pattern l.informative) l.i l.initial.bases
