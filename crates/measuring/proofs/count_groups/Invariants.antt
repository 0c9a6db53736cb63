-- `count_groups`. Invariant: reading the remaining groups, after the groups and calls counted so far, gives the result for all groups.
-- Assumes nothing.
use mathlib.Core.Path.{◌≡◌}
use Prim.Native.Nat.{◌-◌, ◌≤◌, ℕ}
use mathlib.Core.Bool.{Bool, false}
use mathlib.Core.List.{List}
use lib.ListN.{drop, length}
use Rattle.lent.specs.Outcome.{on_done, Outcome}
use Rattle.samtags.specs.Reading.{nowhere, read_groups}
use Rattle.samtags.specs.Text.{closed_by}
use Rattle.measuring.specs.Counting.{groups_counted}
use Rattle.measuring.specs.declared.Count.{Count}
use Rattle.measuring.proofs.count_groups.Given as goal

-- the outcome of reading from a cursor on
abbrev pub counted_from : Bool → (ℕ → Bool) → List ℕ → List ℕ → List ℕ → Count → Outcome (ℕ × ℕ)
counted_from ml? named seq text ml c =
    on_done (groups_counted c.group c.calls) (read_groups ml? named seq (closed_by 59 (drop c.at text)) (drop c.used ml))

abbrev pub invariant-loop-c : goal.invariant-loop-c
invariant-loop-c l = (l.c.at ≤ length l.text) × (l.c.used ≤ length l.ml) × (l.c.group ≤ l.c.at) × (l.c.calls ≤ l.c.at)
    × ((named : ℕ → Bool) → (l.marked ≡ false → named ≡ nowhere) → counted_from l.has_ml named l.seq l.text l.ml l.initial.c ≡ counted_from l.has_ml named l.seq l.text l.ml l.c)

abbrev pub decreases-loop-c : goal.decreases-loop-c
decreases-loop-c l = length l.text - l.c.at
