-- `scan_groups`. Invariant: reading the remaining groups, after the groups and calls so far, gives the result for all groups.
-- Assumes nothing.
use mathlib.Core.Path.{◌≡◌}
use Prim.Native.Nat.{◌-◌, ◌≤◌, ℕ}
use mathlib.Core.Bool.{Bool}
use mathlib.Core.List.{List}
use lib.ListN.{drop, length}
use Rattle.lent.specs.Outcome.{on_done, Outcome}
use Rattle.samtags.specs.Reading.{nowhere, read_groups}
use Rattle.samtags.specs.Text.{closed_by}
use Rattle.scanning.specs.Scanning.{columns, finished, Columns, Finished}
use Rattle.scanning.specs.declared.Cursor.{Cursor}
use Rattle.scanning.proofs.scan_groups.Given as goal

-- what the reading from a cursor on leaves
abbrev pub finished_from : Bool → List ℕ → List ℕ → List ℕ → Columns → Cursor → Outcome Finished
finished_from ml? seq text ml rows c =
    on_done (finished c.group rows c.calls c.used) (read_groups ml? nowhere seq (closed_by 59 (drop c.at text)) (drop c.used ml))

abbrev pub invariant-loop-c : goal.invariant-loop-c
invariant-loop-c l = (l.c.at ≤ length l.text) × (l.c.used ≤ length l.ml) × (l.c.group ≤ l.c.at) × (l.c.calls ≤ l.c.at)
    × (finished_from l.has_ml l.seq l.text l.ml (columns l.initial.groups l.initial.places l.initial.starts) l.initial.c ≡ finished_from l.has_ml l.seq l.text l.ml (columns l.groups l.places l.starts) l.c)
    × (length l.groups ≡ length l.initial.groups) × (length l.places ≡ length l.initial.places) × (length l.starts ≡ length l.initial.starts)

abbrev pub decreases-loop-c : goal.decreases-loop-c
decreases-loop-c l = length l.text - l.c.at
