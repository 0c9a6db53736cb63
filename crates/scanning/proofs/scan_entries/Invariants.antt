-- `scan_entries`. Invariant: reading the remaining entries, after the calls that the columns hold, gives the result for all entries of the group.
-- Assumes nothing.
use mathlib.Core.Path.{◌≡◌}
use Prim.Native.Nat.{◌+◌, ◌-◌, ◌≤◌, ℕ}
use mathlib.Core.List.{List}
use lib.ListN.{drop, length}
use Rattle.lent.specs.Outcome.{on_done, Outcome}
use Rattle.samtags.specs.Reading.{nowhere, read_spots}
use Rattle.samtags.specs.Text.{led_by, up_to}
use Rattle.fields.specs.Fields.{field_of}
use Rattle.places.specs.Walk.{tracked_from}
use Rattle.scanning.specs.Scanning.{columns, listed_spots, Columns, Listed}
use Rattle.scanning.proofs.scan_entries.Given as goal

-- what the reading from a separator, a place and a value on leaves, after n calls
abbrev pub listed_from : List ℕ → List ℕ → List ℕ → ℕ → ℕ → ℕ → Columns → ℕ → ℕ → ℕ → ℕ → Outcome (Listed × List ℕ)
listed_from seq text ml base values g c n used at from =
    on_done (listed_spots g c n used) (read_spots values nowhere (led_by 44 (up_to 59 (drop at text))) (tracked_from base from seq) (drop used ml))

abbrev pub invariant-loop-at : goal.invariant-loop-at
invariant-loop-at l = (l.at + length (up_to 59 (drop l.at l.text)) ≡ l.start.at + length (up_to 59 (drop l.start.at l.text)))
    × (length (field_of (drop l.at l.text)) ≡ 0)
    × (l.from.0 ≤ length l.seq) × (l.used ≤ length l.ml) × (l.calls ≤ l.at) × (l.start.at ≤ l.at)
    × (listed_from l.seq l.text l.ml l.base l.values l.start.group (columns l.initial.groups l.initial.places l.initial.starts) l.start.calls l.start.used l.start.at 0
    ≡ listed_from l.seq l.text l.ml l.base l.values l.start.group (columns l.groups l.places l.starts) l.calls l.used l.at l.from.0)
    × (length l.groups ≡ length l.initial.groups) × (length l.places ≡ length l.initial.places) × (length l.starts ≡ length l.initial.starts)

abbrev pub decreases-loop-at : goal.decreases-loop-at
decreases-loop-at l = length l.text - l.at
