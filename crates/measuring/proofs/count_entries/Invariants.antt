-- `count_entries`. Invariant: reading the remaining entries, over as many places as are left, gives the result for all entries of the group.
-- Assumes nothing.
use mathlib.Core.Path.{◌≡◌}
use Prim.Native.Nat.{◌+◌, ◌-◌, ◌≤◌, ℕ}
use mathlib.Core.List.{List}
use lib.ListN.{drop, length}
use Rattle.samtags.specs.Text.{up_to}
use Rattle.fields.specs.Fields.{field_of}
use Rattle.measuring.proofs.CountLaws.{counted_from}
use Rattle.measuring.proofs.count_entries.Given as goal

abbrev pub invariant-loop-at : goal.invariant-loop-at
invariant-loop-at l = (l.at + length (up_to 59 (drop l.at l.text)) ≡ l.start.at + length (up_to 59 (drop l.start.at l.text)))
    × (length (field_of (drop l.at l.text)) ≡ 0) × (l.used ≤ length l.ml) × (l.calls ≤ l.at) × (l.start.at ≤ l.at) × (l.left ≤ l.all)
    × ((places : List ℕ) → l.all ≡ length places → (rest : List ℕ) × (l.left ≡ length rest)
    × (counted_from l.values l.text l.ml l.start.calls l.start.used l.start.at places ≡ counted_from l.values l.text l.ml l.calls l.used l.at rest))

abbrev pub decreases-loop-at : goal.decreases-loop-at
decreases-loop-at l = length l.text - l.at
