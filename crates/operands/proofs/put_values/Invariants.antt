-- `put_values`. Invariant: storing the remaining values behind those already stored gives the same as storing all of them from the start.
-- Assumes nothing.
use mathlib.Core.Path.{◌≡◌}
use Prim.Native.Nat.{◌+◌, ◌-◌, ◌≤◌}
use mathlib.Core.List.{map}
use lib.ListN.{length}
use lib.Seq.{sets}
use Rattle.samtags.specs.Decimal.{value}
use Rattle.lines.proofs.UpToLaws.{fields_from}
use Rattle.lines.specs.Lines.{are_numbers, joined}
use Rattle.operands.proofs.put_values.Given as goal

abbrev pub invariant-loop-at : goal.invariant-loop-at
invariant-loop-at l = (l.at ≤ length l.body + 1) × (are_numbers 255 (joined l.body) ≡ are_numbers 255 (fields_from l.body l.at))
    × (sets l.initial.row 0 (map value (joined l.body)) ≡ sets l.row l.n (map value (fields_from l.body l.at)))
    × (length (map value (joined l.body)) ≡ l.n + length (map value (fields_from l.body l.at))) × (length l.row ≡ length l.initial.row) × (l.n ≤ l.at)

abbrev pub decreases-loop-at : goal.decreases-loop-at
decreases-loop-at l = length l.body + 1 - l.at
