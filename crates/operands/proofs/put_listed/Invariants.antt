-- `put_listed`. Invariant: storing at the remaining listed places in the present row gives the same as storing at all of them in the row that was lent.
-- Assumes nothing.
use mathlib.Core.Path.{◌≡◌}
use Prim.Native.Nat.{◌+◌, ◌-◌, ◌≤◌}
use mathlib.Core.List.{map}
use lib.ListN.{length}
use Rattle.samtags.specs.Decimal.{value}
use Rattle.changing.specs.Windows.{stored_at}
use Rattle.lines.proofs.UpToLaws.{fields_from}
use Rattle.lines.specs.Lines.{are_numbers, joined}
use Rattle.operands.proofs.put_listed.Given as goal

abbrev pub invariant-loop-at : goal.invariant-loop-at
invariant-loop-at l = (l.at ≤ length l.body + 1) × (are_numbers 4294967295 (joined l.body) ≡ are_numbers 4294967295 (fields_from l.body l.at))
    × (stored_at l.b (map value (joined l.body)) l.initial.row ≡ stored_at l.b (map value (fields_from l.body l.at)) l.row) × (length l.row ≡ length l.initial.row)

abbrev pub decreases-loop-at : goal.decreases-loop-at
decreases-loop-at l = length l.body + 1 - l.at
