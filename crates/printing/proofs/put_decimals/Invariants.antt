-- `put_decimals` writes the first value, and a comma before each of the others.
-- Assumes nothing.
use mathlib.Core.Path.{◌≡◌}
use Prim.Native.Nat.{◌+◌, ◌*◌, ◌≤◌}
use lib.ListN.{drop, length}
use lib.Seq.{sets}
use Rattle.samtags.specs.Writing.{entries_text}
use Rattle.printing.proofs.put_decimals.Given as goal

abbrev pub invariant-loop-value : goal.invariant-loop-value
invariant-loop-value l = (sets l.initial.out l.initial.end (entries_text (drop 1 l.values)) ≡ sets l.out l.end (entries_text (drop (l.value-index + 1) l.values)))
    × (l.initial.end + length (entries_text (drop 1 l.values)) ≡ l.end + length (entries_text (drop (l.value-index + 1) l.values))) × (length l.out ≡ length l.initial.out) × (l.end ≤ l.initial.end + 257 * l.value-index)
