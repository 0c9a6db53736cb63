-- `put_tag_counts`. Invariant: the front of the row holds the counts so far as a tag holds them, and the rest is unchanged.
-- Assumes nothing.
use mathlib.Core.Path.{◌≡◌}
use mathlib.Core.List.{map}
use Prim.Native.Nat.{ℕ, min}
use lib.IntN.{ℤ, pos}
use lib.ListN.{take}
use Rattle.lent.specs.Filled.{over}
use Rattle.columns.proofs.put_tag_counts.Given as goal

abbrev pub tag_count : ℕ → ℤ
tag_count n = pos (min 32767 n)

abbrev pub invariant-loop-i : goal.invariant-loop-i
invariant-loop-i l = l.counts ≡ over (map tag_count (take l.i l.column)) l.initial.counts
