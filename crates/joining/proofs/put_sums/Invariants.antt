-- `put_sums`. Invariant: the front of the row holds the sums so far, and the rest is unchanged.
-- Assumes nothing.
use mathlib.Core.Path.{◌≡◌}
use Prim.Native.Nat.{◌+◌, min, ℕ}
use mathlib.Core.List.{List}
use lib.IntN.{pos, ℤ}
use lib.ListN.{get_or}
use Rattle.lent.specs.Filled.{over}
use Rattle.lent.specs.Lists.{tabulate}
use Rattle.joining.proofs.put_sums.Given as goal

abbrev pub sum_at : List ℕ → List ℕ → ℕ → ℤ
sum_at a b i = pos (min 32767 (get_or a i 0 + get_or b i 0))

abbrev pub invariant-loop-i : goal.invariant-loop-i
invariant-loop-i l = l.counts ≡ over (tabulate l.i (sum_at l.a l.b)) l.initial.counts
