-- `turn_even`. Invariant: the first i bytes of the turned SEQ are written.
-- Assumes nothing.
use mathlib.Core.Path.{◌≡◌}
use Prim.Native.Nat.{◌+◌}
use lib.ListN.{length}
use Rattle.lent.specs.Filled.{over}
use Rattle.lent.specs.Lists.{tabulate}
use Rattle.packed.specs.Packed.{reverse_complement, unpack}
use Rattle.packed.specs.Walks.{pair_at}
use Rattle.packed_rows.proofs.turn_even.Given as goal

abbrev pub invariant-loop-i : goal.invariant-loop-i
invariant-loop-i l = (l.at + l.i ≡ l.whole) × (l.out ≡ over (tabulate l.i (pair_at (reverse_complement (unpack l.n l.packed)))) l.initial.out) × (length l.out ≡ length l.initial.out)
