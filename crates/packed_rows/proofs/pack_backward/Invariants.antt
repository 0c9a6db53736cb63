-- `pack_backward`. Invariant: the first i bytes of the reverse complement are packed.
-- Assumes nothing.
use mathlib.Core.Path.{◌≡◌}
use lib.ListN.{length}
use Rattle.lent.specs.Filled.{over}
use Rattle.lent.specs.Lists.{tabulate}
use Rattle.packed.specs.Packed.{reverse_complement}
use Rattle.packed.specs.Walks.{pair_at}
use Rattle.packed_rows.proofs.pack_backward.Given as goal

abbrev pub invariant-loop-i : goal.invariant-loop-i
invariant-loop-i l = (l.out ≡ over (tabulate l.i (pair_at (reverse_complement l.bases))) l.initial.out) × (length l.out ≡ length l.initial.out)
