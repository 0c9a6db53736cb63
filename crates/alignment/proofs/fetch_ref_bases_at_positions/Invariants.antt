-- `fetch_ref_bases_at_positions` stores one base after the other. Invariant: the front of the row holds the bases so far, and the rest is unchanged.
-- Assumes nothing.
use mathlib.Core.Path.{◌≡◌}
use mathlib.Core.List.{map}
use lib.ListN.{take}
use Rattle.lent.specs.Filled.{over}
use Rattle.alignment.specs.Reference.{base_at}
use Rattle.alignment.proofs.fetch_ref_bases_at_positions.Given as goal

abbrev pub invariant-loop-i : goal.invariant-loop-i
invariant-loop-i l = l.bases ≡ over (map (base_at l.reference) (take l.i l.ref_positions)) l.initial.bases
