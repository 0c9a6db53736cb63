-- `scan_fields`. Invariant: all fields parse if those from here on do, and what is noted is right of the fields up to here.
-- Assumes nothing.
use mathlib.Core.Path.{◌≡◌}
use Prim.Native.Nat.{◌-◌, ◌≤◌}
use lib.ListN.{drop, length}
use Rattle.lent.specs.Answers.{is_done}
use Rattle.record_fields.proofs.SpotLaws.{Noted}
use Rattle.record_fields.specs.Fields.{fields}
use Rattle.record_fields.proofs.scan_fields.Given as goal

abbrev pub invariant-loop-at : goal.invariant-loop-at
invariant-loop-at l = (l.at ≤ length l.bam) × (is_done (fields (drop l.from l.bam)) ≡ is_done (fields (drop l.at l.bam))) × Noted l.bam l.from l.at l.ats l.sizes
    × (length l.ats ≡ 6) × (length l.sizes ≡ 6)

abbrev pub decreases-loop-at : goal.decreases-loop-at
decreases-loop-at l = length l.bam - l.at
