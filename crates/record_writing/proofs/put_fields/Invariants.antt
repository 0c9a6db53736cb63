-- `put_fields`: one turn for each field. Invariant: what is written from the start on is what is written from here on, and the pen is at most twice as
-- far as the walk.
-- Assumes nothing.
use mathlib.Core.Path.{◌≡◌}
use Prim.Native.Nat.{◌-◌, ◌*◌, ◌≤◌}
use mathlib.Core.Bool.{true}
use lib.ListN.{drop, length}
use Rattle.lent.specs.Answers.{is_done}
use Rattle.record_fields.specs.Fields.{fields, fields_of}
use Rattle.record_pieces.specs.Pens.{Waiting}
use Rattle.record_tags.specs.Plans.{Ready, by_window, means}
use Rattle.record_writing.proofs.WalkLaws.{Onward, ahead}
use Rattle.record_writing.proofs.put_fields.Given as goal

abbrev pub invariant-loop-at : goal.invariant-loop-at
invariant-loop-at l = (l.at ≤ length l.bam) × (is_done (fields (drop l.at l.bam)) ≡ true)
    × Ready (means (by_window l.lo l.after l.marks l.seq) l.mm l.ml l.bases) l.left (fields_of (drop l.at l.bam))
    × (6 ≡ length l.left) × (l.pen.end ≤ 2 * l.at)
    × Waiting (by_window l.lo l.after l.marks l.seq true l.mm l.ml) l.pen l.work
    × (length l.out ≡ length l.initial.out) × (length l.work ≡ length l.initial.work)
    × Onward (ahead (means (by_window l.lo l.after l.marks l.seq) l.mm l.ml l.bases) l.initial.left l.bam l.from) l.from l.initial.out
    (ahead (means (by_window l.lo l.after l.marks l.seq) l.mm l.ml l.bases) l.left l.bam l.at) l.pen.end l.out

abbrev pub decreases-loop-at : goal.decreases-loop-at
decreases-loop-at l = length l.bam - l.at
