-- `has_room`: the new record is no longer than the old one and its growth, or else it is measured.
-- Assumes nothing.
use mathlib.Core.Path.{◌≡◌, ◌∙◌, ap, sym}
use Prim.Native.Nat.{ℕ}
use mathlib.Core.List.{◌++◌}
use native.Mathlib.Omega.{arith}
use lib.Dec.{leb}
use lib.ListN.{length, take}
use borrow.Author.Tests.{le-leb}
use Rattle.record_tags.specs.Plans.{by_window, means}
use Rattle.record_writing.proofs.WalkLaws.{ahead, growth_small, whole_fits, whole_long, window_shrinks}
use Rattle.record_writing.proofs.whole.has_room.Goals as goal

pub overflow_add-bam : goal.overflow_add-bam
overflow_add-bam c = omega (arith, growth_small c.args.plan, c.growth_of-growth.ensures)

pub returns-then-bam-growth : goal.returns-then-bam-growth
returns-then-bam-growth c =
    let m = means (by_window c.args.lo c.args.after.now c.args.marks.now c.args.seq.now) c.args.mm.now c.args.ml.now c.args.bases in
    let six : 6 ≡ length c.args.plan = omega arith in
    let fits = whole_fits m (window_shrinks c.args.lo c.args.after.now c.args.marks.now c.args.seq.now) c.args.bam.now c.args.plan c.args.from six
    c.requires.from_in_bounds.0 c.requires.bam_value c.requires.ready in
    sym (le-leb (length (take c.args.from c.args.bam.now ++ ahead m c.args.plan c.args.bam.now c.args.from)) c.args.room (omega (arith, fits, c.growth_of-growth.ensures)))

pub returns : goal.returns
returns c =
    let m = means (by_window c.args.lo c.args.after.now c.args.marks.now c.args.seq.now) c.args.mm.now c.args.ml.now c.args.bases in
    ap (λ (n : ℕ). leb n c.args.room)
    (c.put_fields-n.ensures.0 ∙ sym (whole_long c.args.bam.now (ahead m c.args.plan c.args.bam.now c.args.from) c.args.from c.requires.from_in_bounds.0))
