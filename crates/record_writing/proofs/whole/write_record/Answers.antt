-- `write_record`: 12 if the new record has no room; else its head and its fields are written, one behind the other.
-- Assumes nothing.
use mathlib.Core.Path.{◌∙◌, sym}
use Prim.Native.Nat.{◌-◌}
use mathlib.Core.List.{◌++◌}
use native.Mathlib.Omega.{arith}
use lib.ListN.{length, take}
use borrow.Author.Tests.{leb-false, leb-true}
use Rattle.record_tags.specs.Plans.{Means, by_window, means}
use Rattle.record_tags.specs.Records.{finished_with}
use Rattle.record_writing.proofs.WalkLaws.{ahead, in_room_lem, no_room, whole_long, whole_written}
use Rattle.record_writing.proofs.whole.write_record.Goals as goal

pub returns-then-not-fits : goal.returns-then-not-fits
returns-then-not-fits c =
    let meant : Means = means (by_window c.args.lo c.args.after.now c.args.marks.now c.args.seq.now) c.args.mm.now c.args.ml.now c.args.bases in
    let whole = take c.args.from c.args.bam.now ++ ahead (meant) c.args.plan c.args.bam.now c.args.from in
    no_room (finished_with c.args.went whole) c.args.out.now
    (leb-false (length whole) (length c.args.out.now) (sym c.has_room-fits.ensures ∙ c.if-not-fits.true))

pub returns : goal.returns
returns c =
    let meant : Means = means (by_window c.args.lo c.args.after.now c.args.marks.now c.args.seq.now) c.args.mm.now c.args.ml.now c.args.bases in
    let rest = ahead (meant) c.args.plan c.args.bam.now c.args.from in
    let whole = take c.args.from c.args.bam.now ++ rest in
    let fits = leb-true (length whole) (length c.args.out.now) (sym c.has_room-fits.ensures ∙ c.if-not-fits.false) in
    in_room_lem (finished_with c.args.went whole) c.args.out.now c.put_fields-n.new.out c.put_fields-n.result fits
    (c.put_fields-n.ensures.0 ∙ sym (whole_long c.args.bam.now rest c.args.from c.requires.from_in_bounds.0))
    (whole_written c.args.bam.now rest c.args.out.now c.put_bytes.new.out c.put_fields-n.new.out c.args.from (c.args.from - 0) c.requires.from_in_bounds.0 (omega arith)
    c.put_bytes.ensures.1 c.put_fields-n.ensures.1 fits)
