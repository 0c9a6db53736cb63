use mathlib.Core.Path.{◌∙◌, ap, refl, sym}
use Prim.Native.Nat.{◌+◌, ◌*◌, ◌≤◌, ◌<◌}
use mathlib.Core.Bool.{true}
use native.Mathlib.Omega.{arith}
use lib.ListN.{get_or, length, length-set}
use lib.Seq.{length-sets}
use Rattle.record_fields.specs.Fields.{joined}
use Rattle.record_fields.specs.Spots.{part}
use Rattle.record_pieces.proofs.PieceLaws.{none_waits}
use Rattle.record_pieces.specs.Pens.{text_in, values_in}
use Rattle.record_tags.specs.Changes.{applied}
use Rattle.record_tags.specs.Plans.{Means, by_window, means, next_of, queue_by}
use Rattle.record_writing.proofs.WalkLaws.{ahead, field_fits, onward_end, turn_done, turn_end, turn_next, turn_onward, turn_ready, window_shrinks}
use Rattle.record_writing.proofs.put_fields.Goals as goal

pub loop-at-init : goal.loop-at-init
loop-at-init c =
    let tag = by_window c.args.lo c.args.after.now c.args.marks.now c.args.seq.now true c.args.mm.now c.args.ml.now in (
      c.requires.from_in_bounds.0,
      c.requires.bam_value,
      c.requires.ready,
      omega arith,
      omega arith,
      (none_waits (values_in tag) c.args.work.now 0, none_waits (text_in tag) c.args.work.now 0),
      refl,
      refl,
      (refl, refl),
    )

pub bounds-bam-at-in-loop-at : goal.bounds-bam-at-in-loop-at
bounds-bam-at-in-loop-at c =
    let fits : (4 ≤ c.field_size-size.result) × (c.loop-at.at + c.field_size-size.result ≤ length c.args.bam.now) = field_fits c.args.bam.now c.loop-at.at c.field_size-size.result (omega arith) c.loop-at.invariant.1 c.field_size-size.ensures in
    omega (arith, fits)

pub put_field-pen-requires : goal.put_field-pen-requires
put_field-pen-requires c =
    let meant : Means = means (by_window c.args.lo c.args.after.now c.args.marks.now c.args.seq.now) c.args.mm.now c.args.ml.now c.args.bases in
    let fits : (4 ≤ c.field_size-size.result) × (c.loop-at.at + c.field_size-size.result ≤ length c.args.bam.now) = field_fits c.args.bam.now c.loop-at.at c.field_size-size.result (omega arith) c.loop-at.invariant.1 c.field_size-size.ensures in
    let below : c.loop-at.at < length c.args.bam.now = omega arith in
    let no_wrap : c.loop-at.pen.end + 2 * c.field_size-size.result < 18446744073709551616 = omega (arith, fits, c.loop-at.invariant.4) in
    let fit = fits in
    let number = get_or c.loop-at.left c.name_by-name.result 0 in
    let ready = turn_ready (meant) c.args.bam.now c.loop-at.left c.loop-at.at c.field_size-size.result c.name_by-name.result number (next_of number) (below) c.loop-at.invariant.1
    c.field_size-size.ensures c.name_by-name.ensures.0 refl refl c.loop-at.invariant.3 c.name_by-name.ensures.1 c.loop-at.invariant.2 in record { size_in_bounds = (fit.1, fit.0, no_wrap, c.requires.from_in_bounds.1, c.requires.from_in_bounds.2, c.requires.from_in_bounds.3, c.requires.from_in_bounds.4); size_value = ready; waiting = c.loop-at.invariant.5 }

pub overflow_add-at-in-loop-at : goal.overflow_add-at-in-loop-at
overflow_add-at-in-loop-at c =
    let fits : (4 ≤ c.field_size-size.result) × (c.loop-at.at + c.field_size-size.result ≤ length c.args.bam.now) = field_fits c.args.bam.now c.loop-at.at c.field_size-size.result (omega arith) c.loop-at.invariant.1 c.field_size-size.ensures in
    omega (arith, fits)

pub loop-at-smaller : goal.loop-at-smaller
loop-at-smaller c =
    let fits : (4 ≤ c.field_size-size.result) × (c.loop-at.at + c.field_size-size.result ≤ length c.args.bam.now) = field_fits c.args.bam.now c.loop-at.at c.field_size-size.result (omega arith) c.loop-at.invariant.1 c.field_size-size.ensures in
    omega (arith, fits)

pub loop-at-preserved : goal.loop-at-preserved
loop-at-preserved c =
    let meant : Means = means (by_window c.args.lo c.args.after.now c.args.marks.now c.args.seq.now) c.args.mm.now c.args.ml.now c.args.bases in
    let fits : (4 ≤ c.field_size-size.result) × (c.loop-at.at + c.field_size-size.result ≤ length c.args.bam.now) = field_fits c.args.bam.now c.loop-at.at c.field_size-size.result (omega arith) c.loop-at.invariant.1 c.field_size-size.ensures in
    let below : c.loop-at.at < length c.args.bam.now = omega arith in
    let number = get_or c.loop-at.left c.name_by-name.result 0 in
    let m = meant in
    let lo = below in
    let out = c.put_field-pen.new.out in (
      (fits).1,
      turn_done m c.args.bam.now c.loop-at.left c.loop-at.at c.field_size-size.result c.name_by-name.result number c.next_of.result lo c.loop-at.invariant.1 c.field_size-size.ensures c.name_by-name.ensures.0 refl c.next_of.ensures
          c.loop-at.invariant.3 c.name_by-name.ensures.1 c.loop-at.invariant.2,
      turn_next m c.args.bam.now c.loop-at.left c.loop-at.at c.field_size-size.result c.name_by-name.result number c.next_of.result lo c.loop-at.invariant.1 c.field_size-size.ensures c.name_by-name.ensures.0 refl c.next_of.ensures
          c.loop-at.invariant.3 c.name_by-name.ensures.1 c.loop-at.invariant.2,
      c.loop-at.invariant.3 ∙ sym (length-set c.loop-at.left c.name_by-name.result c.next_of.result),
      turn_end m c.args.bam.now c.loop-at.left c.loop-at.at c.field_size-size.result c.name_by-name.result number c.next_of.result lo c.loop-at.invariant.1 c.field_size-size.ensures c.name_by-name.ensures.0 refl c.next_of.ensures
          c.loop-at.invariant.3 c.name_by-name.ensures.1 c.loop-at.invariant.2 c.loop-at.out out c.loop-at.pen.end c.put_field-pen.result.end c.put_field-pen.ensures.0
          (window_shrinks c.args.lo c.args.after.now c.args.marks.now c.args.seq.now) c.loop-at.invariant.4,
      c.put_field-pen.ensures.1,
      ap length c.put_field-pen.ensures.0.1 ∙ length-sets c.loop-at.out c.loop-at.pen.end (joined (applied (queue_by m number) (part c.args.bam.now c.loop-at.at c.field_size-size.result))) ∙ c.loop-at.invariant.6,
      omega arith,
      turn_onward m c.args.bam.now c.loop-at.left c.loop-at.at c.field_size-size.result c.name_by-name.result number c.next_of.result lo c.loop-at.invariant.1 c.field_size-size.ensures c.name_by-name.ensures.0 refl c.next_of.ensures
          c.loop-at.invariant.3 c.name_by-name.ensures.1 c.loop-at.invariant.2 c.loop-at.out out c.loop-at.pen.end c.put_field-pen.result.end c.put_field-pen.ensures.0
          (ahead m c.args.plan c.args.bam.now c.args.from) c.args.out.now c.args.from c.loop-at.invariant.8,
    )

pub returns : goal.returns
returns c =
    let meant : Means = means (by_window c.args.lo c.args.after.now c.args.marks.now c.args.seq.now) c.args.mm.now c.args.ml.now c.args.bases in
    onward_end (meant) c.loop-at.left c.args.bam.now (ahead (meant) c.args.plan c.args.bam.now c.args.from) c.args.out.now c.loop-at.out c.args.from c.loop-at.at c.loop-at.pen.end
    (omega arith) c.loop-at.invariant.8
