-- `edit_record` finds what becomes of the tags, and writes the record by that plan.
-- Assumes nothing.
use mathlib.Core.Path.{◌∙◌, ap}
use native.Mathlib.Omega.{arith}
use lib.ListN.{length}
use Rattle.record_edits.proofs.EditedLaws.{am_fits, bases_fit, bm_fits, edit_finished, edit_ready, ml_fits, mm_fits, sound, text_slice, values_slice}
use Rattle.record_fates.specs.Fates.{guarded}
use Rattle.record_tags.specs.Plans.{by_window}
use Rattle.record_tags.specs.Records.{Finished, array_fits, in_room, text_fits}
use Rattle.record_writing.specs.Answers.{leaves_record}
use Rattle.record_edits.proofs.edit_record.Goals as goal

pub pair_fate-mm-requires : goal.pair_fate-mm-requires
pair_fate-mm-requires c =
    let x = c.args.bam.now in
    let at = c.args.ats.now in
    let size = c.args.sizes.now in record {
      size_in_bounds = (
        (c.requires.from_in_bounds.2 0 (omega arith)).1,
        sound x c.args.from at size c.args.bases c.requires.by_index.0 c.requires.from_in_bounds.1 c.requires.from_in_bounds.2 c.requires.by_index.1 0 (omega arith),
        ap text_fits (c.requires.from_in_bounds.2 0 (omega arith)).0 ∙ mm_fits x c.args.from at size c.args.bases c.requires.by_index.0 c.requires.from_in_bounds.1 c.requires.from_in_bounds.2 c.requires.by_index.1,
        c.requires.from_in_bounds.3,
      );
      ml_size_in_bounds = (
        (c.requires.from_in_bounds.2 1 (omega arith)).1,
        sound x c.args.from at size c.args.bases c.requires.by_index.0 c.requires.from_in_bounds.1 c.requires.from_in_bounds.2 c.requires.by_index.1 1 (omega arith),
        ap array_fits (c.requires.from_in_bounds.2 1 (omega arith)).0 ∙ ml_fits x c.args.from at size c.args.bases c.requires.by_index.0 c.requires.from_in_bounds.1 c.requires.from_in_bounds.2 c.requires.by_index.1,
      );
    }

pub alone_fate-am-requires : goal.alone_fate-am-requires
alone_fate-am-requires c =
    let x = c.args.bam.now in
    let at = c.args.ats.now in
    let size = c.args.sizes.now in (
      (c.requires.from_in_bounds.2 3 (omega arith)).1,
      sound x c.args.from at size c.args.bases c.requires.by_index.0 c.requires.from_in_bounds.1 c.requires.from_in_bounds.2 c.requires.by_index.1 3 (omega arith),
      ap text_fits (c.requires.from_in_bounds.2 3 (omega arith)).0 ∙ am_fits x c.args.from at size c.args.bases c.requires.by_index.0 c.requires.from_in_bounds.1 c.requires.from_in_bounds.2 c.requires.by_index.1,
      c.requires.from_in_bounds.3,
    )

pub alone_fate-bm-requires : goal.alone_fate-bm-requires
alone_fate-bm-requires c =
    let x = c.args.bam.now in
    let at = c.args.ats.now in
    let size = c.args.sizes.now in (
      (c.requires.from_in_bounds.2 4 (omega arith)).1,
      sound x c.args.from at size c.args.bases c.requires.by_index.0 c.requires.from_in_bounds.1 c.requires.from_in_bounds.2 c.requires.by_index.1 4 (omega arith),
      ap text_fits (c.requires.from_in_bounds.2 4 (omega arith)).0 ∙ bm_fits x c.args.from at size c.args.bases c.requires.by_index.0 c.requires.from_in_bounds.1 c.requires.from_in_bounds.2 c.requires.by_index.1,
      c.requires.from_in_bounds.3,
    )

pub paired_text-text-requires : goal.paired_text-text-requires
paired_text-text-requires c = (
  (c.requires.from_in_bounds.2 0 (omega arith)).1,
  text_slice c.args.bam.now c.args.from c.args.ats.now c.args.sizes.now c.args.bases c.requires.by_index.0 c.requires.from_in_bounds.1 c.requires.from_in_bounds.2 c.requires.by_index.1
      (guarded c.args.possible (by_window c.args.lo c.args.after.now c.args.marks.now c.args.seq.now)) c.pair_fate-mm.result c.pair_fate-mm.ensures,
)

pub paired_values-values-requires : goal.paired_values-values-requires
paired_values-values-requires c = (
  (c.requires.from_in_bounds.2 1 (omega arith)).1,
  values_slice c.args.bam.now c.args.from c.args.ats.now c.args.sizes.now c.args.bases c.requires.by_index.0 c.requires.from_in_bounds.1 c.requires.from_in_bounds.2 c.requires.by_index.1
      (guarded c.args.possible (by_window c.args.lo c.args.after.now c.args.marks.now c.args.seq.now)) c.pair_fate-mm.result c.pair_fate-mm.ensures,
)

pub write_record-requires : goal.write_record-requires
write_record-requires c =
    record {
      from_in_bounds = (c.requires.from_in_bounds.0, c.requires.from_in_bounds.3, c.paired_text-text.ensures.1, c.paired_values-values.ensures.1, bases_fit c.args.bam.now c.args.from c.args.ats.now c.args.sizes.now c.args.bases c.requires.by_index.0 c.requires.from_in_bounds.1 c.requires.from_in_bounds.2 c.requires.by_index.1);
      bam_value = c.requires.from_in_bounds.1;
      ready = edit_ready c.args.bam.now c.args.from c.args.ats.now c.args.sizes.now c.args.bases c.requires.by_index.0 c.requires.from_in_bounds.1 c.requires.from_in_bounds.2 c.requires.by_index.1
          c.args.possible (by_window c.args.lo c.args.after.now c.args.marks.now c.args.seq.now) c.args.set c.pair_fate-mm.result c.alone_fate-am.result c.alone_fate-bm.result c.plan_of-plan.result c.any_goes-went.result
          c.paired_text-text.result.now c.paired_values-values.result.now c.pair_fate-mm.ensures c.alone_fate-am.ensures c.alone_fate-bm.ensures c.plan_of-plan.ensures c.any_goes-went.ensures
          c.paired_text-text.ensures.0 c.paired_values-values.ensures.0;
    }

pub returns : goal.returns
returns c =
    c.write_record.ensures
    ∙ ap (λ (r : Finished). leaves_record (in_room (length c.args.out.now) r) c.args.out.now) (edit_finished c.args.bam.now c.args.from c.args.ats.now c.args.sizes.now c.args.bases c.requires.by_index.0 c.requires.from_in_bounds.1 c.requires.from_in_bounds.2 c.requires.by_index.1
    c.args.possible (by_window c.args.lo c.args.after.now c.args.marks.now c.args.seq.now) c.args.set c.pair_fate-mm.result c.alone_fate-am.result c.alone_fate-bm.result c.plan_of-plan.result c.any_goes-went.result
    c.paired_text-text.result.now c.paired_values-values.result.now c.pair_fate-mm.ensures c.alone_fate-am.ensures c.alone_fate-bm.ensures c.plan_of-plan.ensures c.any_goes-went.ensures
    c.paired_text-text.ensures.0 c.paired_values-values.ensures.0)
