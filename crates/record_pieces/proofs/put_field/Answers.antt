-- `put_field`: 3 by `put_text`, 4 by `put_array`, every other number by `put_other`, and then what waits stays as it is.
-- Assumes nothing.
use mathlib.Core.Path.{◌≡◌, ◌∙◌}
use Prim.Native.Nat.{◌+◌, ◌≤◌, ◌<◌}
use mathlib.Core.Bool.{true}
use mathlib.Core.List.{[], ◌∷◌}
use native.Mathlib.Omega.{arith}
use lib.ListN.{length}
use Rattle.record_fields.specs.Fields.{Field}
use Rattle.record_fields.specs.Spots.{part}
use Rattle.record_pieces.proofs.PieceLaws.{applied_other, by_paired, by_values, length_part, ready_other, ready_paired, ready_values, wrote_as}
use Rattle.record_pieces.specs.Pens.{text_in, values_in}
use Rattle.record_tags.specs.Changes.{TagEdit, applied}
use Rattle.record_tags.specs.Plans.{Means, by_window, means, queue_by}
use Rattle.record_tags.specs.Values.{with_text, with_values}
use Rattle.record_pieces.proofs.put_field.Goals as goal

pub put_text-requires : goal.put_text-requires
put_text-requires c =
    let edit : TagEdit = by_window c.args.lo c.args.after.now c.args.marks.now c.args.seq.now in
    let meant : Means = means (edit) c.args.mm.now c.args.ml.now c.args.bases in
    let field : Field = part c.args.bam.now c.args.at c.args.size in
    let ready = ready_paired (meant) c.args.number (field) c.requires.size_value (omega arith) in
    let long = length_part c.args.bam.now c.args.at c.args.size c.requires.size_in_bounds.0 in
    let all : c.args.at + 4 ≤ length c.args.bam.now = omega (arith, c.requires.size_in_bounds) in
    let room : c.args.pen.end + length c.args.mm.now + 4 < 18446744073709551616 = omega (arith, c.requires.size_in_bounds, ready.1, long) in
    record { at_in_bounds = (all, room, c.requires.size_in_bounds.3, c.requires.size_in_bounds.4, c.requires.size_in_bounds.5); ml_value = ready.0; waiting = c.requires.waiting }

pub returns-then-number-eq-PAIRED : goal.returns-then-number-eq-PAIRED
returns-then-number-eq-PAIRED c =
    let edit : TagEdit = by_window c.args.lo c.args.after.now c.args.marks.now c.args.seq.now in
    let meant : Means = means (edit) c.args.mm.now c.args.ml.now c.args.bases in
    let field : Field = part c.args.bam.now c.args.at c.args.size in
    let three : c.args.number ≡ 3 = omega arith in (
      wrote_as (applied (queue_by (meant) c.args.number) (field)) (with_text (text_in (edit true c.args.mm.now c.args.ml.now)) (field) ∷ [])
          c.args.pen.end c.put_text.result.end c.args.out.now _ (by_paired (meant) c.args.number (field) c.requires.size_value (three))
          (c.put_text.ensures.0 c.args.size c.requires.size_in_bounds.1),
      c.put_text.ensures.1,
    )

pub put_array-requires : goal.put_array-requires
put_array-requires c =
    let edit : TagEdit = by_window c.args.lo c.args.after.now c.args.marks.now c.args.seq.now in
    let meant : Means = means (edit) c.args.mm.now c.args.ml.now c.args.bases in
    let field : Field = part c.args.bam.now c.args.at c.args.size in
    let ready = ready_values (meant) c.args.number (field) c.requires.size_value (omega arith) in
    let long = length_part c.args.bam.now c.args.at c.args.size c.requires.size_in_bounds.0 in
    let all : c.args.at + 4 ≤ length c.args.bam.now = omega (arith, c.requires.size_in_bounds) in
    let room : c.args.pen.end + length c.args.ml.now + 8 < 18446744073709551616 = omega (arith, c.requires.size_in_bounds, ready.1, long) in
    record { at_in_bounds = (all, room, c.requires.size_in_bounds.3, c.requires.size_in_bounds.4, c.requires.size_in_bounds.5); ml_value = ready.0; waiting = c.requires.waiting }

pub returns-then-number-eq-VALUES : goal.returns-then-number-eq-VALUES
returns-then-number-eq-VALUES c =
    let edit : TagEdit = by_window c.args.lo c.args.after.now c.args.marks.now c.args.seq.now in
    let meant : Means = means (edit) c.args.mm.now c.args.ml.now c.args.bases in
    let field : Field = part c.args.bam.now c.args.at c.args.size in
    let four : c.args.number ≡ 4 = omega arith in (
      wrote_as (applied (queue_by (meant) c.args.number) (field)) (with_values (values_in (edit true c.args.mm.now c.args.ml.now)) (field) ∷ [])
          c.args.pen.end c.put_array.result.end c.args.out.now _ (by_values (meant) c.args.number (field) c.requires.size_value (four))
          (c.put_array.ensures.0 c.args.size c.requires.size_in_bounds.1),
      c.put_array.ensures.1,
    )

pub put_other-end-requires : goal.put_other-end-requires
put_other-end-requires c =
    let edit : TagEdit = by_window c.args.lo c.args.after.now c.args.marks.now c.args.seq.now in
    let field : Field = part c.args.bam.now c.args.at c.args.size in
    let neither : (c.args.number ≡ 3 → ⊥) × (c.args.number ≡ 4 → ⊥) = (λ e. absurd (omega (arith, e)), λ e. absurd (omega (arith, e))) in
    let n = neither in
    record { size_in_bounds = (c.requires.size_in_bounds.0, c.requires.size_in_bounds.1, c.requires.size_in_bounds.2, c.requires.size_in_bounds.3, c.requires.size_in_bounds.6, n.0, n.1); size_value = ready_other (edit) c.args.mm.now c.args.ml.now c.args.bases c.args.number (field) n.0 n.1 ∙ c.requires.size_value }

pub returns : goal.returns
returns c =
    let edit : TagEdit = by_window c.args.lo c.args.after.now c.args.marks.now c.args.seq.now in
    let meant : Means = means (edit) c.args.mm.now c.args.ml.now c.args.bases in
    let field : Field = part c.args.bam.now c.args.at c.args.size in
    let neither : (c.args.number ≡ 3 → ⊥) × (c.args.number ≡ 4 → ⊥) = (λ e. absurd (omega (arith, e)), λ e. absurd (omega (arith, e))) in
    let n = neither in (
      wrote_as (applied (queue_by (meant) c.args.number) (field)) (applied (queue_by (means (edit) [] [] c.args.bases) c.args.number) (field))
          c.args.pen.end c.put_other-end.result c.args.out.now _ (applied_other (edit) c.args.mm.now c.args.ml.now c.args.bases c.args.number (field) n.0 n.1) c.put_other-end.ensures,
      c.requires.waiting,
    )
