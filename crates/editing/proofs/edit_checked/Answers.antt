-- `edit_checked`: the edit is known to succeed, so the walk refuses nothing, and what it writes fits the rows.
-- Assumes nothing.
use Rattle.lent.specs.Outcome.{Outcome}
use Rattle.drafting.specs.declared.Cursor.{Cursor}
use mathlib.Core.Path.{◌≡◌, subst}
use Rattle.changing.specs.Windows.{is_marked, window_edit}
use Rattle.samtags.specs.Reading.{read_groups}
use Rattle.samtags.specs.Text.{closed_by}
use Rattle.editing.proofs.TagLaws.{edited_passed, never_refused, written_leaves}
use Rattle.drafting.specs.Walks.{TagEdited}
use Rattle.editing.proofs.edit_checked.Goals as goal

pub edit_groups-requires : goal.edit_groups-requires
edit_groups-requires c = (
  c.requires.seq_len_bound.0,
  c.requires.seq_len_bound.1,
  c.requires.seq_len_bound.2,
  (edited_passed (window_edit c.args.lo c.args.after.now c.args.marks.now) c.args.has_ml c.args.seq.now c.args.mm.now c.args.ml.now c.requires.ml_value.0 c.requires.ml_value.1).0,
)

pub returns-in_err-size : goal.returns-in_err-size
returns-in_err-size c =
    let walked : (r : Outcome Cursor) → c.edit_groups.result ≡ r → TagEdited (window_edit c.args.lo c.args.after.now c.args.marks.now) (read_groups c.args.has_ml (is_marked c.args.marks.now) c.args.seq.now (closed_by 59 c.args.mm.now) c.args.ml.now) c.args.mm_out.now c.args.ml_out.now r c.edit_groups.new.out c.edit_groups.new.ml_out = λ r e. subst (λ (x : Outcome Cursor). TagEdited (window_edit c.args.lo c.args.after.now c.args.marks.now)
    (read_groups c.args.has_ml (is_marked c.args.marks.now) c.args.seq.now (closed_by 59 c.args.mm.now) c.args.ml.now) c.args.mm_out.now c.args.ml_out.now x
    c.edit_groups.new.out c.edit_groups.new.ml_out) e c.edit_groups.ensures in
    absurd (never_refused (window_edit c.args.lo c.args.after.now c.args.marks.now) c.args.has_ml c.args.seq.now c.args.mm.now c.args.ml.now c.requires.seq_len_bound.3
    c.requires.ml_value.0 c.requires.ml_value.1 c.args.mm_out.now c.args.ml_out.now c.edit_groups.new.out c.edit_groups.new.ml_out c.in_err-size.field-0.0 (walked _ c.in_err-size.was))

pub returns : goal.returns
returns c =
    let walked : (r : Outcome Cursor) → c.edit_groups.result ≡ r → TagEdited (window_edit c.args.lo c.args.after.now c.args.marks.now) (read_groups c.args.has_ml (is_marked c.args.marks.now) c.args.seq.now (closed_by 59 c.args.mm.now) c.args.ml.now) c.args.mm_out.now c.args.ml_out.now r c.edit_groups.new.out c.edit_groups.new.ml_out = λ r e. subst (λ (x : Outcome Cursor). TagEdited (window_edit c.args.lo c.args.after.now c.args.marks.now)
    (read_groups c.args.has_ml (is_marked c.args.marks.now) c.args.seq.now (closed_by 59 c.args.mm.now) c.args.ml.now) c.args.mm_out.now c.args.ml_out.now x
    c.edit_groups.new.out c.edit_groups.new.ml_out) e c.edit_groups.ensures in
    written_leaves (window_edit c.args.lo c.args.after.now c.args.marks.now) c.args.has_ml c.args.seq.now c.args.mm.now c.args.ml.now c.requires.seq_len_bound.3
    c.requires.ml_value.0 c.requires.ml_value.1 c.args.mm_out.now c.args.ml_out.now _ _ c.in_ok-size.size (walked _ c.in_ok-size.was) c.requires.mm_in_bounds.0 c.requires.mm_in_bounds.1
