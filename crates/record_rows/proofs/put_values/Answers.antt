-- `put_values`: the edit is known to succeed, so the walk refuses nothing. It writes the values into the part of the row from the index on, or into the
-- empty part if the row ends before.
-- Assumes nothing.
use Rattle.std.specs.Prelude.{Ok}
use Rattle.lent.specs.Outcome.{Outcome}
use Rattle.drafting.specs.declared.Cursor.{Cursor}
use mathlib.Core.Path.{◌≡◌, refl, subst}
use Prim.Native.Nat.{◌-◌}
use mathlib.Core.Bool.{true}
use native.Mathlib.Omega.{arith}
use lib.ListN.{length}
use borrow.Rule.Slice.PartMut.{mid_of}
use Rattle.changing.specs.Windows.{is_marked, window_edit}
use Rattle.drafting.specs.Walks.{TagEdited}
use Rattle.samtags.specs.Edits.{edited}
use Rattle.samtags.specs.Reading.{read_groups}
use Rattle.samtags.specs.Text.{closed_by}
use Rattle.samtags.specs.Writing.{Tag}
use Rattle.record_rows.proofs.RowLaws.{fine_closed, fine_never_refused, fine_short, fine_stored, part_put}
use Rattle.record_rows.proofs.put_values.Goals as goal

pub edit_groups-edited-requires : goal.edit_groups-edited-requires
edit_groups-edited-requires c = (
  c.requires.seq_len_bound.0,
  c.requires.seq_len_bound.1,
  c.requires.seq_len_bound.2,
  fine_closed (window_edit c.args.lo c.args.after.now c.args.marks.now) true c.args.seq.now c.args.mm.now c.args.ml.now c.requires.ml_value,
)

pub returns-in_default : goal.returns-in_default
returns-in_default c =
    let walked : (r : Outcome Cursor) → c.edit_groups-edited.result ≡ r → let room = c.min-start.result in TagEdited (window_edit c.args.lo c.args.after.now c.args.marks.now) (read_groups true (is_marked c.args.marks.now) c.args.seq.now (closed_by 59 c.args.mm.now) c.args.ml.now) c.args.work.now (mid_of room (length c.args.out.now - room) c.args.out.now) r c.edit_groups-edited.new.out c.edit_groups-edited.new.ml_out = λ r e. subst (λ (x : Outcome Cursor). TagEdited (window_edit c.args.lo c.args.after.now c.args.marks.now)
    (read_groups true (is_marked c.args.marks.now) c.args.seq.now (closed_by 59 c.args.mm.now) c.args.ml.now)
    c.args.work.now (mid_of c.min-start.result (length c.args.out.now - c.min-start.result) c.args.out.now) x c.edit_groups-edited.new.out c.edit_groups-edited.new.ml_out) e c.edit_groups-edited.ensures in
    let room = c.min-start.result in
    absurd (fine_never_refused (window_edit c.args.lo c.args.after.now c.args.marks.now) true c.args.seq.now c.args.mm.now c.args.ml.now c.requires.ml_value
    refl c.args.work.now (mid_of room (length c.args.out.now - room) c.args.out.now) c.edit_groups-edited.new.out c.edit_groups-edited.new.ml_out c.in_default.field-0 (walked _ c.in_default.is))

pub returns : goal.returns
returns c =
    let walked : (r : Outcome Cursor) → c.edit_groups-edited.result ≡ r → let room = c.min-start.result in TagEdited (window_edit c.args.lo c.args.after.now c.args.marks.now) (read_groups true (is_marked c.args.marks.now) c.args.seq.now (closed_by 59 c.args.mm.now) c.args.ml.now) c.args.work.now (mid_of room (length c.args.out.now - room) c.args.out.now) r c.edit_groups-edited.new.out c.edit_groups-edited.new.ml_out = λ r e. subst (λ (x : Outcome Cursor). TagEdited (window_edit c.args.lo c.args.after.now c.args.marks.now)
    (read_groups true (is_marked c.args.marks.now) c.args.seq.now (closed_by 59 c.args.mm.now) c.args.ml.now)
    c.args.work.now (mid_of c.min-start.result (length c.args.out.now - c.min-start.result) c.args.out.now) x c.edit_groups-edited.new.out c.edit_groups-edited.new.ml_out) e c.edit_groups-edited.ensures in
    let e = window_edit c.args.lo c.args.after.now c.args.marks.now in
    let room = c.min-start.result in
    let part = mid_of room (length c.args.out.now - room) c.args.out.now in
    let short = fine_short e true c.args.seq.now c.args.mm.now c.args.ml.now c.requires.ml_value refl c.args.work.now part c.edit_groups-edited.new.out c.edit_groups-edited.new.ml_out c.in-Ok.end
    (walked _ c.in-Ok.is) in record {
      text_value = λ (t : Tag) (k : edited e true c.args.seq.now c.args.mm.now c.args.ml.now ≡ Ok t).
          let put = fine_stored e true c.args.seq.now c.args.mm.now c.args.ml.now c.requires.ml_value refl c.args.work.now part c.edit_groups-edited.new.out c.edit_groups-edited.new.ml_out c.in-Ok.end
          (walked _ c.in-Ok.is) t k in
          (omega (arith, put.0), omega (arith, put.1), part_put c.args.out.now t.ml c.edit_groups-edited.new.ml_out c.args.at room (omega (arith, c.min-start.ensures)) put.3, put.2);
      text_in_bounds = (omega (arith, short.0), omega (arith, short.1));
    }
