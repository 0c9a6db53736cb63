-- `edit_checked`: the edit is known to succeed, so the walk refuses nothing, and what it writes is not longer than the tag was.
-- Assumes nothing.
use Rattle.std.specs.Prelude.{Ok}
use Rattle.lent.specs.Outcome.{Outcome}
use Rattle.drafting.specs.declared.Cursor.{Cursor}
use mathlib.Core.Path.{◌∙◌, ◌≡◌, ap, subst}
use Prim.Native.Nat.{◌-◌, ◌≤◌, ℕ}
use native.Mathlib.Omega.{arith}
use mathlib.Core.Bool.{cond}
use mathlib.Core.List.{List, []}
use lib.ListN.{length, length-take, take}
use Rattle.changing.specs.Windows.{is_marked, window_edit}
use Rattle.editing.proofs.TagLaws.{edited_passed, edited_taken, never_refused, stored_whole, values_with_lem}
use Rattle.drafting.specs.Walks.{TagEdited}
use Rattle.inplace.proofs.OwnRowLaws.{done_own, front_stored}
use Rattle.lent.proofs.Filled.{over_stored}
use Rattle.lent.proofs.Tests.{cond_at_most}
use Rattle.samtags.proofs.Length.{never_longer}
use Rattle.samtags.proofs.Taken.{taken_again, taken_is}
use Rattle.samtags.specs.Edits.{edited}
use Rattle.samtags.specs.Reading.{read_groups}
use Rattle.samtags.specs.Text.{closed_by}
use Rattle.inplace.proofs.edit_checked.Goals as goal

pub slice_bounds-edit_groups-end : goal.slice_bounds-edit_groups-end
slice_bounds-edit_groups-end c =
    let taken_inside : c.values_taken-taken.result ≤ length c.args.ml.now = omega (arith, c.values_taken-taken.ensures, cond_at_most c.args.has_ml (length c.args.ml.now)) in
    taken_inside

pub edit_groups-requires : goal.edit_groups-requires
edit_groups-requires c =
    let n = c.values_taken-taken.result in (
      c.requires.seq_len_bound.0,
      c.requires.seq_len_bound.1,
      omega (arith, length-take (n - 0) c.args.ml.now, c.values_taken-taken.ensures, c.requires.seq_len_bound.2),
      (edited_passed (window_edit c.args.lo c.args.after.now c.args.marks.now) c.args.has_ml c.args.seq.now c.args.text.now c.args.ml.now c.requires.ml_value.0 c.requires.ml_value.1).0,
    )

pub returns-in_err-size : goal.returns-in_err-size
returns-in_err-size c =
    let part : List ℕ = take (c.values_taken-taken.result - 0) c.args.ml.now in
    let taken : part ≡ cond c.args.has_ml c.args.ml.now [] = (let n : c.values_taken-taken.result - 0 ≡ cond c.args.has_ml (length c.args.ml.now) 0 = omega (arith, c.values_taken-taken.ensures) in
    taken_is c.args.has_ml c.args.ml.now (c.values_taken-taken.result - 0) n) in
    let known : edited (window_edit c.args.lo c.args.after.now c.args.marks.now) c.args.has_ml c.args.seq.now c.args.text.now (part) ≡ Ok c.requires.ml_value.0 = edited_taken (window_edit c.args.lo c.args.after.now c.args.marks.now) c.args.has_ml c.args.seq.now c.args.text.now c.args.ml.now _ (taken) ∙ c.requires.ml_value.1 in
    let whole : cond c.args.has_ml (part) [] ≡ part = rw (taken) (taken_again c.args.has_ml c.args.ml.now) in
    let walked : (r : Outcome Cursor) → c.edit_groups.result ≡ r → TagEdited (window_edit c.args.lo c.args.after.now c.args.marks.now) (read_groups c.args.has_ml (is_marked c.args.marks.now) c.args.seq.now (closed_by 59 c.args.text.now) (part)) c.args.text.now (part) r c.edit_groups.new.text c.edit_groups.new.ml = λ r e. subst (λ (x : Outcome Cursor). TagEdited (window_edit c.args.lo c.args.after.now c.args.marks.now)
    (read_groups c.args.has_ml (is_marked c.args.marks.now) c.args.seq.now (closed_by 59 c.args.text.now) (part)) c.args.text.now (part) x
    c.edit_groups.new.text c.edit_groups.new.ml) e c.edit_groups.ensures in
    absurd (never_refused (window_edit c.args.lo c.args.after.now c.args.marks.now) c.args.has_ml c.args.seq.now c.args.text.now (part) (whole)
    c.requires.ml_value.0 (known) c.args.text.now (part) c.edit_groups.new.text c.edit_groups.new.ml c.in_err-size.field-0.0 (walked _ c.in_err-size.was))

pub returns : goal.returns
returns c =
    let part : List ℕ = take (c.values_taken-taken.result - 0) c.args.ml.now in
    let taken : part ≡ cond c.args.has_ml c.args.ml.now [] = (let n : c.values_taken-taken.result - 0 ≡ cond c.args.has_ml (length c.args.ml.now) 0 = omega (arith, c.values_taken-taken.ensures) in
    taken_is c.args.has_ml c.args.ml.now (c.values_taken-taken.result - 0) n) in
    let taken_inside : c.values_taken-taken.result ≤ length c.args.ml.now = omega (arith, c.values_taken-taken.ensures, cond_at_most c.args.has_ml (length c.args.ml.now)) in
    let known : edited (window_edit c.args.lo c.args.after.now c.args.marks.now) c.args.has_ml c.args.seq.now c.args.text.now (part) ≡ Ok c.requires.ml_value.0 = edited_taken (window_edit c.args.lo c.args.after.now c.args.marks.now) c.args.has_ml c.args.seq.now c.args.text.now c.args.ml.now _ (taken) ∙ c.requires.ml_value.1 in
    let whole : cond c.args.has_ml (part) [] ≡ part = rw (taken) (taken_again c.args.has_ml c.args.ml.now) in
    let walked : (r : Outcome Cursor) → c.edit_groups.result ≡ r → TagEdited (window_edit c.args.lo c.args.after.now c.args.marks.now) (read_groups c.args.has_ml (is_marked c.args.marks.now) c.args.seq.now (closed_by 59 c.args.text.now) (part)) c.args.text.now (part) r c.edit_groups.new.text c.edit_groups.new.ml = λ r e. subst (λ (x : Outcome Cursor). TagEdited (window_edit c.args.lo c.args.after.now c.args.marks.now)
    (read_groups c.args.has_ml (is_marked c.args.marks.now) c.args.seq.now (closed_by 59 c.args.text.now) (part)) c.args.text.now (part) x
    c.edit_groups.new.text c.edit_groups.new.ml) e c.edit_groups.ensures in
    let e = window_edit c.args.lo c.args.after.now c.args.marks.now in
    let u = c.requires.ml_value.0 in
    let n = c.values_taken-taken.result - 0 in
    let rows = stored_whole e c.args.has_ml c.args.seq.now c.args.text.now (part) (whole) u (known) c.args.text.now (part) c.edit_groups.new.text c.edit_groups.new.ml c.in_ok-size.size
    (walked _ c.in_ok-size.was) in
    let short = never_longer e c.args.has_ml c.args.seq.now c.args.text.now c.args.ml.now u c.requires.ml_value.1 in
    let few : length u.ml ≤ n = omega (arith, short.1, ap length (taken), length-take n c.args.ml.now) in
    let inside : n ≤ length c.args.ml.now = omega (arith, taken_inside) in
    done_own c.args.has_ml c.args.text.now c.args.ml.now (edited e c.args.has_ml c.args.seq.now c.args.text.now c.args.ml.now) u c.requires.ml_value.1
    (values_with_lem e c.args.has_ml c.args.seq.now c.args.text.now c.args.ml.now u c.requires.ml_value.1) _ _ rows.2 rows.3 _ _
    (rows.0 ∙ over_stored u.text c.args.text.now short.0) (front_stored c.args.ml.now u.ml c.edit_groups.new.ml n inside few rows.1)
