-- `edit_measured`: the first walk refuses or measures. An edited tag is not longer than the tag was, so the second walk writes it into its own rows.
-- Assumes nothing.
use Rattle.std.specs.Prelude.{Ok, Err}
use Rattle.drafting.specs.declared.Cursor.{Cursor}
use mathlib.Core.Path.{◌∙◌, ◌≡◌, ap, subst}
use Prim.Native.Nat.{◌-◌, ◌≤◌, ℕ}
use native.Mathlib.Omega.{arith}
use mathlib.Core.Bool.{cond}
use mathlib.Core.List.{List, []}
use lib.ListN.{length, length-take, take}
use Rattle.changing.specs.Windows.{is_marked, window_edit}
use Rattle.editing.proofs.TagLaws.{edited_passed, edited_taken, rows_stored, values_with_lem}
use Rattle.editing.specs.Rewrote.{rewrote}
use Rattle.editing.specs.Tags.{TagMeasured}
use Rattle.drafting.specs.Walks.{TagEdited}
use Rattle.inplace.proofs.OwnRowLaws.{done_own, front_stored, refused_own}
use Rattle.lent.proofs.Filled.{over_stored}
use Rattle.lent.proofs.Outcome.{on_done_inv}
use Rattle.lent.specs.Outcome.{Outcome}
use Rattle.lent.specs.declared.Refusal.{Refusal}
use Rattle.samtags.proofs.Length.{never_longer}
use Rattle.lent.proofs.Tests.{cond_at_most}
use Rattle.samtags.proofs.Taken.{taken_again, taken_is}
use Rattle.samtags.specs.Edits.{edited}
use Rattle.samtags.specs.Reading.{read_groups}
use Rattle.samtags.specs.Text.{closed_by}
use Rattle.samtags.specs.Writing.{Tag, sizes_of}
use Rattle.lent.proofs.Outcome.{passed_on}
use Rattle.inplace.proofs.edit_measured.Goals as goal

pub slice_bounds-measure-end : goal.slice_bounds-measure-end
slice_bounds-measure-end c =
    let taken_inside : c.values_taken-taken.result ≤ length c.args.ml.now = omega (
      arith,
      c.values_taken-taken.ensures,
      cond_at_most c.args.has_ml (length
          c.args.ml.now),
    ) in
    taken_inside

pub measure-requires : goal.measure-requires
measure-requires c =
    let taken : take (c.values_taken-taken.result - 0) c.args.ml.now ≡ cond c.args.has_ml c.args.ml.now [] = (let n : c.values_taken-taken.result - 0 ≡ cond c.args.has_ml (length c.args.ml.now) 0 = omega (arith, c.values_taken-taken.ensures) in
    taken_is c.args.has_ml c.args.ml.now (c.values_taken-taken.result - 0) n) in
    let taken_short : length (take (c.values_taken-taken.result - 0) c.args.ml.now) ≤ 65536 = (let few : c.values_taken-taken.result - 0 ≤ 65536 = omega (arith, c.values_taken-taken.ensures, c.requires.2) in
    omega (arith, few, length-take (c.values_taken-taken.result - 0) c.args.ml.now)) in (
      c.requires.0,
      c.requires.1,
      taken_short,
      rw
          (taken) (taken_again c.args.has_ml c.args.ml.now),
    )

pub returns-in_err-size : goal.returns-in_err-size
returns-in_err-size c =
    let outcome : Outcome Tag = edited (window_edit c.args.lo c.args.after.now c.args.marks.now) c.args.has_ml c.args.seq.now c.args.text.now c.args.ml.now in
    let taken : take (c.values_taken-taken.result - 0) c.args.ml.now ≡ cond c.args.has_ml c.args.ml.now [] = (let n : c.values_taken-taken.result - 0 ≡ cond c.args.has_ml (length c.args.ml.now) 0 = omega (arith, c.values_taken-taken.ensures) in
    taken_is c.args.has_ml c.args.ml.now (c.values_taken-taken.result - 0) n) in
    let walked : (r : Outcome Cursor) → c.measure.result ≡ r → TagMeasured (outcome) r = λ r e. (let same = edited_taken (window_edit c.args.lo c.args.after.now c.args.marks.now) c.args.has_ml c.args.seq.now c.args.text.now c.args.ml.now _ (taken) in
    subst (TagMeasured (outcome)) e (subst (λ (o : Outcome
    Tag). TagMeasured o c.measure.result) same c.measure.ensures)) in
    ap (λ (o : Outcome _). rewrote o c.args.text.now c.args.ml.now) (passed_on _ _ c.from_residual.ensures.1)
    ∙ refused_own c.args.has_ml c.args.text.now c.args.ml.now (outcome) c.in_err-size.field-0.0 (walked _ c.in_err-size.was)

pub slice_bounds-edit_groups-end : goal.slice_bounds-edit_groups-end
slice_bounds-edit_groups-end c =
    let taken_inside : c.values_taken-taken.result ≤ length c.args.ml.now = omega (
      arith,
      c.values_taken-taken.ensures,
      cond_at_most c.args.has_ml (length
          c.args.ml.now),
    ) in
    taken_inside

pub edit_groups-requires : goal.edit_groups-requires
edit_groups-requires c =
    let outcome : Outcome Tag = edited (window_edit c.args.lo c.args.after.now c.args.marks.now) c.args.has_ml c.args.seq.now c.args.text.now c.args.ml.now in
    let taken : take (c.values_taken-taken.result - 0) c.args.ml.now ≡ cond c.args.has_ml c.args.ml.now [] = (let n : c.values_taken-taken.result - 0 ≡ cond c.args.has_ml (length c.args.ml.now) 0 = omega (arith, c.values_taken-taken.ensures) in
    taken_is c.args.has_ml c.args.ml.now (c.values_taken-taken.result - 0) n) in
    let taken_short : length (take (c.values_taken-taken.result - 0) c.args.ml.now) ≤ 65536 = (let few : c.values_taken-taken.result - 0 ≤ 65536 = omega (arith, c.values_taken-taken.ensures, c.requires.2) in
    omega (arith, few, length-take (c.values_taken-taken.result - 0) c.args.ml.now)) in
    let walked : (r : Outcome Cursor) → c.measure.result ≡ r → TagMeasured (outcome) r = λ r e. (let same = edited_taken (window_edit c.args.lo c.args.after.now c.args.marks.now) c.args.has_ml c.args.seq.now c.args.text.now c.args.ml.now _ (taken) in
    subst (TagMeasured (outcome)) e (subst (λ (o : Outcome
    Tag). TagMeasured o c.measure.result) same c.measure.ensures)) in
    let known : (u : Tag) × (outcome ≡ Ok u) × (sizes_of u ≡ (c.in_ok-size.size.end, c.in_ok-size.size.kept)) = on_done_inv sizes_of (outcome) _ (walked _ c.in_ok-size.was) in
    let e = window_edit c.args.lo c.args.after.now c.args.marks.now in (
      c.requires.0,
      c.requires.1,
      taken_short,
      (edited_passed e c.args.has_ml c.args.seq.now c.args.text.now c.args.ml.now (known).0 (known).1).0,
    )

pub returns : goal.returns
returns c =
    let outcome : Outcome Tag = edited (window_edit c.args.lo c.args.after.now c.args.marks.now) c.args.has_ml c.args.seq.now c.args.text.now c.args.ml.now in
    let taken : take (c.values_taken-taken.result - 0) c.args.ml.now ≡ cond c.args.has_ml c.args.ml.now [] = (let n : c.values_taken-taken.result - 0 ≡ cond c.args.has_ml (length c.args.ml.now) 0 = omega (arith, c.values_taken-taken.ensures) in
    taken_is c.args.has_ml c.args.ml.now (c.values_taken-taken.result - 0) n) in
    let taken_inside : c.values_taken-taken.result ≤ length c.args.ml.now = omega (
      arith,
      c.values_taken-taken.ensures,
      cond_at_most c.args.has_ml (length
          c.args.ml.now),
    ) in
    let walked : (r : Outcome Cursor) → c.measure.result ≡ r → TagMeasured (outcome) r = λ r e. (let same = edited_taken (window_edit c.args.lo c.args.after.now c.args.marks.now) c.args.has_ml c.args.seq.now c.args.text.now c.args.ml.now _ (taken) in
    subst (TagMeasured (outcome)) e (subst (λ (o : Outcome
    Tag). TagMeasured o c.measure.result) same c.measure.ensures)) in
    let known : (u : Tag) × (outcome ≡ Ok u) × (sizes_of u ≡ (c.in_ok-size.size.end, c.in_ok-size.size.kept)) = on_done_inv sizes_of (outcome) _ (walked _ c.in_ok-size.was) in
    let n = c.values_taken-taken.result - 0 in
    let w = known in
    let u = w.0 in
    let e = window_edit c.args.lo c.args.after.now c.args.marks.now in
    let part = take n c.args.ml.now in
    let passed = edited_passed e c.args.has_ml c.args.seq.now c.args.text.now c.args.ml.now u w.1 in
    let short = never_longer e c.args.has_ml c.args.seq.now c.args.text.now c.args.ml.now u w.1 in
    let second = subst (λ (m : List ℕ). TagEdited e (read_groups c.args.has_ml (is_marked c.args.marks.now) c.args.seq.now (closed_by 59 c.args.text.now) m)
    c.args.text.now part c.edit_groups.result c.edit_groups.new.text c.edit_groups.new.ml) (taken)
    c.edit_groups.ensures in
    let rows = rows_stored e _ u passed.1 c.args.text.now part c.edit_groups.result c.edit_groups.new.text c.edit_groups.new.ml second in
    let few : length u.ml ≤ n = omega (
      arith,
      short.1,
      ap length (taken),
      length-take n c.args.ml.now,
    ) in
    let inside : n ≤ length c.args.ml.now = omega (arith, taken_inside) in
    done_own c.args.has_ml c.args.text.now c.args.ml.now (outcome) u w.1
    (values_with_lem e c.args.has_ml c.args.seq.now c.args.text.now c.args.ml.now u w.1) _ _
    (ap (λ (x : ℕ × ℕ). x.0) w.2) (ap (λ (x : ℕ × ℕ). x.1) w.2) _ _
    (rows.0 ∙ over_stored u.text c.args.text.now short.0) (front_stored c.args.ml.now u.ml c.edit_groups.new.ml n inside few rows.1)
