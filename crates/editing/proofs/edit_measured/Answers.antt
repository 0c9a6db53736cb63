-- `edit_measured`: the first walk refuses or measures, and a tag that does not fit is refused with 12. The second walk, over the lent rows, writes the
-- same groups.
-- Assumes nothing.
use Rattle.std.specs.Prelude.{Ok, Err}
use Rattle.drafting.specs.declared.Cursor.{Cursor}
use mathlib.Core.Path.{◌∙◌, ◌≡◌, ap, subst}
use Prim.Native.Nat.{◌-◌, ◌≤◌, ℕ}
use native.Mathlib.Omega.{arith}
use mathlib.Core.Bool.{cond}
use mathlib.Core.List.{List, []}
use lib.ListN.{length, length-take, take}
use Rattle.editing.proofs.TagLaws.{done_leaves, edited_passed, edited_taken, refused_leaves, rows_stored, short_ml, short_text, values_with_lem}
use Rattle.samtags.specs.Writing.{sizes_of}
use Rattle.editing.specs.Rewrote.{rewrote, values_with}
use Rattle.editing.specs.Tags.{TagMeasured}
use Rattle.drafting.specs.Walks.{TagEdited}
use Rattle.changing.specs.Windows.{is_marked, window_edit}
use Rattle.lent.proofs.Outcome.{on_done_inv}
use Rattle.lent.specs.Outcome.{Outcome}
use Rattle.lent.specs.declared.Refusal.{Refusal}
use Rattle.lent.proofs.Tests.{cond_at_most}
use Rattle.samtags.proofs.Taken.{taken_again, taken_is}
use Rattle.samtags.specs.Edits.{edited}
use Rattle.samtags.specs.Reading.{read_groups}
use Rattle.samtags.specs.Text.{closed_by}
use Rattle.samtags.specs.Writing.{Tag}
use Rattle.lent.proofs.Outcome.{passed_on}
use Rattle.editing.proofs.edit_measured.Goals as goal

pub slice_bounds-measure-end : goal.slice_bounds-measure-end
slice_bounds-measure-end c = omega (
  arith,
  c.values_taken-taken.ensures,
  cond_at_most
      c.args.has_ml (length
      c.args.ml.now),
)

pub measure-requires : goal.measure-requires
measure-requires c =
    let taken : take (c.values_taken-taken.result - 0) c.args.ml.now ≡ cond c.args.has_ml c.args.ml.now [] = (let n : c.values_taken-taken.result - 0 ≡ cond c.args.has_ml (length
    c.args.ml.now) 0 = omega (arith, c.values_taken-taken.ensures) in
    taken_is c.args.has_ml
    c.args.ml.now (c.values_taken-taken.result - 0) n) in
    let n = c.values_taken-taken.result in
    let few : n - 0 ≤ 65536 = omega (
      arith,
      c.values_taken-taken.ensures,
      c.requires.2,
    ) in (
      omega arith,
      omega arith,
      omega (arith, few, length-take (n - 0) c.args.ml.now),
      rw (taken) (taken_again c.args.has_ml c.args.ml.now),
    )

pub returns-in_err-size : goal.returns-in_err-size
returns-in_err-size c =
    let outcome : Outcome Tag = edited (window_edit c.args.lo c.args.after.now c.args.marks.now) c.args.has_ml c.args.seq.now c.args.mm.now c.args.ml.now in
    let taken : take (c.values_taken-taken.result - 0) c.args.ml.now ≡ cond c.args.has_ml c.args.ml.now [] = (let n : c.values_taken-taken.result - 0 ≡ cond c.args.has_ml (length
    c.args.ml.now) 0 = omega (arith, c.values_taken-taken.ensures) in
    taken_is c.args.has_ml
    c.args.ml.now (c.values_taken-taken.result - 0) n) in
    let walked : (r : Outcome Cursor) → c.measure.result ≡ r → TagMeasured (outcome) r = λ r e. (let same = edited_taken (window_edit c.args.lo c.args.after.now c.args.marks.now) c.args.has_ml c.args.seq.now c.args.mm.now c.args.ml.now _ (taken) in
    subst (TagMeasured (outcome)) e (subst (λ (o : Outcome Tag).
    TagMeasured o c.measure.result) same c.measure.ensures)) in
    ap (λ (o : Outcome _). rewrote o c.args.mm_out.now c.args.ml_out.now) (passed_on _ _ c.from_residual.ensures.1)
    ∙ refused_leaves c.args.has_ml c.args.mm_out.now c.args.ml_out.now c.in_err-size.field-0.0 (outcome) (walked _
    c.in_err-size.was)

pub returns-then-mm_out-end : goal.returns-then-mm_out-end
returns-then-mm_out-end c =
    let outcome : Outcome Tag = edited (window_edit c.args.lo c.args.after.now c.args.marks.now) c.args.has_ml c.args.seq.now c.args.mm.now c.args.ml.now in
    let taken : take (c.values_taken-taken.result - 0) c.args.ml.now ≡ cond c.args.has_ml c.args.ml.now [] = (let n : c.values_taken-taken.result - 0 ≡ cond c.args.has_ml (length
    c.args.ml.now) 0 = omega (arith, c.values_taken-taken.ensures) in
    taken_is c.args.has_ml
    c.args.ml.now (c.values_taken-taken.result - 0) n) in
    let walked : (r : Outcome Cursor) → c.measure.result ≡ r → TagMeasured (outcome) r = λ r e. (let same = edited_taken (window_edit c.args.lo c.args.after.now c.args.marks.now) c.args.has_ml c.args.seq.now c.args.mm.now c.args.ml.now _ (taken) in
    subst (TagMeasured (outcome)) e (subst (λ (o : Outcome Tag).
    TagMeasured o c.measure.result) same c.measure.ensures)) in
    let known : (u : Tag) × (outcome ≡ Ok u) × (sizes_of u ≡ (c.in_ok-size.size.end, c.in_ok-size.size.kept)) = on_done_inv sizes_of (outcome) _ (walked
    _ c.in_ok-size.was) in
    let text_size : length (known).0.text ≡ c.in_ok-size.size.end = ap (λ (n : ℕ × ℕ). n.0) (known).2 in
    let values_known : values_with c.args.has_ml (known).0 ≡ (known).0.ml = values_with_lem (window_edit c.args.lo c.args.after.now c.args.marks.now) c.args.has_ml c.args.seq.now c.args.mm.now c.args.ml.now (known).0 (known).1 in
    let w = known in
    short_text c.args.has_ml c.args.mm_out.now c.args.ml_out.now (outcome) w.0 w.1 (values_known) (omega
    (arith, text_size))

pub returns-then-ml_out-kept : goal.returns-then-ml_out-kept
returns-then-ml_out-kept c =
    let outcome : Outcome Tag = edited (window_edit c.args.lo c.args.after.now c.args.marks.now) c.args.has_ml c.args.seq.now c.args.mm.now c.args.ml.now in
    let taken : take (c.values_taken-taken.result - 0) c.args.ml.now ≡ cond c.args.has_ml c.args.ml.now [] = (let n : c.values_taken-taken.result - 0 ≡ cond c.args.has_ml (length
    c.args.ml.now) 0 = omega (arith, c.values_taken-taken.ensures) in
    taken_is c.args.has_ml
    c.args.ml.now (c.values_taken-taken.result - 0) n) in
    let walked : (r : Outcome Cursor) → c.measure.result ≡ r → TagMeasured (outcome) r = λ r e. (let same = edited_taken (window_edit c.args.lo c.args.after.now c.args.marks.now) c.args.has_ml c.args.seq.now c.args.mm.now c.args.ml.now _ (taken) in
    subst (TagMeasured (outcome)) e (subst (λ (o : Outcome Tag).
    TagMeasured o c.measure.result) same c.measure.ensures)) in
    let known : (u : Tag) × (outcome ≡ Ok u) × (sizes_of u ≡ (c.in_ok-size.size.end, c.in_ok-size.size.kept)) = on_done_inv sizes_of (outcome) _ (walked
    _ c.in_ok-size.was) in
    let text_size : length (known).0.text ≡ c.in_ok-size.size.end = ap (λ (n : ℕ × ℕ). n.0) (known).2 in
    let ml_size : length (known).0.ml ≡ c.in_ok-size.size.kept = ap (λ (n : ℕ × ℕ). n.1) (known).2 in
    let values_known : values_with c.args.has_ml (known).0 ≡ (known).0.ml = values_with_lem (window_edit c.args.lo c.args.after.now c.args.marks.now) c.args.has_ml c.args.seq.now c.args.mm.now c.args.ml.now (known).0 (known).1 in
    let w = known in
    short_ml c.args.has_ml c.args.mm_out.now c.args.ml_out.now (outcome) w.0 w.1 (values_known) (omega
    (arith, text_size))
    (omega (arith, ml_size))

pub slice_bounds-edit_groups-end : goal.slice_bounds-edit_groups-end
slice_bounds-edit_groups-end c = omega (
  arith,
  c.values_taken-taken.ensures,
  cond_at_most
      c.args.has_ml (length
      c.args.ml.now),
)

pub edit_groups-requires : goal.edit_groups-requires
edit_groups-requires c =
    let outcome : Outcome Tag = edited (window_edit c.args.lo c.args.after.now c.args.marks.now) c.args.has_ml c.args.seq.now c.args.mm.now c.args.ml.now in
    let taken : take (c.values_taken-taken.result - 0) c.args.ml.now ≡ cond c.args.has_ml c.args.ml.now [] = (let n : c.values_taken-taken.result - 0 ≡ cond c.args.has_ml (length
    c.args.ml.now) 0 = omega (arith, c.values_taken-taken.ensures) in
    taken_is c.args.has_ml
    c.args.ml.now (c.values_taken-taken.result - 0) n) in
    let walked : (r : Outcome Cursor) → c.measure.result ≡ r → TagMeasured (outcome) r = λ r e. (let same = edited_taken (window_edit c.args.lo c.args.after.now c.args.marks.now) c.args.has_ml c.args.seq.now c.args.mm.now c.args.ml.now _ (taken) in
    subst (TagMeasured (outcome)) e (subst (λ (o : Outcome Tag).
    TagMeasured o c.measure.result) same c.measure.ensures)) in
    let known : (u : Tag) × (outcome ≡ Ok u) × (sizes_of u ≡ (c.in_ok-size.size.end, c.in_ok-size.size.kept)) = on_done_inv sizes_of (outcome) _ (walked
    _ c.in_ok-size.was) in
    let n = c.values_taken-taken.result in
    let few : n - 0 ≤ 65536 = omega (
      arith,
      c.values_taken-taken.ensures,
      c.requires.2,
    ) in (
      c.requires.0,
      c.requires.1,
      omega (arith, few, length-take (n - 0) c.args.ml.now),
      (edited_passed (window_edit c.args.lo c.args.after.now c.args.marks.now) c.args.has_ml c.args.seq.now c.args.mm.now c.args.ml.now (known).0 (known).1).0,
    )

pub returns : goal.returns
returns c =
    let outcome : Outcome Tag = edited (window_edit c.args.lo c.args.after.now c.args.marks.now) c.args.has_ml c.args.seq.now c.args.mm.now c.args.ml.now in
    let taken : take (c.values_taken-taken.result - 0) c.args.ml.now ≡ cond c.args.has_ml c.args.ml.now [] = (let n : c.values_taken-taken.result - 0 ≡ cond c.args.has_ml (length
    c.args.ml.now) 0 = omega (arith, c.values_taken-taken.ensures) in
    taken_is c.args.has_ml
    c.args.ml.now (c.values_taken-taken.result - 0) n) in
    let walked : (r : Outcome Cursor) → c.measure.result ≡ r → TagMeasured (outcome) r = λ r e. (let same = edited_taken (window_edit c.args.lo c.args.after.now c.args.marks.now) c.args.has_ml c.args.seq.now c.args.mm.now c.args.ml.now _ (taken) in
    subst (TagMeasured (outcome)) e (subst (λ (o : Outcome Tag).
    TagMeasured o c.measure.result) same c.measure.ensures)) in
    let known : (u : Tag) × (outcome ≡ Ok u) × (sizes_of u ≡ (c.in_ok-size.size.end, c.in_ok-size.size.kept)) = on_done_inv sizes_of (outcome) _ (walked
    _ c.in_ok-size.was) in
    let text_size : length (known).0.text ≡ c.in_ok-size.size.end = ap (λ (n : ℕ × ℕ). n.0) (known).2 in
    let ml_size : length (known).0.ml ≡ c.in_ok-size.size.kept = ap (λ (n : ℕ × ℕ). n.1) (known).2 in
    let values_known : values_with c.args.has_ml (known).0 ≡ (known).0.ml = values_with_lem (window_edit c.args.lo c.args.after.now c.args.marks.now) c.args.has_ml c.args.seq.now c.args.mm.now c.args.ml.now (known).0 (known).1 in
    let w = known in
    let e = window_edit c.args.lo c.args.after.now c.args.marks.now in
    let r = c.edit_groups.result in
    let passed = edited_passed e c.args.has_ml c.args.seq.now c.args.mm.now c.args.ml.now w.0 w.1 in
    let second = subst (λ (m : List ℕ). TagEdited e (read_groups c.args.has_ml (is_marked c.args.marks.now) c.args.seq.now (closed_by 59 c.args.mm.now) m)
    c.args.mm_out.now c.args.ml_out.now r c.edit_groups.new.out c.edit_groups.new.ml_out) (taken) c.edit_groups.ensures in
    let rows = rows_stored e _ w.0 passed.1 c.args.mm_out.now c.args.ml_out.now r c.edit_groups.new.out c.edit_groups.new.ml_out second in
    done_leaves c.args.has_ml c.args.mm_out.now c.args.ml_out.now (outcome) w.0 w.1 (values_known) (omega
    (arith, text_size))
    (omega (arith, ml_size)) _ _ (text_size) (ml_size) c.edit_groups.new.out c.edit_groups.new.ml_out rows.0 rows.1
