-- `edit_roomy` refuses what the first walk refuses, and writes what it accepts. If the first walk is unsure, the tag is measured.
-- Assumes nothing.
use Rattle.std.specs.Prelude.{Option}
use Rattle.measuring.specs.declared.Count.{Count}
use mathlib.Core.Path.{◌∙◌, ◌≡◌, ap, subst}
use Prim.Native.Nat.{◌-◌, ◌≤◌}
use native.Mathlib.Omega.{arith}
use mathlib.Core.Bool.{cond, not}
use mathlib.Core.List.{List, []}
use lib.Dec.{eqb}
use lib.ListN.{length, length-take, take}
use Rattle.changing.specs.Windows.{is_marked, window_edit}
use Rattle.lent.proofs.Tests.{cond_at_most}
use Rattle.lent.specs.Outcome.{Outcome}
use Rattle.measuring.proofs.CountLaws.{read_taken}
use Rattle.measuring.specs.Counting.{TagCounted}
use Rattle.samtags.proofs.Taken.{taken_again, taken_is}
use Rattle.samtags.specs.Edits.{edited, in_room}
use Rattle.samtags.specs.Reading.{read}
use Rattle.samtags.specs.Spots.{Group}
use Rattle.samtags.specs.Writing.{Tag}
use Rattle.editing.proofs.TagLaws.{edited_read, edited_refused, edited_taken, refused_leaves, unmarked}
use Rattle.editing.specs.Rewrote.{leaves_tag}
use Rattle.std.specs.Prelude.{Ok}
use Rattle.lent.proofs.Outcome.{passed_on}
use Rattle.editing.proofs.edit_roomy.Goals as goal

pub slice_bounds-count_tag-end : goal.slice_bounds-count_tag-end
slice_bounds-count_tag-end c =
    let taken_inside : c.values_taken-taken.result ≤ length c.args.ml.now = omega (arith, c.values_taken-taken.ensures, cond_at_most c.args.has_ml (length c.args.ml.now)) in
    taken_inside

pub count_tag-requires : goal.count_tag-requires
count_tag-requires c =
    let taken : take (c.values_taken-taken.result - 0) c.args.ml.now ≡ cond c.args.has_ml c.args.ml.now [] = (let n : c.values_taken-taken.result - 0 ≡ cond c.args.has_ml (length c.args.ml.now) 0 = omega (arith, c.values_taken-taken.ensures) in
    taken_is c.args.has_ml c.args.ml.now (c.values_taken-taken.result - 0) n) in
    let taken_length : length (take (c.values_taken-taken.result - 0) c.args.ml.now) ≤ c.values_taken-taken.result = omega (arith, length-take (c.values_taken-taken.result - 0) c.args.ml.now) in
    let whole : let m = take (c.values_taken-taken.result - 0) c.args.ml.now in cond c.args.has_ml m [] ≡ m = rw (taken) (taken_again c.args.has_ml c.args.ml.now) in
    (c.requires.seq_len_bound.0, c.requires.seq_len_bound.1, omega (arith, taken_length, c.values_taken-taken.ensures, c.requires.seq_len_bound.2), whole)

pub slice_bounds-edit_checked-end : goal.slice_bounds-edit_checked-end
slice_bounds-edit_checked-end c =
    let taken_inside : c.values_taken-taken.result ≤ length c.args.ml.now = omega (arith, c.values_taken-taken.ensures, cond_at_most c.args.has_ml (length c.args.ml.now)) in
    taken_inside

pub edit_checked-requires : goal.edit_checked-requires
edit_checked-requires c =
    let taken : take (c.values_taken-taken.result - 0) c.args.ml.now ≡ cond c.args.has_ml c.args.ml.now [] = (let n : c.values_taken-taken.result - 0 ≡ cond c.args.has_ml (length c.args.ml.now) 0 = omega (arith, c.values_taken-taken.ensures) in
    taken_is c.args.has_ml c.args.ml.now (c.values_taken-taken.result - 0) n) in
    let taken_length : length (take (c.values_taken-taken.result - 0) c.args.ml.now) ≤ c.values_taken-taken.result = omega (arith, length-take (c.values_taken-taken.result - 0) c.args.ml.now) in
    let whole : let m = take (c.values_taken-taken.result - 0) c.args.ml.now in cond c.args.has_ml m [] ≡ m = rw (taken) (taken_again c.args.has_ml c.args.ml.now) in
    let counted : (r : Outcome (Option Count)) → c.count_tag.result ≡ r → TagCounted (not (eqb (length c.args.marks.now) 0)) (read c.args.has_ml (is_marked c.args.marks.now) c.args.seq.now c.args.mm.now c.args.ml.now) r = λ r e. (let same = read_taken c.args.has_ml (is_marked c.args.marks.now) c.args.seq.now c.args.mm.now c.args.ml.now _ (taken) in
    subst (TagCounted (not (eqb (length c.args.marks.now) 0)) (read c.args.has_ml (is_marked c.args.marks.now) c.args.seq.now c.args.mm.now c.args.ml.now)) e
    (subst (λ (o : Outcome (List Group)). TagCounted (not (eqb (length c.args.marks.now) 0)) o c.count_tag.result) same
    (c.count_tag.ensures (is_marked c.args.marks.now) (unmarked c.args.marks.now)))) in
    let e = window_edit c.args.lo c.args.after.now c.args.marks.now in
    let known = edited_read e c.args.has_ml c.args.seq.now c.args.mm.now c.args.ml.now _ (counted _ (c.in_ok-counted.was ∙ ap Ok c.in-Some.is)) in record { seq_len_bound = (c.requires.seq_len_bound.0, c.requires.seq_len_bound.1, omega (arith, taken_length, c.values_taken-taken.ensures, c.requires.seq_len_bound.2), whole); mm_in_bounds = (c.requires.mm_in_bounds.0, omega (arith, taken_length, c.values_taken-taken.ensures, c.requires.mm_in_bounds.1)); ml_value = (known.0, edited_taken e c.args.has_ml c.args.seq.now c.args.mm.now c.args.ml.now _ (taken) ∙ known.1) }

pub returns-in-Some : goal.returns-in-Some
returns-in-Some c =
    let taken : take (c.values_taken-taken.result - 0) c.args.ml.now ≡ cond c.args.has_ml c.args.ml.now [] = (let n : c.values_taken-taken.result - 0 ≡ cond c.args.has_ml (length c.args.ml.now) 0 = omega (arith, c.values_taken-taken.ensures) in
    taken_is c.args.has_ml c.args.ml.now (c.values_taken-taken.result - 0) n) in
    let e = window_edit c.args.lo c.args.after.now c.args.marks.now in
    c.edit_checked.ensures
    ∙ ap (λ (o : Outcome Tag). leaves_tag c.args.has_ml (in_room c.args.has_ml (length c.args.mm_out.now) (length c.args.ml_out.now) o) c.args.mm_out.now c.args.ml_out.now)
    (edited_taken e c.args.has_ml c.args.seq.now c.args.mm.now c.args.ml.now _ (taken))

pub returns-in_err-counted : goal.returns-in_err-counted
returns-in_err-counted c =
    let outcome : Outcome Tag = edited (window_edit c.args.lo c.args.after.now c.args.marks.now) c.args.has_ml c.args.seq.now c.args.mm.now c.args.ml.now in
    let taken : take (c.values_taken-taken.result - 0) c.args.ml.now ≡ cond c.args.has_ml c.args.ml.now [] = (let n : c.values_taken-taken.result - 0 ≡ cond c.args.has_ml (length c.args.ml.now) 0 = omega (arith, c.values_taken-taken.ensures) in
    taken_is c.args.has_ml c.args.ml.now (c.values_taken-taken.result - 0) n) in
    let counted : (r : Outcome (Option Count)) → c.count_tag.result ≡ r → TagCounted (not (eqb (length c.args.marks.now) 0)) (read c.args.has_ml (is_marked c.args.marks.now) c.args.seq.now c.args.mm.now c.args.ml.now) r = λ r e. (let same = read_taken c.args.has_ml (is_marked c.args.marks.now) c.args.seq.now c.args.mm.now c.args.ml.now _ (taken) in
    subst (TagCounted (not (eqb (length c.args.marks.now) 0)) (read c.args.has_ml (is_marked c.args.marks.now) c.args.seq.now c.args.mm.now c.args.ml.now)) e
    (subst (λ (o : Outcome (List Group)). TagCounted (not (eqb (length c.args.marks.now) 0)) o c.count_tag.result) same
    (c.count_tag.ensures (is_marked c.args.marks.now) (unmarked c.args.marks.now)))) in
    rw (passed_on _ _ c.from_residual.ensures.1) (refused_leaves c.args.has_ml c.args.mm_out.now c.args.ml_out.now c.in_err-counted.field-0.0 (outcome)
    (edited_refused (window_edit c.args.lo c.args.after.now c.args.marks.now) c.args.has_ml c.args.seq.now c.args.mm.now c.args.ml.now c.in_err-counted.field-0.0 (counted _ c.in_err-counted.was)))
