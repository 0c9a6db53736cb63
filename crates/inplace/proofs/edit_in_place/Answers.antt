-- `edit_in_place` refuses what the first walk refuses, and writes what it accepts. If the first walk is unsure, the tag is measured.
-- Assumes nothing.
use Rattle.std.specs.Prelude.{Option}
use Rattle.measuring.specs.declared.Count.{Count}
use mathlib.Core.Path.{◌≡◌, ◌∙◌, ap, subst}
use Prim.Native.Nat.{◌-◌}
use native.Mathlib.Omega.{arith}
use mathlib.Core.Bool.{cond, not}
use mathlib.Core.List.{List, []}
use lib.Dec.{eqb}
use lib.ListN.{length, length-take, take}
use Rattle.changing.specs.Windows.{is_marked, window_edit}
use Rattle.editing.proofs.TagLaws.{edited_read, edited_refused, unmarked}
use Rattle.inplace.proofs.OwnRowLaws.{refused_own}
use Rattle.lent.proofs.Tests.{cond_at_most}
use Rattle.lent.specs.Outcome.{Outcome}
use Rattle.measuring.proofs.CountLaws.{read_taken}
use Rattle.measuring.specs.Counting.{TagCounted}
use Rattle.samtags.proofs.Taken.{taken_again, taken_is}
use Rattle.samtags.specs.Edits.{edited}
use Rattle.samtags.specs.Reading.{read}
use Rattle.samtags.specs.Spots.{Group}
use Rattle.std.specs.Prelude.{Ok}
use Rattle.lent.proofs.Outcome.{passed_on}
use Rattle.inplace.proofs.edit_in_place.Goals as goal

pub slice_bounds-count_tag-end : goal.slice_bounds-count_tag-end
slice_bounds-count_tag-end c =
    omega (arith, c.values_taken-taken.ensures, cond_at_most c.args.has_ml (length c.args.ml.now))

pub count_tag-requires : goal.count_tag-requires
count_tag-requires c =
    let taken : take (c.values_taken-taken.result - 0) c.args.ml.now ≡ cond c.args.has_ml c.args.ml.now [] = (let n : c.values_taken-taken.result - 0 ≡ cond c.args.has_ml (length c.args.ml.now) 0 = omega (arith, c.values_taken-taken.ensures) in
    taken_is c.args.has_ml c.args.ml.now (c.values_taken-taken.result - 0) n) in (
      c.requires.0,
      c.requires.1,
      omega (arith, length-take (c.values_taken-taken.result - 0) c.args.ml.now, c.values_taken-taken.ensures, c.requires.2),
      rw (taken) (taken_again c.args.has_ml c.args.ml.now),
    )

pub edit_checked-requires : goal.edit_checked-requires
edit_checked-requires c =
    let taken : take (c.values_taken-taken.result - 0) c.args.ml.now ≡ cond c.args.has_ml c.args.ml.now [] = (let n : c.values_taken-taken.result - 0 ≡ cond c.args.has_ml (length c.args.ml.now) 0 = omega (arith, c.values_taken-taken.ensures) in
    taken_is c.args.has_ml c.args.ml.now (c.values_taken-taken.result - 0) n) in
    let counted : (r : Outcome (Option Count)) → c.count_tag.result ≡ r → TagCounted (not (eqb (length c.args.marks.now) 0)) (read c.args.has_ml (is_marked c.args.marks.now) c.args.seq.now c.args.text.now c.args.ml.now) r = λ r e. (let same = read_taken c.args.has_ml (is_marked c.args.marks.now) c.args.seq.now c.args.text.now c.args.ml.now _ (taken) in
    subst (TagCounted (not (eqb (length c.args.marks.now) 0)) (read c.args.has_ml (is_marked c.args.marks.now) c.args.seq.now c.args.text.now c.args.ml.now)) e
    (subst (λ (o : Outcome (List Group)). TagCounted (not (eqb (length c.args.marks.now) 0)) o c.count_tag.result) same
    (c.count_tag.ensures (is_marked c.args.marks.now) (unmarked c.args.marks.now)))) in
    record {
      seq_len_bound = c.requires;
      ml_value = edited_read (window_edit c.args.lo c.args.after.now c.args.marks.now) c.args.has_ml c.args.seq.now c.args.text.now c.args.ml.now _
          (counted _ (c.in_ok-counted.was ∙ ap Ok c.in-Some.is));
    }

pub returns-in_err-counted : goal.returns-in_err-counted
returns-in_err-counted c =
    let taken : take (c.values_taken-taken.result - 0) c.args.ml.now ≡ cond c.args.has_ml c.args.ml.now [] = (let n : c.values_taken-taken.result - 0 ≡ cond c.args.has_ml (length c.args.ml.now) 0 = omega (arith, c.values_taken-taken.ensures) in
    taken_is c.args.has_ml c.args.ml.now (c.values_taken-taken.result - 0) n) in
    let counted : (r : Outcome (Option Count)) → c.count_tag.result ≡ r → TagCounted (not (eqb (length c.args.marks.now) 0)) (read c.args.has_ml (is_marked c.args.marks.now) c.args.seq.now c.args.text.now c.args.ml.now) r = λ r e. (let same = read_taken c.args.has_ml (is_marked c.args.marks.now) c.args.seq.now c.args.text.now c.args.ml.now _ (taken) in
    subst (TagCounted (not (eqb (length c.args.marks.now) 0)) (read c.args.has_ml (is_marked c.args.marks.now) c.args.seq.now c.args.text.now c.args.ml.now)) e
    (subst (λ (o : Outcome (List Group)). TagCounted (not (eqb (length c.args.marks.now) 0)) o c.count_tag.result) same
    (c.count_tag.ensures (is_marked c.args.marks.now) (unmarked c.args.marks.now)))) in
    let e = window_edit c.args.lo c.args.after.now c.args.marks.now in
    rw (passed_on _ _ c.from_residual.ensures.1) (refused_own c.args.has_ml c.args.text.now c.args.ml.now (edited e c.args.has_ml c.args.seq.now c.args.text.now c.args.ml.now) c.in_err-counted.field-0.0
    (edited_refused e c.args.has_ml c.args.seq.now c.args.text.now c.args.ml.now c.in_err-counted.field-0.0 (counted _ c.in_err-counted.was)))
