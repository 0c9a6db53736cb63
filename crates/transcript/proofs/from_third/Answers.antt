-- `from_third`, by cases: no ML, a bad ML, or an ML whose values are put on the desk.
-- Assumes nothing.
use Rattle.std.specs.Prelude.{Option, Some}
use mathlib.Core.Path.{◌∙◌, ◌≡◌, ap, subst, sym}
use Prim.Native.Nat.{◌+◌, ◌≤◌, ℕ}
use native.Mathlib.Omega.{arith}
use mathlib.Core.Bool.{false, true}
use mathlib.Core.List.{List, []}
use lib.ListN.{drop, length, length-drop, take}
use Rattle.lines.proofs.UpToLaws.{up_to_within}
use Rattle.operands.specs.Answers.{ValuesPut, values_in}
use Rattle.lines.specs.Lines.{has_mark, lines_of, values_of}
use Rattle.transcript.proofs.OpeningLaws.{no_values_of, said_answer, said_same, third_bad, third_ends, third_other, third_values, values_fit, values_of_lem, values_stored}
use Rattle.transcript.specs.Transcript.{from_third, opened_on}
use Rattle.transcript.proofs.from_third.Goals as goal

-- the values that were read are on the desk
record Laid (bases text input : List ℕ) (place line n : ℕ) (row : List ℕ) : Type 0 where
  said : from_third bases text (lines_of (drop place input)) ≡ opened_on true bases text (take n row) (lines_of (drop (place + line + 1) input))
  few : n ≤ 32768

pub open_session-requires-clause-input_len_bound_2 : goal.open_session-requires-clause-input_len_bound_2
open_session-requires-clause-input_len_bound_2 c =
    omega (arith, c.requires.input_len_bound_2, ap length (third_ends c.args.input.now c.args.place (omega arith) c.args.bases.now c.args.text.now))

pub returns-then-input-place : goal.returns-then-input-place
returns-then-input-place c =
    let ended : from_third c.args.bases.now c.args.text.now (lines_of (drop c.args.place c.args.input.now)) ≡ opened_on false c.args.bases.now c.args.text.now [] (lines_of (drop c.args.place c.args.input.now)) = third_ends c.args.input.now c.args.place (omega arith) c.args.bases.now c.args.text.now in
    said_same (from_third c.args.bases.now c.args.text.now (lines_of (drop c.args.place c.args.input.now))) c.open_session.result c.args.out.now
    c.open_session.new.out
    (opened_on false c.args.bases.now c.args.text.now [] (lines_of (drop c.args.place c.args.input.now)))
    ended c.open_session.ensures

pub open_session-requires-then-not-marked-clause-input_len_bound_2 : goal.open_session-requires-then-not-marked-clause-input_len_bound_2
open_session-requires-then-not-marked-clause-input_len_bound_2 c =
    let other = third_other c.args.input.now c.args.place (omega arith) c.next_line-line.result.now c.next_line-line.ensures c.args.bases.now c.args.text.now
    (sym c.has_mark-marked.ensures ∙ c.if-not-marked.true) in
    omega (arith, c.requires.input_len_bound_2, ap length other)

pub returns-then-not-marked : goal.returns-then-not-marked
returns-then-not-marked c =
    let other : from_third c.args.bases.now c.args.text.now (lines_of (drop c.args.place c.args.input.now)) ≡ opened_on false c.args.bases.now c.args.text.now [] (lines_of (drop c.args.place c.args.input.now)) = third_other c.args.input.now c.args.place (omega arith) c.next_line-line.result.now c.next_line-line.ensures c.args.bases.now c.args.text.now
    (sym c.has_mark-marked.ensures ∙ c.if-not-marked.true) in
    said_same (from_third c.args.bases.now c.args.text.now (lines_of (drop c.args.place c.args.input.now))) c.open_session-then-not-marked.result c.args.out.now
    c.open_session-then-not-marked.new.out
    (opened_on false c.args.bases.now c.args.text.now [] (lines_of (drop c.args.place c.args.input.now)))
    other c.open_session-then-not-marked.ensures

pub put_values-requires : goal.put_values-requires
put_values-requires c =
    let within : c.args.place + length c.next_line-line.result.now ≤ length c.args.input.now = subst (λ (l : List ℕ). c.args.place + length l ≤ length c.args.input.now) (sym c.next_line-line.ensures)
    (up_to_within 10 c.args.input.now c.args.place (omega arith)) in
    let body_short : length c.body_of-body.result.now ≤ 65536 = omega (
      arith,
      ap length c.body_of-body.ensures,
      length-drop 2 c.next_line-line.result.now,
      c.requires.input_len_bound.0,
      within,
    ) in
    omega (arith, body_short)

pub returns-in_default : goal.returns-in_default
returns-in_default c =
    let marked : has_mark "ML" c.next_line-line.result.now ≡ true = sym c.has_mark-marked.ensures ∙ c.if-not-marked.false in
    let bad = subst (λ (v : Option ℕ). ValuesPut (values_in c.body_of-body.result.now) v c.args.ml.now c.put_values.new.row)
    c.in_default.is c.put_values.ensures in
    said_answer (from_third c.args.bases.now c.args.text.now (lines_of (drop c.args.place c.args.input.now))) c.put_answer.result c.args.out.now c.put_answer.new.out 13
    (third_bad c.args.input.now c.args.place (omega arith) c.next_line-line.result.now c.next_line-line.ensures c.args.bases.now c.args.text.now
    marked
    (no_values_of c.next_line-line.result.now (ap values_in (sym c.body_of-body.ensures) ∙ bad))) c.put_answer.ensures

pub open_session-requires-2 : goal.open_session-requires-2
open_session-requires-2 c =
    let within : c.args.place + length c.next_line-line.result.now ≤ length c.args.input.now = subst (λ (l : List ℕ). c.args.place + length l ≤ length c.args.input.now) (sym c.next_line-line.ensures)
    (up_to_within 10 c.args.input.now c.args.place (omega arith)) in
    let marked : has_mark "ML" c.next_line-line.result.now ≡ true = sym c.has_mark-marked.ensures ∙ c.if-not-marked.false in
    let laid : Laid c.args.bases.now c.args.text.now c.args.input.now c.args.place (length c.next_line-line.result.now) c.in-Some.values c.put_values.new.row = (let inside = within in
    let put = subst (λ (v : Option ℕ). ValuesPut (values_in c.body_of-body.result.now) v c.args.ml.now
    c.put_values.new.row) c.in-Some.is c.put_values.ensures in
    let vs = put.0 in
    let values : values_of c.next_line-line.result.now ≡ Some vs =
    values_of_lem c.next_line-line.result.now vs (ap values_in (sym c.body_of-body.ensures) ∙ put.1) in
    let fits : length vs ≤ 32768 = values_fit c.next_line-line.result.now vs values (omega (arith, c.requires.input_len_bound.0)) in
    let ls = lines_of (drop (c.args.place + length c.next_line-line.result.now + 1) c.args.input.now) in
    record {
      said =
          third_values c.args.input.now c.args.place (omega arith) c.next_line-line.result.now c.next_line-line.ensures c.args.bases.now c.args.text.now
          marked vs values
          ∙ ap (λ (ml : List ℕ). opened_on true c.args.bases.now c.args.text.now ml ls)
          (sym (values_stored vs c.args.ml.now c.put_values.new.row c.in-Some.values put.2 put.3 (omega (arith, c.requires.desk_fits.ml_room))));
      few = omega (arith, put.2);
    }) in
    let inside = within in record { input_len_bound = (c.requires.input_len_bound.0, omega (arith, c.requires.input_len_bound.0), c.requires.input_len_bound.2, c.requires.input_len_bound.3, laid.few); desk_fits = record { seq_room = c.requires.desk_fits.seq_room; mm_room = c.requires.desk_fits.mm_room; ml_room = omega (arith, c.requires.desk_fits.ml_room, c.put_values.auto.row) }; input_len_bound_2 = omega (arith, c.requires.input_len_bound_2, ap length laid.said) }

pub returns : goal.returns
returns c =
    let within : c.args.place + length c.next_line-line.result.now ≤ length c.args.input.now = subst (λ (l : List ℕ). c.args.place + length l ≤ length c.args.input.now) (sym c.next_line-line.ensures)
    (up_to_within 10 c.args.input.now c.args.place (omega arith)) in
    let marked : has_mark "ML" c.next_line-line.result.now ≡ true = sym c.has_mark-marked.ensures ∙ c.if-not-marked.false in
    let laid : Laid c.args.bases.now c.args.text.now c.args.input.now c.args.place (length c.next_line-line.result.now) c.in-Some.values c.put_values.new.row = (let inside = within in
    let put = subst (λ (v : Option ℕ). ValuesPut (values_in c.body_of-body.result.now) v c.args.ml.now
    c.put_values.new.row) c.in-Some.is c.put_values.ensures in
    let vs = put.0 in
    let values : values_of c.next_line-line.result.now ≡ Some vs =
    values_of_lem c.next_line-line.result.now vs (ap values_in (sym c.body_of-body.ensures) ∙ put.1) in
    let fits : length vs ≤ 32768 = values_fit c.next_line-line.result.now vs values (omega (arith, c.requires.input_len_bound.0)) in
    let ls = lines_of (drop (c.args.place + length c.next_line-line.result.now + 1) c.args.input.now) in
    record {
      said =
          third_values c.args.input.now c.args.place (omega arith) c.next_line-line.result.now c.next_line-line.ensures c.args.bases.now c.args.text.now
          marked vs values
          ∙ ap (λ (ml : List ℕ). opened_on true c.args.bases.now c.args.text.now ml ls)
          (sym (values_stored vs c.args.ml.now c.put_values.new.row c.in-Some.values put.2 put.3 (omega (arith, c.requires.desk_fits.ml_room))));
      few = omega (arith, put.2);
    }) in
    said_same (from_third c.args.bases.now c.args.text.now (lines_of (drop c.args.place c.args.input.now))) c.open_session-2.result c.args.out.now
    c.open_session-2.new.out
    (opened_on true c.args.bases.now c.args.text.now (take c.in-Some.values c.put_values.new.row)
    (lines_of (drop (c.args.place + length c.next_line-line.result.now + 1) c.args.input.now)))
    laid.said c.open_session-2.ensures
