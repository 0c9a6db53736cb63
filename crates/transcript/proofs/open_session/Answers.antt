-- `open_session` answers the opening, lays the desk, and answers the lines that follow.
-- Assumes nothing.
use mathlib.Core.Path.{◌∙◌, ◌≡◌, ap, refl, sym}
use Prim.Native.Nat.{ℕ}
use native.Mathlib.Nat.{sub-zero}
use native.Mathlib.Omega.{arith}
use mathlib.Core.List.{◌++◌}
use lib.ListN.{drop, length, length-append, take}
use Rattle.lent.specs.Outcome.{on_done}
use Rattle.samtags.specs.Reading.{read_tag}
use Rattle.samtags.specs.Session.{Held}
use Rattle.lines.specs.Lines.{answer_line, lines_of}
use Rattle.reading.specs.Calls.{counts_of}
use Rattle.stepping.specs.Steps.{Ordered, memory}
use Rattle.stepping.specs.declared.Lengths.{Lengths}
use Rattle.transcript.proofs.OpeningLaws.{laid_in_order, laid_out, opening_done, opening_fits, opening_refused, said_answer, said_same}
use Rattle.serving.proofs.RestLaws.{put_then, said_from}
use Rattle.serving.specs.Serving.{after_opening}
use Rattle.transcript.specs.Transcript.{opened_on}
use Rattle.transcript.proofs.open_session.Goals as goal

pub returns-in-Err : goal.returns-in-Err
returns-in-Err c =
    let read : c.check_tag.result ≡ on_done counts_of (read_tag c.args.has_ml c.args.bases.now c.args.text.now (take c.args.values c.args.ml.now)) = c.check_tag.ensures ∙ ap (λ (n : ℕ). on_done counts_of (read_tag c.args.has_ml c.args.bases.now c.args.text.now (take n c.args.ml.now)))
    (sub-zero c.args.values) in
    let ml = take c.args.values c.args.ml.now in
    let ls = lines_of (drop c.args.place c.args.input.now) in
    said_answer (opened_on c.args.has_ml c.args.bases.now c.args.text.now ml ls) c.put_answer.result c.args.out.now c.put_answer.new.out c.number.result
    (opening_refused c.args.has_ml c.args.bases.now c.args.text.now ml ls c.check_tag.result read c.in-Err.refusal c.in-Err.is
    ∙ ap answer_line (sym c.number.ensures)) c.put_answer.ensures

pub answer_rest-requires : goal.answer_rest-requires
answer_rest-requires c =
    let read : c.check_tag.result ≡ on_done counts_of (read_tag c.args.has_ml c.args.bases.now c.args.text.now (take c.args.values c.args.ml.now)) = c.check_tag.ensures ∙ ap (λ (n : ℕ). on_done counts_of (read_tag c.args.has_ml c.args.bases.now c.args.text.now (take n c.args.ml.now)))
    (sub-zero c.args.values) in
    let size : Lengths = record { seq = length c.args.bases.now; mm = length c.args.text.now; ml = c.args.values } in
    let ordered : Ordered c.args.has_ml (memory c.put_all.new.out c.put_all-2.new.out c.args.ml.now size) = (let ml = take c.args.values c.args.ml.now in
    let fits = opening_fits c.args.has_ml c.args.bases.now c.args.text.now ml (lines_of (drop c.args.place c.args.input.now)) c.check_tag.result
    read c.in_default.field-0 c.in_default.is in
    laid_in_order c.args.bases.now c.args.text.now c.args.seq.now c.args.mm.now c.args.ml.now c.put_all.new.out c.put_all-2.new.out
    size c.put_all.ensures.1 c.put_all-2.ensures.1 refl refl (omega (arith, c.requires.desk_fits.seq_room, fits.0))
    (omega (arith, c.requires.desk_fits.mm_room, fits.1)) c.args.has_ml fits.0 fits.1 (omega (arith, c.requires.input_len_bound.4))
    (omega (arith, c.requires.input_len_bound.4, c.requires.desk_fits.ml_room))) in
    let whole : opened_on c.args.has_ml c.args.bases.now c.args.text.now (take c.args.values c.args.ml.now) (lines_of (drop c.args.place c.args.input.now)) ≡ answer_line 0 ++ said_from c.args.has_ml c.args.input.now c.args.place (memory c.put_all.new.out c.put_all-2.new.out c.args.ml.now size) = (let ml = take c.args.values c.args.ml.now in
    let ls = lines_of (drop c.args.place c.args.input.now) in
    let fits = opening_fits c.args.has_ml c.args.bases.now c.args.text.now ml ls c.check_tag.result
    read c.in_default.field-0 c.in_default.is in
    opening_done c.args.has_ml c.args.bases.now c.args.text.now ml ls c.check_tag.result read c.in_default.field-0 c.in_default.is
    ∙ ap (λ (h : Held). answer_line 0 ++ after_opening c.args.has_ml ls h)
    (sym (laid_out c.args.bases.now c.args.text.now c.args.seq.now c.args.mm.now c.args.ml.now c.put_all.new.out c.put_all-2.new.out
    size c.put_all.ensures.1 c.put_all-2.ensures.1 refl refl (omega (arith, c.requires.desk_fits.seq_room, fits.0))
    (omega (arith, c.requires.desk_fits.mm_room, fits.1))))) in
    let rest = said_from c.args.has_ml c.args.input.now c.args.place
    (memory c.put_all.new.out c.put_all-2.new.out
    c.args.ml.now size) in (
      ordered,
      omega arith,
      omega arith,
      omega (
        arith,
        c.requires.input_len_bound_2,
        ap length whole,
        length-append
            (answer_line 0) rest,
        c.put_answer-end.ensures.0,
      ),
    )

pub returns : goal.returns
returns c =
    let read : c.check_tag.result ≡ on_done counts_of (read_tag c.args.has_ml c.args.bases.now c.args.text.now (take c.args.values c.args.ml.now)) = c.check_tag.ensures ∙ ap (λ (n : ℕ). on_done counts_of (read_tag c.args.has_ml c.args.bases.now c.args.text.now (take n c.args.ml.now)))
    (sub-zero c.args.values) in
    let size : Lengths = record { seq = length c.args.bases.now; mm = length c.args.text.now; ml = c.args.values } in
    let whole : opened_on c.args.has_ml c.args.bases.now c.args.text.now (take c.args.values c.args.ml.now) (lines_of (drop c.args.place c.args.input.now)) ≡ answer_line 0 ++ said_from c.args.has_ml c.args.input.now c.args.place (memory c.put_all.new.out c.put_all-2.new.out c.args.ml.now size) = (let ml = take c.args.values c.args.ml.now in
    let ls = lines_of (drop c.args.place c.args.input.now) in
    let fits = opening_fits c.args.has_ml c.args.bases.now c.args.text.now ml ls c.check_tag.result
    read c.in_default.field-0 c.in_default.is in
    opening_done c.args.has_ml c.args.bases.now c.args.text.now ml ls c.check_tag.result read c.in_default.field-0 c.in_default.is
    ∙ ap (λ (h : Held). answer_line 0 ++ after_opening c.args.has_ml ls h)
    (sym (laid_out c.args.bases.now c.args.text.now c.args.seq.now c.args.mm.now c.args.ml.now c.put_all.new.out c.put_all-2.new.out
    size c.put_all.ensures.1 c.put_all-2.ensures.1 refl refl (omega (arith, c.requires.desk_fits.seq_room, fits.0))
    (omega (arith, c.requires.desk_fits.mm_room, fits.1))))) in
    let ml = take c.args.values c.args.ml.now in
    let ls = lines_of (drop c.args.place c.args.input.now) in
    let said = said_from c.args.has_ml c.args.input.now c.args.place
    (memory c.put_all.new.out c.put_all-2.new.out c.args.ml.now size) in
    let out = c.answer_rest.new.out in
    let all = put_then c.args.out.now 0 (answer_line 0) c.put_answer-end.result c.put_answer-end.new.out c.put_answer-end.ensures said c.answer_rest.result out c.answer_rest.ensures in
    said_same (opened_on c.args.has_ml c.args.bases.now c.args.text.now ml ls) c.answer_rest.result c.args.out.now out (answer_line 0 ++ said) whole
    (omega (arith, all.0), all.1)
