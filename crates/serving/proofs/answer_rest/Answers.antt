use Rattle.std.specs.Prelude.{None, Option}
use mathlib.Core.Path.{◌∙◌, ◌≡◌, ap, subst, sym}
use Prim.Native.Nat.{◌+◌, ◌≤◌, ℕ}
use native.Mathlib.Omega.{arith}
use mathlib.Core.List.{List}
use lib.ListN.{length}
use lib.Seq.{sets}
use Rattle.lines.proofs.UpToLaws.{up_to_within}
use Rattle.lines.specs.Lines.{answer_line, step_of}
use Rattle.samtags.specs.Session.{Memory}
use Rattle.stepping.specs.Steps.{memory}
use Rattle.answering.specs.Answers.{LineAnswered}
use Rattle.stepping.specs.declared.Lengths.{Lengths}
use Rattle.serving.proofs.RestLaws.{Turned, bad_line, no_line, put_on, said_from, turned}
use Rattle.serving.proofs.answer_rest.Goals as goal

pub answer_line-requires : goal.answer_line-requires
answer_line-requires c =
    let within : c.loop-place.place + length c.next_line-line.result.now ≤ length c.args.input.now = subst (λ (l : List ℕ). c.loop-place.place + length l ≤ length c.args.input.now)
    (sym c.next_line-line.ensures) (up_to_within 10 c.args.input.now c.loop-place.place (omega arith)) in (
      c.loop-place.invariant.0,
      omega
          (arith, c.requires.1, within),
    )

pub returns-in_default : goal.returns-in_default
returns-in_default c =
    let rows : Memory = memory c.loop-place.seq c.loop-place.mm c.loop-place.ml c.loop-place.held in
    let none-asked : step_of c.next_line-line.result.now ≡ None =
    subst (λ (x : Option (ℕ × Lengths)). LineAnswered c.args.has_ml (step_of c.next_line-line.result.now) rows x c.answer_line.new.seq c.answer_line.new.mm
    c.answer_line.new.ml)
    c.in_default.is c.answer_line.ensures in
    let bad = bad_line c.args.has_ml c.args.input.now c.loop-place.place rows
    c.loop-place-test.true c.next_line-line.result.now c.next_line-line.ensures none-asked in (
      omega (arith, c.loop-place.invariant.2, ap length bad, c.put_answer.ensures.0),
      c.put_answer.ensures.1 ∙ sym (c.loop-place.invariant.1 ∙ ap (sets c.loop-place.out c.loop-place.end) bad),
    )

pub loop-place-preserved : goal.loop-place-preserved
loop-place-preserved c =
    let rows : Memory = memory c.loop-place.seq c.loop-place.mm c.loop-place.ml c.loop-place.held in
    let within : c.loop-place.place + length c.next_line-line.result.now ≤ length c.args.input.now = subst (λ (l : List ℕ). c.loop-place.place + length l ≤ length c.args.input.now)
    (sym c.next_line-line.ensures) (up_to_within 10 c.args.input.now c.loop-place.place (omega arith)) in
    let turn : Turned c.args.has_ml c.args.input.now c.loop-place.place rows c.loop-place-test.true c.next_line-line.result.now c.next_line-line.ensures c.in-Some.number (memory c.answer_line.new.seq c.answer_line.new.mm c.answer_line.new.ml c.in-Some.next) = turned c.args.has_ml c.args.input.now c.loop-place.place rows c.loop-place-test.true c.next_line-line.result.now c.next_line-line.ensures c.loop-place.invariant.0
    c.in-Some.number c.in-Some.next c.answer_line.new.seq c.answer_line.new.mm c.answer_line.new.ml
    (subst (λ (x : Option (ℕ × Lengths)). LineAnswered c.args.has_ml (step_of c.next_line-line.result.now) rows x c.answer_line.new.seq c.answer_line.new.mm
    c.answer_line.new.ml) c.in-Some.is
    c.answer_line.ensures) in
    let t = turn in
    let next = memory c.answer_line.new.seq c.answer_line.new.mm c.answer_line.new.ml c.in-Some.next in
    let on = put_on c.loop-place.out c.loop-place.end (answer_line c.in-Some.number) c.put_answer-end.result c.put_answer-end.new.out c.put_answer-end.ensures
    (said_from c.args.has_ml c.args.input.now (c.loop-place.place + length c.next_line-line.result.now + 1) next) in (
      t.ordered,
      c.loop-place.invariant.1 ∙ ap (sets c.loop-place.out c.loop-place.end) t.said ∙ on.0,
      omega (arith, c.loop-place.invariant.2, ap length t.said, on.1),
      c.answer_line.auto.seq ∙ c.loop-place.invariant.3,
      c.answer_line.auto.mm ∙ c.loop-place.invariant.4,
      c.answer_line.auto.ml ∙ c.loop-place.invariant.5,
      c.put_answer-end.auto.out ∙ c.loop-place.invariant.6,
      omega (arith, c.requires.1, within),
    )

pub returns : goal.returns
returns c =
    let rows : Memory = memory c.loop-place.seq c.loop-place.mm c.loop-place.ml c.loop-place.held in
    let None = no_line c.args.has_ml c.args.input.now c.loop-place.place rows
    c.loop-place-test.false in (
      omega (arith, c.loop-place.invariant.2, ap length None, c.put_closing.ensures.0),
      c.put_closing.ensures.1 ∙ sym (c.loop-place.invariant.1 ∙ ap (sets c.loop-place.out c.loop-place.end) None),
    )
