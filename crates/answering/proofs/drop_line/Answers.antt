-- `drop_line` marks the places in a row without marks, and then drops the calls there.
-- Assumes nothing.
use Rattle.std.specs.Prelude.{None, Some}
use mathlib.Core.Path.{◌∙◌, ◌≡◌, ap, subst, sym}
use Prim.Native.Nat.{◌<◌, ℕ}
use native.Mathlib.Omega.{arith}
use mathlib.Core.Bool.{true}
use mathlib.Core.List.{List, map}
use lib.ListN.{length, length-take}
use Rattle.lent.specs.Lists.{among}
use Rattle.samtags.specs.Decimal.{value}
use Rattle.samtags.specs.Session.{drop_calls, held_in}
use Rattle.changing.proofs.WindowLaws.{marked_only}
use Rattle.changing.specs.Windows.{is_marked, marked_at}
use Rattle.lines.specs.Lines.{given, joined, numbers_of}
use Rattle.stepping.proofs.StepLaws.{drop_is_step}
use Rattle.stepping.specs.Steps.{leaves_memory, memory}
use Rattle.answering.proofs.LineLaws.{no_numbers, step_answered, the_numbers}
use Rattle.answering.specs.Answers.{LineAnswered}
use Rattle.stepping.specs.declared.Lengths.{Lengths}
use Rattle.answering.proofs.drop_line.Goals as goal

pub returns-then-not-good : goal.returns-then-not-good
returns-then-not-good c =
    no_numbers 4294967295 c.args.body.now (λ ns. Some (drop_calls ns))
    (sym c.put_listed-good.ensures.0 ∙ c.if-not-good.true)

pub returns : goal.returns
returns c =
    let m = memory c.args.seq.now c.args.mm.now c.args.ml.now c.args.lengths in
    let places = map value (joined c.args.body.now) in
    let good : c.put_listed-good.result ≡ true = c.if-not-good.false in
    let asked = given (numbers_of 4294967295 c.args.body.now) None (λ ns. Some (drop_calls ns)) in
    let marked : c.put_listed-good.new.row ≡ marked_at places c.no_marks-marks.result = c.put_listed-good.ensures.1 good in
    let named : (p : ℕ) → p < length (held_in m).seq → is_marked c.put_listed-good.new.row p ≡ among places p = λ p l.
    ap (λ (marks : List ℕ). is_marked marks p) marked
    ∙ marked_only places c.no_marks-marks.result c.no_marks-marks.ensures.1 p (omega
    (arith, c.requires.0.0, c.no_marks-marks.ensures.0, length-take c.args.lengths.seq c.args.seq.now)) in
    subst
    (λ (x : ℕ × Lengths). LineAnswered c.args.has_ml asked m (Some x) c.args.seq.now c.drop_marked-step.new.mm c.drop_marked-step.new.ml)
    (sym c.step_answer.ensures)
    (step_answered c.args.has_ml c.args.seq.now c.args.mm.now c.args.ml.now c.args.lengths asked (drop_calls places)
    (the_numbers 4294967295 c.args.body.now (λ ns. Some (drop_calls ns)) (sym c.put_listed-good.ensures.0 ∙ good)) c.drop_marked-step.result
    c.args.seq.now c.drop_marked-step.new.mm c.drop_marked-step.new.ml
    (c.drop_marked-step.ensures ∙ ap (leaves_memory m) (drop_is_step c.args.has_ml m c.requires.0 places c.put_listed-good.new.row named)))
