-- `mask_line` copies the front of SEQ, writes N at the listed places of the copy, and masks.
-- Assumes nothing.
use Rattle.std.specs.Prelude.{None, Some}
use mathlib.Core.Path.{◌∙◌, ◌≡◌, ap, subst, sym}
use Prim.Native.Nat.{◌-◌, ℕ}
use native.Mathlib.Omega.{arith}
use mathlib.Core.Bool.{true}
use mathlib.Core.List.{map}
use lib.ListN.{take}
use Rattle.samtags.specs.Decimal.{value}
use Rattle.samtags.specs.Session.{mask}
use Rattle.lines.specs.Lines.{given, joined, numbers_of}
use Rattle.stepping.proofs.StepLaws.{mask_is_step}
use Rattle.stepping.specs.Steps.{leaves_memory, memory}
use Rattle.answering.proofs.LineLaws.{masked_front, no_numbers, step_answered, the_numbers}
use Rattle.answering.specs.Answers.{LineAnswered}
use Rattle.stepping.specs.declared.Lengths.{Lengths}
use Rattle.answering.proofs.mask_line.Goals as goal

pub returns-then-not-good : goal.returns-then-not-good
returns-then-not-good c =
    no_numbers 4294967295 c.args.body.now (λ ns. Some (mask ns))
    (sym c.put_listed-good.ensures.0 ∙ c.if-not-good.true)

pub returns : goal.returns
returns c =
    let n = c.args.lengths.seq in
    let m = memory c.args.seq.now c.args.mm.now c.args.ml.now c.args.lengths in
    let places = map value (joined c.args.body.now) in
    let good : c.put_listed-good.result ≡ true = c.if-not-good.false in
    let asked = given (numbers_of 4294967295 c.args.body.now) None (λ ns. Some (mask ns)) in
    let after = masked_front n c.args.seq.now c.no_marks-after.result c.put_all.new.out c.put_listed-good.new.row places c.requires.0.3
    (omega (arith, c.requires.0.0, c.no_marks-after.ensures.0)) c.put_all.ensures.1 (c.put_listed-good.ensures.1 good) in
    subst
    (λ (x : ℕ × Lengths). LineAnswered c.args.has_ml asked m (Some x) c.mask_to-step.new.seq c.mask_to-step.new.mm c.mask_to-step.new.ml)
    (sym c.step_answer.ensures)
    (step_answered c.args.has_ml c.args.seq.now c.args.mm.now c.args.ml.now c.args.lengths asked (mask places)
    (the_numbers 4294967295 c.args.body.now (λ ns. Some (mask ns)) (sym c.put_listed-good.ensures.0 ∙ good)) c.mask_to-step.result
    c.mask_to-step.new.seq c.mask_to-step.new.mm c.mask_to-step.new.ml
    (c.mask_to-step.ensures ∙ ap (leaves_memory m) (mask_is_step c.args.has_ml m c.requires.0 places (take (n - 0) c.put_listed-good.new.row) after)))
