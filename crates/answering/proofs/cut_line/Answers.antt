-- `cut_line` reads two numbers, and cuts.
-- Assumes nothing.
use Rattle.std.specs.Prelude.{None, Some}
use mathlib.Core.Path.{◌∙◌, ap, subst, sym}
use Prim.Native.Nat.{ℕ}
use Rattle.samtags.specs.Session.{cut}
use Rattle.operands.specs.Answers.{ends_says}
use Rattle.lines.specs.Lines.{cut_of, given, numbers_of}
use Rattle.stepping.specs.Steps.{memory}
use Rattle.answering.proofs.LineLaws.{step_answered}
use Rattle.answering.specs.Answers.{LineAnswered}
use Rattle.stepping.specs.declared.Lengths.{Lengths}
use Rattle.answering.proofs.cut_line.Goals as goal

pub returns : goal.returns
returns c =
    let asked = given (numbers_of 4294967295 c.args.body.now) None cut_of in
    subst
    (λ (x : ℕ × Lengths). LineAnswered c.args.has_ml asked (memory c.args.seq.now c.args.mm.now c.args.ml.now c.args.lengths) (Some x)
    c.cut_ends-step.new.seq c.cut_ends-step.new.mm c.cut_ends-step.new.ml)
    (sym c.step_answer.ensures)
    (step_answered c.args.has_ml c.args.seq.now c.args.mm.now c.args.ml.now c.args.lengths asked (cut c.in_ok-front.front c.in_ok-front.back)
    (sym c.read_ends.ensures ∙ ap ends_says c.in_ok-front.was) c.cut_ends-step.result
    c.cut_ends-step.new.seq c.cut_ends-step.new.mm c.cut_ends-step.new.ml c.cut_ends-step.ensures)
