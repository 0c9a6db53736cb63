-- `tally` answers with the refusal, or with the number of values from 128 on and the number of all others.
-- Assumes nothing.
use Rattle.lent.proofs.Outcome.{passed_on}
use Rattle.lent.specs.Outcome.{Outcome}
use Rattle.measuring.specs.declared.Count.{Count}
use mathlib.Core.Path.{◌∙◌, ◌≡◌, ap, subst, sym}
use native.Mathlib.Omega.{arith}
use mathlib.Core.Bool.{true}
use Rattle.lent.proofs.Lists.{filter_length}
use Rattle.samtags.specs.Reading.{is_above}
use Rattle.reading.proofs.AnswerLaws.{refused_with, tally_done, tally_refused}
use Rattle.reading.proofs.CheckLaws.{tested}
use Rattle.reading.specs.Answers.{tally_says}
use Rattle.reading.specs.Measured.{TagMeasured}
use Rattle.reading.proofs.tally.Goals as goal

pub returns-in_err-measure : goal.returns-in_err-measure
returns-in_err-measure c =
    ap tally_says (passed_on _ _ c.from_residual.ensures.1)
    ∙ sym (tally_refused c.args.seq.now c.args.mm.now c.args.ml.now _ (refused_with _ c.measure.result _ c.in_err-measure.was c.measure.ensures))

pub overflow_sub-result : goal.overflow_sub-result
overflow_sub-result c = omega (arith, c.count_above-above.ensures, filter_length is_above c.args.ml.now)

pub returns : goal.returns
returns c =
    let walked : (r : Outcome Count) → c.measure.result ≡ r → TagMeasured (tested true c.args.seq.now c.args.mm.now c.args.ml.now) r = λ r e. subst (TagMeasured (tested true c.args.seq.now c.args.mm.now c.args.ml.now)) e c.measure.ensures in
    sym (tally_done c.args.seq.now c.args.mm.now c.args.ml.now c.count_above-above.result c.in_ok-measure.field-0.group c.in_ok-measure.field-0.calls (walked _ c.in_ok-measure.was)
    c.count_above-above.ensures)
