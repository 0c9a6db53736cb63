-- `check_tag` answers with the refusal, or with the counts of the first walk.
-- Assumes nothing.
use Rattle.measuring.specs.declared.Count.{Count}
use mathlib.Core.Path.{◌∙◌, ◌≡◌, ap, subst, sym}
use Rattle.lent.proofs.Outcome.{passed_on}
use Rattle.lent.specs.Outcome.{Outcome, on_done}
use Rattle.reading.proofs.AnswerLaws.{refused_with, tag_counted, tag_refused}
use Rattle.reading.proofs.CheckLaws.{tested}
use Rattle.reading.specs.Calls.{counts_of}
use Rattle.reading.specs.Measured.{TagMeasured}
use Rattle.reading.proofs.check_tag.Goals as goal

pub returns-in_err-end : goal.returns-in_err-end
returns-in_err-end c =
    passed_on _ _ c.from_residual.ensures.1
    ∙ sym (ap (on_done counts_of) (tag_refused c.args.has_ml c.args.seq.now c.args.mm.now c.args.ml.now _
    (refused_with _ c.measure.result _ c.in_err-end.was c.measure.ensures)))

pub returns : goal.returns
returns c =
    let walked : (r : Outcome Count) → c.measure.result ≡ r → TagMeasured (tested c.args.has_ml c.args.seq.now c.args.mm.now c.args.ml.now) r = λ r e. subst (TagMeasured (tested c.args.has_ml c.args.seq.now c.args.mm.now c.args.ml.now)) e c.measure.ensures in
    sym (tag_counted c.args.has_ml c.args.seq.now c.args.mm.now c.args.ml.now c.in_ok-end.end.group c.in_ok-end.end.calls (walked _ c.in_ok-end.was))
