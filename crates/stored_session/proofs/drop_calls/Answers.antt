-- `drop_calls` checks that the lengths are in order, and then makes the step with two rows of SEQ's size, the short or the long ones.
-- Assumes nothing.
use mathlib.Core.Path.{◌∙◌, ap, refl, sym}
use native.Mathlib.Omega.{arith}
use Rattle.samtags.specs.Session.{Memory, drop_calls}
use Rattle.stepping.proofs.StepLaws.{left_as_was}
use Rattle.stepping.specs.Steps.{came, memory, step_says}
use Rattle.stored_steps.proofs.BackLaws.{step_refused, stored_ordered}
use Rattle.stored_steps.specs.Back.{OrderedStored}
use Rattle.lent.proofs.Outcome.{passed_on}
use Rattle.lent.specs.Outcome.{Outcome}
use Rattle.stepping.specs.declared.Lengths.{Lengths as Declared}
use Rattle.stored_session.proofs.drop_calls.Goals as goal

pub returns-in_err-lengths_in_order : goal.returns-in_err-lengths_in_order
returns-in_err-lengths_in_order c =
    let before : Memory = memory c.args.packed.now c.args.mm.now c.args.ml.now c.args.lengths in
    ap (λ (o : Outcome Declared). came (step_says o) c.args.packed.now c.args.mm.now c.args.ml.now) (passed_on _ _ c.from_residual.ensures.1)
    ∙ left_as_was (before) _ _ (step_refused c.args.has_ml (before) c.args.reverse (drop_calls c.args.places.now) c.in_err-lengths_in_order.field-0.0
    (sym c.lengths_in_order.ensures ∙ c.in_err-lengths_in_order.was))

pub drop_with-requires : goal.drop_with-requires
drop_with-requires c =
    let before : Memory = memory c.args.packed.now c.args.mm.now c.args.ml.now c.args.lengths in
    let ordered : OrderedStored c.args.has_ml (before) = stored_ordered c.args.has_ml (before) (sym c.lengths_in_order.ensures ∙ c.in_ok-lengths_in_order.was) in
    (ordered, omega (arith, c.few_marks-seq.ensures.0), omega (arith, c.few_marks-marks.ensures.0), (refl, c.few_marks-marks.ensures.1))

pub drop_with-requires-2 : goal.drop_with-requires-2
drop_with-requires-2 c =
    let before : Memory = memory c.args.packed.now c.args.mm.now c.args.ml.now c.args.lengths in
    let ordered : OrderedStored c.args.has_ml (before) = stored_ordered c.args.has_ml (before) (sym c.lengths_in_order.ensures ∙ c.in_ok-lengths_in_order.was) in
    (ordered, omega (arith, (ordered).0, c.no_marks-seq.ensures.0), omega (arith, (ordered).0, c.no_marks-marks.ensures.0), (refl, c.no_marks-marks.ensures.1))
