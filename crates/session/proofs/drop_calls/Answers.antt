-- `drop_calls` checks that the lengths are in order, and then drops with a row for the marks, the short or the long one.
-- Assumes nothing.
use Rattle.std.specs.Prelude.{Err}
use mathlib.Core.Path.{◌∙◌, ap, refl, sym}
use native.Mathlib.Omega.{arith}
use Rattle.lent.specs.declared.Refusal.{Refusal}
use Rattle.samtags.specs.Session.{Memory, drop_calls}
use Rattle.stepping.proofs.OrderLaws.{order_kept}
use Rattle.stepping.proofs.StepLaws.{left_as_was, refused_by_order}
use Rattle.stepping.specs.Steps.{Ordered, came, memory, step_says}
use Rattle.lent.proofs.Outcome.{passed_on}
use Rattle.session.proofs.drop_calls.Goals as goal

pub returns-in_err-lengths_in_order : goal.returns-in_err-lengths_in_order
returns-in_err-lengths_in_order c =
    let before : Memory = memory c.args.seq.now c.args.mm.now c.args.ml.now c.args.lengths in
    ap (λ o. came (step_says o) c.args.seq.now c.args.mm.now c.args.ml.now) (passed_on c.from_residual.result _ c.from_residual.ensures.1)
    ∙ left_as_was (before) _ _ (refused_by_order c.args.has_ml (before) (drop_calls c.args.places.now) c.in_err-lengths_in_order.field-0.0
    (sym c.lengths_in_order.ensures ∙ c.in_err-lengths_in_order.was))

pub drop_with-requires : goal.drop_with-requires
drop_with-requires c =
    let before : Memory = memory c.args.seq.now c.args.mm.now c.args.ml.now c.args.lengths in
    let ordered : Ordered c.args.has_ml (before) = order_kept c.args.has_ml (before) (sym c.lengths_in_order.ensures ∙ c.in_ok-lengths_in_order.was) in
    (ordered, omega (arith, c.few_marks-few.ensures.0), (refl, c.few_marks-few.ensures.1))

pub drop_with-requires-2 : goal.drop_with-requires-2
drop_with-requires-2 c =
    let before : Memory = memory c.args.seq.now c.args.mm.now c.args.ml.now c.args.lengths in
    let ordered : Ordered c.args.has_ml (before) = order_kept c.args.has_ml (before) (sym c.lengths_in_order.ensures ∙ c.in_ok-lengths_in_order.was) in
    (ordered, omega (arith, (ordered).0, c.no_marks-marks.ensures.0), (refl, c.no_marks-marks.ensures.1))
