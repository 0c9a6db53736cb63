-- `mask` checks that the lengths are in order, and then masks with a row for the masked SEQ, the short or the long one.
-- Assumes nothing.
use Rattle.std.specs.Prelude.{Err}
use mathlib.Core.Path.{◌∙◌, ap, sym}
use native.Mathlib.Omega.{arith}
use Rattle.lent.specs.declared.Refusal.{Refusal}
use Rattle.samtags.specs.Session.{Memory, mask}
use Rattle.stepping.proofs.OrderLaws.{order_kept}
use Rattle.stepping.proofs.StepLaws.{left_as_was, refused_by_order}
use Rattle.stepping.specs.Steps.{Ordered, came, memory, step_says}
use Rattle.lent.proofs.Outcome.{passed_on}
use Rattle.session.proofs.mask.Goals as goal

pub returns-in_err-lengths_in_order : goal.returns-in_err-lengths_in_order
returns-in_err-lengths_in_order c =
    let before : Memory = memory c.args.seq.now c.args.mm.now c.args.ml.now c.args.lengths in
    ap (λ o. came (step_says o) c.args.seq.now c.args.mm.now c.args.ml.now) (passed_on c.from_residual.result _ c.from_residual.ensures.1)
    ∙ left_as_was (before) _ _ (refused_by_order c.args.has_ml (before) (mask c.args.places.now) c.in_err-lengths_in_order.field-0.0
    (sym c.lengths_in_order.ensures ∙ c.in_err-lengths_in_order.was))

pub mask_with-requires : goal.mask_with-requires
mask_with-requires c =
    let before : Memory = memory c.args.seq.now c.args.mm.now c.args.ml.now c.args.lengths in
    let ordered : Ordered c.args.has_ml (before) = order_kept c.args.has_ml (before) (sym c.lengths_in_order.ensures ∙ c.in_ok-lengths_in_order.was) in
    (ordered, omega (arith, c.few_marks-few.ensures.0))

pub mask_with-requires-2 : goal.mask_with-requires-2
mask_with-requires-2 c =
    let before : Memory = memory c.args.seq.now c.args.mm.now c.args.ml.now c.args.lengths in
    let ordered : Ordered c.args.has_ml (before) = order_kept c.args.has_ml (before) (sym c.lengths_in_order.ensures ∙ c.in_ok-lengths_in_order.was) in
    (ordered, omega (arith, (ordered).0, c.no_marks-after.ensures.0))
