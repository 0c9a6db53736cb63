-- `cut` checks that the lengths are in order, and then makes the step.
-- Assumes nothing.
use Rattle.std.specs.Prelude.{Err}
use mathlib.Core.Path.{◌∙◌, ◌≡◌, ap, sym}
use Rattle.lent.specs.declared.Refusal.{Refusal}
use Rattle.stepping.proofs.OrderLaws.{order_kept}
use Rattle.stepping.specs.Steps.{Ordered, came, leaves_memory, memory, step_says}
use Rattle.samtags.specs.Session.{Memory, cut, step_in_memory}
use Rattle.stepping.proofs.StepLaws.{left_as_was, refused_by_order}
use Rattle.lent.proofs.Outcome.{passed_on}
use Rattle.session.proofs.cut.Goals as goal

pub returns-in_err-lengths_in_order : goal.returns-in_err-lengths_in_order
returns-in_err-lengths_in_order c =
    let before : Memory = memory c.args.seq.now c.args.mm.now c.args.ml.now c.args.lengths in
    ap (λ o. came (step_says o) c.args.seq.now c.args.mm.now c.args.ml.now) (passed_on c.from_residual.result _ c.from_residual.ensures.1)
    ∙ left_as_was (before) _ _ (refused_by_order c.args.has_ml (before) (cut c.args.front c.args.back) c.in_err-lengths_in_order.field-0.0
    (sym c.lengths_in_order.ensures ∙ c.in_err-lengths_in_order.was))

pub cut_ends-requires : goal.cut_ends-requires
cut_ends-requires c =
    let before : Memory = memory c.args.seq.now c.args.mm.now c.args.ml.now c.args.lengths in
    let ordered : Ordered c.args.has_ml (before) = order_kept c.args.has_ml (before) (sym c.lengths_in_order.ensures ∙ c.in_ok-lengths_in_order.was) in
    ordered

pub returns : goal.returns
returns c =
    let before : Memory = memory c.args.seq.now c.args.mm.now c.args.ml.now c.args.lengths in
    let made : came (step_says c.cut_ends.result) c.cut_ends.new.seq c.cut_ends.new.mm c.cut_ends.new.ml
    ≡ leaves_memory (before) (step_in_memory c.args.has_ml (cut c.args.front c.args.back) (before)) =
    c.cut_ends.ensures in
    made
