-- `cut` checks that the lengths are in order, and then makes the step with a row of SEQ's size, the short or the long one.
-- Assumes nothing.
use mathlib.Core.Path.{◌∙◌, ◌≡◌, ap, sym}
use native.Mathlib.Omega.{arith}
use Rattle.samtags.specs.Session.{Memory, cut}
use Rattle.stepping.proofs.StepLaws.{left_as_was}
use Rattle.stepping.specs.Steps.{came, leaves_memory, memory, step_says}
use Rattle.stored_steps.proofs.BackLaws.{step_refused, stored_ordered}
use Rattle.stored_steps.specs.Back.{OrderedStored}
use Rattle.stored_steps.specs.Steps.{step_stored}
use Rattle.lent.proofs.Outcome.{passed_on}
use Rattle.lent.specs.Outcome.{Outcome}
use Rattle.stepping.specs.declared.Lengths.{Lengths as Declared}
use Rattle.stored_session.proofs.cut.Goals as goal

pub returns-in_err-lengths_in_order : goal.returns-in_err-lengths_in_order
returns-in_err-lengths_in_order c =
    let before : Memory = memory c.args.packed.now c.args.mm.now c.args.ml.now c.args.lengths in
    ap (λ (o : Outcome Declared). came (step_says o) c.args.packed.now c.args.mm.now c.args.ml.now) (passed_on _ _ c.from_residual.ensures.1)
    ∙ left_as_was (before) _ _ (step_refused c.args.has_ml (before) c.args.reverse (cut c.args.front c.args.back) c.in_err-lengths_in_order.field-0.0
    (sym c.lengths_in_order.ensures ∙ c.in_err-lengths_in_order.was))

pub cut_with-requires : goal.cut_with-requires
cut_with-requires c =
    let before : Memory = memory c.args.packed.now c.args.mm.now c.args.ml.now c.args.lengths in
    let ordered : OrderedStored c.args.has_ml (before) = stored_ordered c.args.has_ml (before) (sym c.lengths_in_order.ensures ∙ c.in_ok-lengths_in_order.was) in
    (ordered, omega (arith, c.few_marks-few.ensures.0))

pub returns-then-lengths-le1024 : goal.returns-then-lengths-le1024
returns-then-lengths-le1024 c =
    let before : Memory = memory c.args.packed.now c.args.mm.now c.args.ml.now c.args.lengths in
    let short_read : came (step_says c.cut_with.result) c.cut_with.new.packed c.cut_with.new.mm c.cut_with.new.ml ≡ leaves_memory (before) (step_stored c.args.reverse c.args.has_ml (cut c.args.front c.args.back) (before)) = c.cut_with.ensures in
    short_read

pub cut_with-requires-2 : goal.cut_with-requires-2
cut_with-requires-2 c =
    let before : Memory = memory c.args.packed.now c.args.mm.now c.args.ml.now c.args.lengths in
    let ordered : OrderedStored c.args.has_ml (before) = stored_ordered c.args.has_ml (before) (sym c.lengths_in_order.ensures ∙ c.in_ok-lengths_in_order.was) in
    (ordered, omega (arith, (ordered).0, c.no_marks-seq.ensures.0))
