-- `open` checks that the lengths are in order, and then checks the tag on the front of each row.
-- Assumes nothing.
use mathlib.Core.Path.{◌∙◌, ◌≡◌, ap, sym}
use Prim.Native.Nat.{◌-◌}
use native.Mathlib.Omega.{arith}
use lib.ListN.{take}
use Rattle.lent.specs.Outcome.{on_done}
use Rattle.reading.specs.Calls.{counts_of}
use Rattle.samtags.specs.Session.{Memory}
use Rattle.stepping.specs.Steps.{memory}
use Rattle.stored.specs.Reads.{read_stored}
use Rattle.stored_session.proofs.Opening.{open_is_check, open_refused}
use Rattle.stored_steps.proofs.BackLaws.{stored_ordered}
use Rattle.stored_steps.specs.Back.{OrderedStored}
use Rattle.lent.proofs.Outcome.{passed_on}
use Rattle.stored_session.proofs.open.Goals as goal

pub returns-in_err-lengths_in_order : goal.returns-in_err-lengths_in_order
returns-in_err-lengths_in_order c =
    let before : Memory = memory c.args.packed.now c.args.mm.now c.args.ml.now c.args.lengths in
    passed_on _ _ c.from_residual.ensures.1
    ∙ sym (ap (on_done counts_of) (open_refused c.args.reverse c.args.has_ml (before) c.in_err-lengths_in_order.field-0.0
    (sym c.lengths_in_order.ensures ∙ c.in_err-lengths_in_order.was)))

pub slice_bounds-check_tag-end : goal.slice_bounds-check_tag-end
slice_bounds-check_tag-end c =
    let before : Memory = memory c.args.packed.now c.args.mm.now c.args.ml.now c.args.lengths in
    let ordered : OrderedStored c.args.has_ml (before) = stored_ordered c.args.has_ml (before) (sym c.lengths_in_order.ensures ∙ c.in_ok-lengths_in_order.was) in
    omega (arith, (ordered).4)

pub slice_bounds-check_tag-end-2 : goal.slice_bounds-check_tag-end-2
slice_bounds-check_tag-end-2 c =
    let before : Memory = memory c.args.packed.now c.args.mm.now c.args.ml.now c.args.lengths in
    let ordered : OrderedStored c.args.has_ml (before) = stored_ordered c.args.has_ml (before) (sym c.lengths_in_order.ensures ∙ c.in_ok-lengths_in_order.was) in
    omega (arith, (ordered).5, c.values_taken-taken.ensures)

pub returns : goal.returns
returns c =
    let before : Memory = memory c.args.packed.now c.args.mm.now c.args.ml.now c.args.lengths in
    let ordered : OrderedStored c.args.has_ml (before) = stored_ordered c.args.has_ml (before) (sym c.lengths_in_order.ensures ∙ c.in_ok-lengths_in_order.was) in
    let made : c.check_tag.result
    ≡ on_done counts_of (read_stored c.args.reverse c.args.has_ml c.args.lengths.seq c.args.packed.now (take (c.args.lengths.mm - 0) c.args.mm.now)
    (take (c.values_taken-taken.result - 0) c.args.ml.now)) =
    c.check_tag.ensures in
    made
    ∙ ap (on_done counts_of) (open_is_check c.args.reverse c.args.has_ml (before) (ordered) (c.args.lengths.mm - 0) (c.values_taken-taken.result - 0) (omega arith)
    (omega (arith, c.values_taken-taken.ensures)))
