-- `open` checks that the lengths are in order, and then calls the reader on the front of each row.
-- Assumes nothing.
use Rattle.std.specs.Prelude.{Err}
use mathlib.Core.Path.{◌∙◌, ◌≡◌, ap, sym}
use Prim.Native.Nat.{◌-◌}
use native.Mathlib.Omega.{arith}
use lib.ListN.{take}
use Rattle.lent.specs.Outcome.{on_done}
use Rattle.reading.specs.Calls.{counts_of}
use Rattle.samtags.specs.Reading.{read_tag}
use Rattle.samtags.specs.Session.{Memory}
use Rattle.session.proofs.Opening.{open_is_read, open_refused}
use Rattle.stepping.proofs.OrderLaws.{order_kept}
use Rattle.stepping.specs.Steps.{Ordered, memory}
use Rattle.lent.proofs.Outcome.{passed_on}
use Rattle.session.proofs.open.Goals as goal

pub returns-in_err-lengths_in_order : goal.returns-in_err-lengths_in_order
returns-in_err-lengths_in_order c =
    let before : Memory = memory c.args.seq.now c.args.mm.now c.args.ml.now c.args.lengths in
    passed_on _ _ c.from_residual.ensures.1
    ∙ sym (ap (on_done counts_of) (open_refused c.args.has_ml (before) c.in_err-lengths_in_order.field-0.0
    (sym c.lengths_in_order.ensures ∙ c.in_err-lengths_in_order.was)))

pub slice_bounds-check_tag-end : goal.slice_bounds-check_tag-end
slice_bounds-check_tag-end c =
    let before : Memory = memory c.args.seq.now c.args.mm.now c.args.ml.now c.args.lengths in
    let ordered : Ordered c.args.has_ml (before) = order_kept c.args.has_ml (before) (sym c.lengths_in_order.ensures ∙ c.in_ok-lengths_in_order.was) in
    omega (arith, (ordered).3)

pub slice_bounds-check_tag-end-2 : goal.slice_bounds-check_tag-end-2
slice_bounds-check_tag-end-2 c =
    let before : Memory = memory c.args.seq.now c.args.mm.now c.args.ml.now c.args.lengths in
    let ordered : Ordered c.args.has_ml (before) = order_kept c.args.has_ml (before) (sym c.lengths_in_order.ensures ∙ c.in_ok-lengths_in_order.was) in
    omega (arith, (ordered).4)

pub slice_bounds-check_tag-end-3 : goal.slice_bounds-check_tag-end-3
slice_bounds-check_tag-end-3 c =
    let before : Memory = memory c.args.seq.now c.args.mm.now c.args.ml.now c.args.lengths in
    let ordered : Ordered c.args.has_ml (before) = order_kept c.args.has_ml (before) (sym c.lengths_in_order.ensures ∙ c.in_ok-lengths_in_order.was) in
    omega (arith, (ordered).5, c.values_taken-taken.ensures)

pub returns : goal.returns
returns c =
    let before : Memory = memory c.args.seq.now c.args.mm.now c.args.ml.now c.args.lengths in
    let ordered : Ordered c.args.has_ml (before) = order_kept c.args.has_ml (before) (sym c.lengths_in_order.ensures ∙ c.in_ok-lengths_in_order.was) in
    let made : c.check_tag.result
    ≡ on_done counts_of (read_tag c.args.has_ml (take (c.args.lengths.seq - 0) c.args.seq.now) (take (c.args.lengths.mm - 0) c.args.mm.now)
    (take (c.values_taken-taken.result - 0) c.args.ml.now)) =
    c.check_tag.ensures in
    made
    ∙ ap (on_done counts_of) (open_is_read c.args.has_ml (before) (ordered) (c.args.lengths.seq - 0) (c.args.lengths.mm - 0) (c.values_taken-taken.result - 0) (omega arith)
    (omega arith) (omega (arith, c.values_taken-taken.ensures)))
