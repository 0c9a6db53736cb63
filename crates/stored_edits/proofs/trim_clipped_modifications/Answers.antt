-- `trim_clipped_modifications` checks that the lengths are in order, and then trims with two rows for the bases, the short or the long ones.
-- Assumes nothing.
use Rattle.std.specs.Prelude.{Ok, Err}
use mathlib.Core.Path.{◌∙◌, ◌≡◌, ap, sym}
use Prim.Native.Nat.{◌≤◌}
use native.Mathlib.Omega.{arith}
use lib.Dec.{leb}
use lib.ListN.{length}
use borrow.Author.Tests.{leb-true}
use Rattle.editing.specs.Rewrote.{rewrote}
use Rattle.lent.proofs.Tests.{and_true_l, and_true_r}
use Rattle.packed.specs.Stored.{start_in_read}
use Rattle.rewriting.proofs.Orders.{left_alone}
use Rattle.stored_edits.proofs.EditLaws.{In-two, cut_refused, trims_stored, order_two, two_passed}
use Rattle.lent.proofs.Outcome.{passed_on}
use Rattle.lent.specs.Outcome.{Outcome}
use Rattle.stored_edits.proofs.trim_clipped_modifications.Goals as goal

pub returns-in_err-two_in_order : goal.returns-in_err-two_in_order
returns-in_err-two_in_order c =
    let unkept : order_two c.args.has_ml c.args.before_bases c.args.before.now c.args.after_bases c.args.after.now c.args.mm.now c.args.ml.now ≡ Err c.in_err-two_in_order.field-0.0 = sym c.two_in_order.ensures ∙ c.in_err-two_in_order.was in
    ap (λ (o : Outcome _). rewrote o c.args.mm_out.now c.args.ml_out.now) (passed_on _ _ c.from_residual.ensures.1)
    ∙ left_alone c.args.has_ml c.args.mm_out.now c.args.ml_out.now _ c.in_err-two_in_order.field-0.0
    (cut_refused c.args.reverse c.args.has_ml c.args.before_bases c.args.before.now c.args.after_bases c.args.after.now c.args.mm.now c.args.ml.now
    (length c.args.mm_out.now) (length c.args.ml_out.now) c.args.start c.in_err-two_in_order.field-0.0 (unkept))

pub trim_with-requires : goal.trim_with-requires
trim_with-requires c =
    let kept : order_two c.args.has_ml c.args.before_bases c.args.before.now c.args.after_bases c.args.after.now c.args.mm.now c.args.ml.now ≡ Ok tt = sym c.two_in_order.ensures ∙ c.in_ok-two_in_order.was in
    let ordered : In-two (length c.args.before.now) c.args.before_bases (length c.args.after.now) c.args.after_bases = two_passed c.args.has_ml c.args.before_bases c.args.before.now c.args.after_bases c.args.after.now c.args.mm.now c.args.ml.now (kept) in
    let small : (c.args.before_bases ≤ 1024) × (c.args.after_bases ≤ 1024) = (let both = sym c.both_few-few.ensures ∙ c.if-few.true in (
      leb-true c.args.before_bases 1024 (and_true_l (leb c.args.before_bases 1024) (leb c.args.after_bases 1024) both),
      leb-true c.args.after_bases 1024 (and_true_r (leb c.args.before_bases 1024) (leb c.args.after_bases 1024) both),
    )) in
    let o = ordered in
    let few = small in (
      o.first_domain,
      omega (arith, o.first_exact),
      omega (arith, few.0, c.few_marks-first.ensures.0),
      o.second_domain,
      omega (arith, o.second_exact),
      omega (arith, few.1, c.few_marks-second.ensures.0),
    )

pub returns-then-few : goal.returns-then-few
returns-then-few c =
    let kept : order_two c.args.has_ml c.args.before_bases c.args.before.now c.args.after_bases c.args.after.now c.args.mm.now c.args.ml.now ≡ Ok tt = sym c.two_in_order.ensures ∙ c.in_ok-two_in_order.was in
    let began : c.start_in_read-begin.result ≡ start_in_read c.args.reverse c.args.before_bases c.args.after_bases c.args.start = c.start_in_read-begin.ensures in
    trims_stored c.args.has_ml c.args.mm.now c.args.ml.now c.args.mm_out.now c.args.ml_out.now c.trim_with.result c.trim_with.new.mm_out c.trim_with.new.ml_out
    c.args.reverse c.args.before_bases c.args.before.now c.args.after_bases c.args.after.now (kept)
    c.args.start c.start_in_read-begin.result (began) c.trim_with.ensures

pub trim_with-requires-2 : goal.trim_with-requires-2
trim_with-requires-2 c =
    let kept : order_two c.args.has_ml c.args.before_bases c.args.before.now c.args.after_bases c.args.after.now c.args.mm.now c.args.ml.now ≡ Ok tt = sym c.two_in_order.ensures ∙ c.in_ok-two_in_order.was in
    let ordered : In-two (length c.args.before.now) c.args.before_bases (length c.args.after.now) c.args.after_bases = two_passed c.args.has_ml c.args.before_bases c.args.before.now c.args.after_bases c.args.after.now c.args.mm.now c.args.ml.now (kept) in
    let o = ordered in (
      o.first_domain,
      omega (arith, o.first_exact),
      omega (arith, o.first_domain, c.no_marks-first.ensures.0),
      o.second_domain,
      omega (arith, o.second_exact),
      omega (arith, o.second_domain, c.no_marks-second.ensures.0),
    )

pub returns : goal.returns
returns c =
    let kept : order_two c.args.has_ml c.args.before_bases c.args.before.now c.args.after_bases c.args.after.now c.args.mm.now c.args.ml.now ≡ Ok tt = sym c.two_in_order.ensures ∙ c.in_ok-two_in_order.was in
    let began : c.start_in_read-begin.result ≡ start_in_read c.args.reverse c.args.before_bases c.args.after_bases c.args.start = c.start_in_read-begin.ensures in
    trims_stored c.args.has_ml c.args.mm.now c.args.ml.now c.args.mm_out.now c.args.ml_out.now c.trim_with-2.result c.trim_with-2.new.mm_out c.trim_with-2.new.ml_out
    c.args.reverse c.args.before_bases c.args.before.now c.args.after_bases c.args.after.now (kept)
    c.args.start c.start_in_read-begin.result (began) c.trim_with-2.ensures
