-- `drop_modifications_at` checks that the lengths are in order, and then drops with rows for the bases and the marks, the short or the long ones.
-- Assumes nothing.
use Rattle.std.specs.Prelude.{Ok, Err}
use mathlib.Core.Path.{◌∙◌, ◌≡◌, ap, refl, sym}
use native.Mathlib.Omega.{arith}
use lib.ListN.{length}
use Rattle.editing.specs.Rewrote.{rewrote}
use Rattle.rewriting.proofs.Orders.{left_alone}
use Rattle.stored_rows.proofs.OrderLaws.{In-stored, stored_passed}
use Rattle.stored_edits.proofs.EditLaws.{drop_refused, drops_stored, one_in_domain, order_one}
use Rattle.lent.proofs.Outcome.{passed_on}
use Rattle.lent.specs.Outcome.{Outcome}
use Rattle.stored_edits.proofs.drop_modifications_at.Goals as goal

pub returns-in_err-stored_in_order : goal.returns-in_err-stored_in_order
returns-in_err-stored_in_order c =
    let unkept : order_one c.args.has_ml c.args.bases c.args.packed.now c.args.mm.now c.args.ml.now ≡ Err c.in_err-stored_in_order.field-0.0 = sym c.stored_in_order.ensures ∙ c.in_err-stored_in_order.was in
    ap (λ (o : Outcome _). rewrote o c.args.mm_out.now c.args.ml_out.now) (passed_on _ _ c.from_residual.ensures.1)
    ∙ left_alone c.args.has_ml c.args.mm_out.now c.args.ml_out.now _ c.in_err-stored_in_order.field-0.0
    (drop_refused c.args.reverse c.args.has_ml c.args.bases c.args.packed.now c.args.places.now c.args.mm.now c.args.ml.now
    (length c.args.mm_out.now) (length c.args.ml_out.now) c.in_err-stored_in_order.field-0.0 (unkept))

pub drop_with-requires : goal.drop_with-requires
drop_with-requires c =
    let kept : order_one c.args.has_ml c.args.bases c.args.packed.now c.args.mm.now c.args.ml.now ≡ Ok tt = sym c.stored_in_order.ensures ∙ c.in_ok-stored_in_order.was in
    let ordered : In-stored c.args.has_ml (length c.args.packed.now) c.args.bases (length c.args.mm.now) (length c.args.ml.now) = stored_passed c.args.has_ml (length c.args.packed.now) c.args.bases (length c.args.mm.now) (length c.args.ml.now) (kept) in
    let o = ordered in (
      omega (arith, o.bytes_exact),
      omega (arith, o.bases_domain, c.few_marks-row.ensures.0),
      one_in_domain c.args.reverse c.args.has_ml c.args.bases c.args.packed.now c.args.mm.now c.args.ml.now (kept),
      omega (arith, o.bases_domain, c.few_marks-marks.ensures.0),
      (refl, c.few_marks-marks.ensures.1),
    )

pub returns-then-bases-le1024 : goal.returns-then-bases-le1024
returns-then-bases-le1024 c =
    let kept : order_one c.args.has_ml c.args.bases c.args.packed.now c.args.mm.now c.args.ml.now ≡ Ok tt = sym c.stored_in_order.ensures ∙ c.in_ok-stored_in_order.was in
    drops_stored c.args.has_ml c.args.mm.now c.args.ml.now c.args.mm_out.now c.args.ml_out.now c.drop_with.result c.drop_with.new.mm_out c.drop_with.new.ml_out
    c.args.reverse c.args.bases c.args.packed.now c.args.places.now (kept) c.drop_with.ensures

pub drop_with-requires-2 : goal.drop_with-requires-2
drop_with-requires-2 c =
    let kept : order_one c.args.has_ml c.args.bases c.args.packed.now c.args.mm.now c.args.ml.now ≡ Ok tt = sym c.stored_in_order.ensures ∙ c.in_ok-stored_in_order.was in
    let ordered : In-stored c.args.has_ml (length c.args.packed.now) c.args.bases (length c.args.mm.now) (length c.args.ml.now) = stored_passed c.args.has_ml (length c.args.packed.now) c.args.bases (length c.args.mm.now) (length c.args.ml.now) (kept) in
    let o = ordered in (
      omega (arith, o.bytes_exact),
      omega (arith, o.bases_domain, c.no_marks-row.ensures.0),
      one_in_domain c.args.reverse c.args.has_ml c.args.bases c.args.packed.now c.args.mm.now c.args.ml.now (kept),
      omega (arith, o.bases_domain, c.no_marks-marks.ensures.0),
      (refl, c.no_marks-marks.ensures.1),
    )

pub returns : goal.returns
returns c =
    let kept : order_one c.args.has_ml c.args.bases c.args.packed.now c.args.mm.now c.args.ml.now ≡ Ok tt = sym c.stored_in_order.ensures ∙ c.in_ok-stored_in_order.was in
    drops_stored c.args.has_ml c.args.mm.now c.args.ml.now c.args.mm_out.now c.args.ml_out.now c.drop_with-2.result c.drop_with-2.new.mm_out c.drop_with-2.new.ml_out
    c.args.reverse c.args.bases c.args.packed.now c.args.places.now (kept) c.drop_with-2.ensures
