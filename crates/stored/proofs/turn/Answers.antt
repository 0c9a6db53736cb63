-- `turn` checks for 1 and 2, then for 12, and then fills the row.
-- Assumes nothing.
use Rattle.std.specs.Prelude.{ℕ}
use mathlib.Core.Path.{◌∙◌, subst, sym}
use native.Mathlib.Omega.{arith}
use mathlib.Core.Bool.{false}
use lib.ListN.{length}
use Rattle.packed.proofs.Turning.{length_turn}
use Rattle.packed.specs.Packed.{turn}
use Rattle.stored_rows.proofs.OrderLaws.{stored_passed}
use Rattle.stored.proofs.StoredLaws.{alone, fill_done, fill_refused, fill_short}
use Rattle.stored.specs.PublicContracts.{Fills}
use Rattle.stored.specs.Reads.{bases_of, is_exact, turn_stored}
use Rattle.lent.proofs.Outcome.{passed_on}
use Rattle.lent.specs.Outcome.{Outcome}
use Rattle.stored.proofs.turn.Goals as goal

pub returns-in_err-stored_in_order : goal.returns-in_err-stored_in_order
unfolding turn_stored
returns-in_err-stored_in_order c =
    subst (λ (q : Outcome ℕ). Fills (bases_of c.args.bases c.args.packed.now (length c.args.out.now) (turn c.args.bases c.args.packed.now)) c.args.out.now q c.args.out.now) (sym (passed_on _ _ c.from_residual.ensures.1))
    (fill_refused c.args.bases c.args.packed.now c.args.out.now (turn c.args.bases c.args.packed.now) c.in_err-stored_in_order.field-0.0
    (alone c.args.bases (is_exact c.args.bases c.args.packed.now) _ (sym c.stored_in_order.ensures ∙ c.in_err-stored_in_order.was)))

pub returns-then-out-packed : goal.returns-then-out-packed
unfolding turn_stored
returns-then-out-packed c =
    let kept = sym c.stored_in_order.ensures ∙ c.in_ok-stored_in_order.was in
    let fits = stored_passed false (length c.args.packed.now) c.args.bases 0 0 kept in
    fill_short c.args.bases c.args.packed.now c.args.out.now (turn c.args.bases c.args.packed.now) (alone c.args.bases (is_exact c.args.bases c.args.packed.now) _ kept)
    (omega (arith, fits.bytes_exact, length_turn c.args.bases c.args.packed.now))

pub turn_row-requires : goal.turn_row-requires
turn_row-requires c =
    let kept = sym c.stored_in_order.ensures ∙ c.in_ok-stored_in_order.was in
    let fits = stored_passed false (length c.args.packed.now) c.args.bases 0 0 kept in
    (fits.bases_domain, omega (arith, fits.bytes_exact), omega (arith, fits.bytes_exact))

pub returns : goal.returns
unfolding turn_stored
returns c =
    let kept = sym c.stored_in_order.ensures ∙ c.in_ok-stored_in_order.was in
    let fits = stored_passed false (length c.args.packed.now) c.args.bases 0 0 kept in
    let long = length_turn c.args.bases c.args.packed.now in
    fill_done c.args.bases c.args.packed.now c.args.out.now (turn c.args.bases c.args.packed.now) _ _ (alone c.args.bases (is_exact c.args.bases c.args.packed.now) _ kept)
    (omega (arith, fits.bytes_exact, long)) (omega (arith, fits.bytes_exact, long)) c.turn_row.ensures
