-- `unpack` checks for 1 and 2, then for 12, and then fills the row.
-- Assumes nothing.
use Rattle.std.specs.Prelude.{ℕ}
use mathlib.Core.Path.{◌∙◌, ◌≡◌, subst, sym}
use native.Mathlib.Omega.{arith}
use mathlib.Core.Bool.{false}
use lib.ListN.{length}
use Rattle.lent.specs.Filled.{over}
use Rattle.packed.proofs.Turning.{length_in_read}
use Rattle.packed.specs.Stored.{in_read}
use Rattle.stored_rows.proofs.OrderLaws.{stored_passed}
use Rattle.stored.proofs.StoredLaws.{alone, fill_done, fill_refused, fill_short}
use Rattle.stored.specs.PublicContracts.{Fills}
use Rattle.stored.specs.Reads.{bases_of, is_exact, unpack_stored}
use Rattle.lent.proofs.Outcome.{passed_on}
use Rattle.lent.specs.Outcome.{Outcome}
use Rattle.stored.proofs.unpack.Goals as goal

pub returns-in_err-stored_in_order : goal.returns-in_err-stored_in_order
unfolding unpack_stored
returns-in_err-stored_in_order c =
    subst (λ (q : Outcome ℕ). Fills (bases_of c.args.bases c.args.packed.now (length c.args.seq.now) (in_read c.args.reverse c.args.bases c.args.packed.now)) c.args.seq.now q c.args.seq.now) (sym (passed_on _ _ c.from_residual.ensures.1))
    (fill_refused c.args.bases c.args.packed.now c.args.seq.now (in_read c.args.reverse c.args.bases c.args.packed.now) c.in_err-stored_in_order.field-0.0
    (alone c.args.bases (is_exact c.args.bases c.args.packed.now) _ (sym c.stored_in_order.ensures ∙ c.in_err-stored_in_order.was)))

pub returns-then-seq-bases : goal.returns-then-seq-bases
unfolding unpack_stored
returns-then-seq-bases c =
    let kept = sym c.stored_in_order.ensures ∙ c.in_ok-stored_in_order.was in
    let fits = stored_passed false (length c.args.packed.now) c.args.bases 0 0 kept in
    fill_short c.args.bases c.args.packed.now c.args.seq.now (in_read c.args.reverse c.args.bases c.args.packed.now) (alone c.args.bases (is_exact c.args.bases c.args.packed.now) _ kept)
    (omega (arith, fits.bytes_exact, length_in_read c.args.reverse c.args.bases c.args.packed.now))

pub unpack_row-requires : goal.unpack_row-requires
unpack_row-requires c =
    let kept = sym c.stored_in_order.ensures ∙ c.in_ok-stored_in_order.was in
    let fits = stored_passed false (length c.args.packed.now) c.args.bases 0 0 kept in
    (fits.bases_domain, omega (arith, fits.bytes_exact), omega (arith, fits.bytes_exact))

pub returns : goal.returns
unfolding unpack_stored
returns c =
    let filled : c.unpack_row.new.row ≡ over (in_read c.args.reverse c.args.bases c.args.packed.now) c.args.seq.now = c.unpack_row.ensures in
    let kept = sym c.stored_in_order.ensures ∙ c.in_ok-stored_in_order.was in
    let fits = stored_passed false (length c.args.packed.now) c.args.bases 0 0 kept in
    let long = length_in_read c.args.reverse c.args.bases c.args.packed.now in
    fill_done c.args.bases c.args.packed.now c.args.seq.now (in_read c.args.reverse c.args.bases c.args.packed.now) _ _ (alone c.args.bases (is_exact c.args.bases c.args.packed.now) _ kept)
    (omega (arith, fits.bytes_exact, long)) (omega (arith, fits.bytes_exact, long)) (filled)
