-- `check_tag` checks for 1 and 2, and then goes on with a row to unpack SEQ in, the short or the long one.
-- Assumes nothing.
use mathlib.Core.Path.{◌∙◌, ◌≡◌, ap, sym}
use native.Mathlib.Omega.{arith}
use lib.ListN.{length}
use Rattle.packed.specs.Stored.{in_read}
use Rattle.stored_rows.proofs.OrderLaws.{stored_passed, tests_pass, tests_refuse}
use Rattle.lent.specs.Outcome.{on_done}
use Rattle.reading.specs.Calls.{counts_of}
use Rattle.samtags.specs.Reading.{read_tag}
use Rattle.stored.specs.Reads.{is_exact, read_stored, stated_in_domain}
use Rattle.lent.proofs.Outcome.{passed_on}
use Rattle.stored.proofs.check_tag.Goals as goal

pub returns-in_err-stored_in_order : goal.returns-in_err-stored_in_order
unfolding read_stored
returns-in_err-stored_in_order c =
    passed_on _ _ c.from_residual.ensures.1
    ∙ sym (ap (on_done counts_of) (tests_refuse (stated_in_domain c.args.has_ml c.args.bases c.args.mm.now c.args.ml.now) (is_exact c.args.bases c.args.packed.now) (read_tag c.args.has_ml (in_read c.args.reverse c.args.bases c.args.packed.now) c.args.mm.now c.args.ml.now) c.in_err-stored_in_order.field-0.0 (sym c.stored_in_order.ensures ∙ c.in_err-stored_in_order.was)))

pub check_with-requires : goal.check_with-requires
check_with-requires c =
    let kept = sym c.stored_in_order.ensures ∙ c.in_ok-stored_in_order.was in
    let fits = stored_passed c.args.has_ml (length c.args.packed.now) c.args.bases (length c.args.mm.now) (length c.args.ml.now) kept in
    (fits.bases_domain, omega (arith, fits.bytes_exact), omega (arith, c.few_marks-few.ensures.0))

pub returns-then-bases-le1024 : goal.returns-then-bases-le1024
unfolding read_stored
returns-then-bases-le1024 c =
    let short_read : c.check_with.result ≡ on_done counts_of (read_tag c.args.has_ml (in_read c.args.reverse c.args.bases c.args.packed.now) c.args.mm.now c.args.ml.now) = c.check_with.ensures in
    let kept = sym c.stored_in_order.ensures ∙ c.in_ok-stored_in_order.was in
    short_read ∙ sym (ap (on_done counts_of) (tests_pass (stated_in_domain c.args.has_ml c.args.bases c.args.mm.now c.args.ml.now) (is_exact c.args.bases c.args.packed.now) (read_tag c.args.has_ml (in_read c.args.reverse c.args.bases c.args.packed.now) c.args.mm.now c.args.ml.now) kept))

pub check_with-requires-2 : goal.check_with-requires-2
check_with-requires-2 c =
    let kept = sym c.stored_in_order.ensures ∙ c.in_ok-stored_in_order.was in
    let fits = stored_passed c.args.has_ml (length c.args.packed.now) c.args.bases (length c.args.mm.now) (length c.args.ml.now) kept in
    (fits.bases_domain, omega (arith, fits.bytes_exact), omega (arith, fits.bases_domain, c.no_marks-row.ensures.0))

pub returns : goal.returns
unfolding read_stored
returns c =
    let kept = sym c.stored_in_order.ensures ∙ c.in_ok-stored_in_order.was in
    c.check_with-2.ensures ∙ sym (ap (on_done counts_of) (tests_pass (stated_in_domain c.args.has_ml c.args.bases c.args.mm.now c.args.ml.now) (is_exact c.args.bases c.args.packed.now) (read_tag c.args.has_ml (in_read c.args.reverse c.args.bases c.args.packed.now) c.args.mm.now c.args.ml.now) kept))
