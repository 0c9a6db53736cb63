-- `tally` checks for 1 and 2, and then goes on with a row to unpack SEQ in, the short or the long one.
-- Assumes nothing.
use mathlib.Core.Path.{◌∙◌, ◌≡◌, ap, sym}
use native.Mathlib.Omega.{arith}
use lib.ListN.{length}
use Rattle.packed.specs.Stored.{in_read}
use Rattle.stored_rows.proofs.OrderLaws.{stored_passed, tests_pass, tests_refuse}
use mathlib.Core.Bool.{true}
use Rattle.reading.specs.Answers.{tally_says}
use Rattle.samtags.specs.Reading.{tally_tag}
use Rattle.stored.specs.Reads.{is_exact, stated_in_domain, tally_stored}
use Rattle.lent.proofs.Outcome.{passed_on}
use Rattle.stored.proofs.tally.Goals as goal

pub returns-in_err-stored_in_order : goal.returns-in_err-stored_in_order
unfolding tally_stored
returns-in_err-stored_in_order c =
    ap tally_says (passed_on _ _ c.from_residual.ensures.1)
    ∙ sym (tests_refuse (stated_in_domain (true) c.args.bases c.args.mm.now c.args.ml.now) (is_exact c.args.bases c.args.packed.now) (tally_tag (in_read c.args.reverse c.args.bases c.args.packed.now) c.args.mm.now c.args.ml.now) c.in_err-stored_in_order.field-0.0 (sym c.stored_in_order.ensures ∙ c.in_err-stored_in_order.was))

pub tally_with-requires : goal.tally_with-requires
tally_with-requires c =
    let kept = sym c.stored_in_order.ensures ∙ c.in_ok-stored_in_order.was in
    let fits = stored_passed (true) (length c.args.packed.now) c.args.bases (length c.args.mm.now) (length c.args.ml.now) kept in
    (fits.bases_domain, omega (arith, fits.bytes_exact), omega (arith, c.few_marks-few.ensures.0))

pub returns-then-bases-le1024 : goal.returns-then-bases-le1024
unfolding tally_stored
returns-then-bases-le1024 c =
    let kept = sym c.stored_in_order.ensures ∙ c.in_ok-stored_in_order.was in
    c.tally_with.ensures ∙ sym (tests_pass (stated_in_domain (true) c.args.bases c.args.mm.now c.args.ml.now) (is_exact c.args.bases c.args.packed.now) (tally_tag (in_read c.args.reverse c.args.bases c.args.packed.now) c.args.mm.now c.args.ml.now) kept)

pub tally_with-requires-2 : goal.tally_with-requires-2
tally_with-requires-2 c =
    let kept = sym c.stored_in_order.ensures ∙ c.in_ok-stored_in_order.was in
    let fits = stored_passed (true) (length c.args.packed.now) c.args.bases (length c.args.mm.now) (length c.args.ml.now) kept in
    (fits.bases_domain, omega (arith, fits.bytes_exact), omega (arith, fits.bases_domain, c.no_marks-row.ensures.0))

pub returns : goal.returns
unfolding tally_stored
returns c =
    let long_read : tally_says c.tally_with-2.result ≡ tally_tag (in_read c.args.reverse c.args.bases c.args.packed.now) c.args.mm.now c.args.ml.now = c.tally_with-2.ensures in
    let kept = sym c.stored_in_order.ensures ∙ c.in_ok-stored_in_order.was in
    long_read ∙ sym (tests_pass (stated_in_domain (true) c.args.bases c.args.mm.now c.args.ml.now) (is_exact c.args.bases c.args.packed.now) (tally_tag (in_read c.args.reverse c.args.bases c.args.packed.now) c.args.mm.now c.args.ml.now) kept)
