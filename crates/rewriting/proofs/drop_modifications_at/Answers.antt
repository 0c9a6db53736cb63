-- `drop_modifications_at` checks for 1, and then drops with a row for the marks, the short or the long one.
-- Assumes nothing.
use mathlib.Core.Path.{◌∙◌, ◌≡◌, refl, sym}
use native.Mathlib.Omega.{arith}
use mathlib.Core.Bool.{true}
use lib.ListN.{length}
use Rattle.rewriting.proofs.Orders.{drop_one, left_alone}
use Rattle.samtags.proofs.Taken.{in_domain_lem}
use Rattle.samtags.specs.Reading.{in_domain}
use Rattle.rewriting.proofs.drop_modifications_at.Goals as goal

pub returns-then-not-fits : goal.returns-then-not-fits
returns-then-not-fits c =
    left_alone c.args.has_ml c.args.mm_out.now c.args.ml_out.now _ _ (drop_one c.args.has_ml c.args.seq.now c.args.places.now c.args.mm.now c.args.ml.now
    (length c.args.mm_out.now) (length c.args.ml_out.now)
    (sym c.in_domain-fits.ensures ∙ c.if-not-fits.true))

pub drop_with-requires : goal.drop_with-requires
drop_with-requires c =
    let domain : in_domain c.args.has_ml c.args.seq.now c.args.mm.now c.args.ml.now ≡ true = sym c.in_domain-fits.ensures ∙ c.if-not-fits.false in
    (domain, omega (arith, c.few_marks-few.ensures.0), (refl, c.few_marks-few.ensures.1))

pub drop_with-requires-2 : goal.drop_with-requires-2
drop_with-requires-2 c =
    let domain : in_domain c.args.has_ml c.args.seq.now c.args.mm.now c.args.ml.now ≡ true = sym c.in_domain-fits.ensures ∙ c.if-not-fits.false in
    let fits = in_domain_lem c.args.has_ml c.args.seq.now c.args.mm.now c.args.ml.now (domain) in
    (domain, omega (arith, fits.0, c.no_marks-marks.ensures.0), (refl, c.no_marks-marks.ensures.1))
