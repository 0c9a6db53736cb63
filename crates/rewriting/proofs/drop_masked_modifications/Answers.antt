-- `drop_masked_modifications` checks for 1 and 2, and then edits with a window that cuts nothing off.
-- Assumes nothing.
use mathlib.Core.Path.{◌∙◌, ◌≡◌, ap, sym}
use native.Mathlib.Omega.{arith}
use mathlib.Core.Bool.{true}
use mathlib.Core.List.{[]}
use lib.ListN.{length}
use Rattle.changing.specs.Windows.{window_edit}
use Rattle.editing.specs.Rewrote.{leaves_tag, rewrote}
use Rattle.lent.specs.Outcome.{Outcome}
use Rattle.rewriting.proofs.Orders.{left_alone, mask_on, mask_one, mask_one_after, mask_two}
use Rattle.samtags.proofs.Taken.{in_domain_lem}
use Rattle.samtags.specs.Edits.{edited, in_room}
use Rattle.samtags.specs.Reading.{in_domain}
use Rattle.samtags.specs.Writing.{Tag}
use Rattle.rewriting.proofs.drop_masked_modifications.Goals as goal

pub returns-then-not-fits : goal.returns-then-not-fits
returns-then-not-fits c =
    left_alone c.args.has_ml c.args.mm_out.now c.args.ml_out.now _ _ (mask_one c.args.has_ml c.args.before.now c.args.after.now c.args.mm.now c.args.ml.now
    (length c.args.mm_out.now) (length c.args.ml_out.now)
    (sym c.in_domain-fits.ensures ∙ c.if-not-fits.true))

pub returns-then-after-gt16000 : goal.returns-then-after-gt16000
returns-then-after-gt16000 c =
    let domain : in_domain c.args.has_ml c.args.before.now c.args.mm.now c.args.ml.now ≡ true = sym c.in_domain-fits.ensures ∙ c.if-not-fits.false in
    left_alone c.args.has_ml c.args.mm_out.now c.args.ml_out.now _ _ (mask_one_after c.args.has_ml c.args.before.now c.args.after.now c.args.mm.now
    c.args.ml.now (length c.args.mm_out.now) (length c.args.ml_out.now)
    (domain) (omega arith))

pub returns-then-before-after : goal.returns-then-before-after
returns-then-before-after c =
    let domain : in_domain c.args.has_ml c.args.before.now c.args.mm.now c.args.ml.now ≡ true = sym c.in_domain-fits.ensures ∙ c.if-not-fits.false in
    left_alone c.args.has_ml c.args.mm_out.now c.args.ml_out.now _ _ (mask_two c.args.has_ml c.args.before.now c.args.after.now c.args.mm.now c.args.ml.now
    (length c.args.mm_out.now) (length c.args.ml_out.now)
    (domain) (omega arith) (omega arith))

pub edit_tag-requires : goal.edit_tag-requires
edit_tag-requires c =
    let domain : in_domain c.args.has_ml c.args.before.now c.args.mm.now c.args.ml.now ≡ true = sym c.in_domain-fits.ensures ∙ c.if-not-fits.false in
    in_domain_lem c.args.has_ml c.args.before.now c.args.mm.now c.args.ml.now (domain)

pub returns : goal.returns
returns c =
    let domain : in_domain c.args.has_ml c.args.before.now c.args.mm.now c.args.ml.now ≡ true = sym c.in_domain-fits.ensures ∙ c.if-not-fits.false in
    let made : rewrote c.edit_tag.result c.edit_tag.new.mm_out c.edit_tag.new.ml_out
    ≡ leaves_tag c.args.has_ml (in_room c.args.has_ml (length c.args.mm_out.now) (length c.args.ml_out.now)
    (edited (window_edit 0 c.args.after.now []) c.args.has_ml c.args.before.now c.args.mm.now c.args.ml.now)) c.args.mm_out.now c.args.ml_out.now =
    c.edit_tag.ensures in
    made
    ∙ ap (λ (o : Outcome Tag). leaves_tag c.args.has_ml o c.args.mm_out.now c.args.ml_out.now)
    (sym (mask_on c.args.has_ml c.args.before.now c.args.after.now c.args.mm.now c.args.ml.now (length c.args.mm_out.now) (length c.args.ml_out.now)
    (domain) (omega arith) (omega arith)))
