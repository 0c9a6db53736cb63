-- `trim_clipped_modifications` checks for 1, 21 and 11, and then edits over the window.
-- Assumes nothing.
use Rattle.std.specs.Prelude.{Some}
use mathlib.Core.Path.{◌∙◌, ◌≡◌, ap, sym}
use native.Mathlib.Omega.{arith}
use mathlib.Core.Bool.{false, true}
use mathlib.Core.List.{[]}
use lib.ListN.{length}
use Rattle.changing.specs.Windows.{window_edit}
use Rattle.editing.specs.Rewrote.{leaves_tag, rewrote}
use Rattle.lent.specs.Outcome.{Outcome}
use Rattle.rewriting.proofs.Orders.{cut_no_window, cut_on, cut_one, cut_one_after, cut_unchanged, cut_unknown, left_alone}
use Rattle.samtags.proofs.Taken.{in_domain_lem}
use Rattle.samtags.specs.Edits.{edited, in_room, same_bytes_of, window_start}
use Rattle.samtags.specs.Reading.{in_domain}
use Rattle.samtags.specs.Writing.{Tag}
use Rattle.rewriting.proofs.trim_clipped_modifications.Goals as goal

pub returns-then-not-fits : goal.returns-then-not-fits
returns-then-not-fits c =
    left_alone c.args.has_ml c.args.mm_out.now c.args.ml_out.now _ _ (cut_one c.args.has_ml c.args.before.now c.args.after.now c.args.mm.now c.args.ml.now
    (length c.args.mm_out.now) (length c.args.ml_out.now)
    c.args.start (sym c.in_domain-fits.ensures ∙ c.if-not-fits.true))

pub returns-then-after-gt16000 : goal.returns-then-after-gt16000
returns-then-after-gt16000 c =
    let domain : in_domain c.args.has_ml c.args.before.now c.args.mm.now c.args.ml.now ≡ true = sym c.in_domain-fits.ensures ∙ c.if-not-fits.false in
    left_alone c.args.has_ml c.args.mm_out.now c.args.ml_out.now _ _ (cut_one_after c.args.has_ml c.args.before.now c.args.after.now c.args.mm.now c.args.ml.now
    (length c.args.mm_out.now) (length c.args.ml_out.now)
    (domain) c.args.start (omega arith))

pub returns-then-same : goal.returns-then-same
returns-then-same c =
    let domain : in_domain c.args.has_ml c.args.before.now c.args.mm.now c.args.ml.now ≡ true = sym c.in_domain-fits.ensures ∙ c.if-not-fits.false in
    left_alone c.args.has_ml c.args.mm_out.now c.args.ml_out.now _ _ (cut_unchanged c.args.has_ml c.args.before.now c.args.after.now c.args.mm.now c.args.ml.now
    (length c.args.mm_out.now) (length c.args.ml_out.now)
    (domain) (omega arith) c.args.start (sym c.same_bytes-same.ensures ∙ c.if-same.true))

pub returns-in_default : goal.returns-in_default
returns-in_default c =
    let domain : in_domain c.args.has_ml c.args.before.now c.args.mm.now c.args.ml.now ≡ true = sym c.in_domain-fits.ensures ∙ c.if-not-fits.false in
    let differ : same_bytes_of c.args.before.now c.args.after.now ≡ false = sym c.same_bytes-same.ensures ∙ c.if-same.false in
    left_alone c.args.has_ml c.args.mm_out.now c.args.ml_out.now _ _ (cut_unknown c.args.has_ml c.args.before.now c.args.after.now c.args.mm.now c.args.ml.now
    (length c.args.mm_out.now) (length c.args.ml_out.now)
    (domain) (omega arith) c.args.start (differ)
    (sym c.in_default.is ∙ c.window_start-found.ensures))

pub returns-then-not-window : goal.returns-then-not-window
returns-then-not-window c =
    let domain : in_domain c.args.has_ml c.args.before.now c.args.mm.now c.args.ml.now ≡ true = sym c.in_domain-fits.ensures ∙ c.if-not-fits.false in
    let differ : same_bytes_of c.args.before.now c.args.after.now ≡ false = sym c.same_bytes-same.ensures ∙ c.if-same.false in
    let start_known : Some c.in-Some.lo ≡ window_start c.args.start c.args.before.now c.args.after.now = sym c.in-Some.is ∙ c.window_start-found.ensures in
    left_alone c.args.has_ml c.args.mm_out.now c.args.ml_out.now _ _ (cut_no_window c.args.has_ml c.args.before.now c.args.after.now c.args.mm.now c.args.ml.now
    (length c.args.mm_out.now) (length c.args.ml_out.now)
    (domain) (omega arith) c.args.start (differ) _ (start_known) (sym c.lies_in-window.ensures ∙ c.if-not-window.true))

pub edit_tag-requires : goal.edit_tag-requires
edit_tag-requires c =
    let domain : in_domain c.args.has_ml c.args.before.now c.args.mm.now c.args.ml.now ≡ true = sym c.in_domain-fits.ensures ∙ c.if-not-fits.false in
    in_domain_lem c.args.has_ml c.args.before.now c.args.mm.now c.args.ml.now (domain)

pub returns : goal.returns
returns c =
    let domain : in_domain c.args.has_ml c.args.before.now c.args.mm.now c.args.ml.now ≡ true = sym c.in_domain-fits.ensures ∙ c.if-not-fits.false in
    let differ : same_bytes_of c.args.before.now c.args.after.now ≡ false = sym c.same_bytes-same.ensures ∙ c.if-same.false in
    let start_known : Some c.in-Some.lo ≡ window_start c.args.start c.args.before.now c.args.after.now = sym c.in-Some.is ∙ c.window_start-found.ensures in
    let made : rewrote c.edit_tag.result c.edit_tag.new.mm_out c.edit_tag.new.ml_out
    ≡ leaves_tag c.args.has_ml (in_room c.args.has_ml (length c.args.mm_out.now) (length c.args.ml_out.now)
    (edited (window_edit c.in-Some.lo c.args.after.now []) c.args.has_ml c.args.before.now c.args.mm.now c.args.ml.now)) c.args.mm_out.now
    c.args.ml_out.now =
    c.edit_tag.ensures in
    made
    ∙ ap (λ (o : Outcome Tag). leaves_tag c.args.has_ml o c.args.mm_out.now c.args.ml_out.now)
    (sym (cut_on c.args.has_ml c.args.before.now c.args.after.now c.args.mm.now c.args.ml.now (length c.args.mm_out.now) (length c.args.ml_out.now)
    (domain) (omega arith) c.args.start (differ) _ (start_known) (sym c.lies_in-window.ensures ∙ c.if-not-window.false)))
