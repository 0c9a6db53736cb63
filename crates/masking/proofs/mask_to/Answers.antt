-- `mask_to` edits the tag in place, with a window that cuts nothing off. Only then it writes `after` over SEQ.
-- Assumes nothing.
use Rattle.std.specs.Prelude.{Err}
use mathlib.Core.Path.{◌∙◌, ◌≡◌, ap, subst, sym}
use Prim.Native.Nat.{◌-◌, ℕ}
use native.Mathlib.Nat.{sub-zero}
use native.Mathlib.Omega.{arith}
use mathlib.Core.List.{[]}
use lib.ListN.{length, length-take, take}
use lib.Seq.{sets}
use Rattle.changing.proofs.WindowLaws.{mask_is}
use Rattle.lent.proofs.Filled.{over_stored}
use Rattle.changing.specs.Windows.{window_edit}
use Rattle.editing.specs.Rewrote.{leaves_tag, rewrote}
use Rattle.lent.specs.Outcome.{Outcome}
use Rattle.lent.specs.declared.Refusal.{Refusal}
use Rattle.samtags.specs.Edits.{edited, masked_to}
use Rattle.samtags.specs.Session.{Memory, held_in}
use Rattle.samtags.specs.Writing.{Tag}
use Rattle.stepping.proofs.StepLaws.{step_done, step_refused}
use Rattle.stepping.specs.Steps.{came, memory, step_says}
use Rattle.lent.proofs.Outcome.{passed_on}
use Rattle.masking.proofs.mask_to.Goals as goal

pub returns-in_err-end : goal.returns-in_err-end
returns-in_err-end c =
    let before : Memory = memory c.args.seq.now c.args.mm.now c.args.ml.now c.args.lengths in
    let outcome : Outcome Tag = (let h = held_in (before) in
    edited (masked_to c.args.after.now) c.args.has_ml h.seq h.text h.ml) in
    let tag_left : (x : Outcome (ℕ × ℕ)) → c.edit_front.result ≡ x → rewrote x c.edit_front.new.mm c.edit_front.new.ml ≡ leaves_tag c.args.has_ml (outcome) c.args.mm.now c.args.ml.now = λ x e. (let h = held_in (before) in
    let long : length h.seq ≡ length c.args.after.now = omega (arith, c.requires.0.3, c.requires.1, length-take c.args.lengths.seq c.args.seq.now) in
    let made : rewrote c.edit_front.result c.edit_front.new.mm c.edit_front.new.ml
    ≡ leaves_tag c.args.has_ml (edited (window_edit 0 c.args.after.now []) c.args.has_ml (take (c.args.lengths.seq - 0) c.args.seq.now) h.text h.ml) c.args.mm.now
    c.args.ml.now = c.edit_front.ensures in
    subst (λ (x : Outcome (ℕ × ℕ)). rewrote x c.edit_front.new.mm c.edit_front.new.ml ≡ leaves_tag c.args.has_ml (outcome) c.args.mm.now c.args.ml.now) e
    (made
    ∙ ap (λ (n : ℕ). leaves_tag c.args.has_ml (edited (window_edit 0 c.args.after.now []) c.args.has_ml (take n c.args.seq.now) h.text h.ml) c.args.mm.now
    c.args.ml.now) (sub-zero c.args.lengths.seq)
    ∙ ap (λ (o : Outcome Tag). leaves_tag c.args.has_ml o c.args.mm.now c.args.ml.now)
    (sym (mask_is c.args.has_ml h.seq h.text h.ml c.args.after.now long)))) in
    ap (λ o. came (step_says o) c.args.seq.now c.edit_front.new.mm c.edit_front.new.ml) (passed_on c.from_residual.result _ c.from_residual.ensures.1)
    ∙ step_refused c.args.has_ml (before) c.args.after.now (outcome) c.in_err-end.field-0.0 c.edit_front.new.mm c.edit_front.new.ml (tag_left _ c.in_err-end.was)

pub returns : goal.returns
returns c =
    let before : Memory = memory c.args.seq.now c.args.mm.now c.args.ml.now c.args.lengths in
    let outcome : Outcome Tag = (let h = held_in (before) in
    edited (masked_to c.args.after.now) c.args.has_ml h.seq h.text h.ml) in
    let tag_left : (x : Outcome (ℕ × ℕ)) → c.edit_front.result ≡ x → rewrote x c.edit_front.new.mm c.edit_front.new.ml ≡ leaves_tag c.args.has_ml (outcome) c.args.mm.now c.args.ml.now = λ x e. (let h = held_in (before) in
    let long : length h.seq ≡ length c.args.after.now = omega (arith, c.requires.0.3, c.requires.1, length-take c.args.lengths.seq c.args.seq.now) in
    let made : rewrote c.edit_front.result c.edit_front.new.mm c.edit_front.new.ml
    ≡ leaves_tag c.args.has_ml (edited (window_edit 0 c.args.after.now []) c.args.has_ml (take (c.args.lengths.seq - 0) c.args.seq.now) h.text h.ml) c.args.mm.now
    c.args.ml.now = c.edit_front.ensures in
    subst (λ (x : Outcome (ℕ × ℕ)). rewrote x c.edit_front.new.mm c.edit_front.new.ml ≡ leaves_tag c.args.has_ml (outcome) c.args.mm.now c.args.ml.now) e
    (made
    ∙ ap (λ (n : ℕ). leaves_tag c.args.has_ml (edited (window_edit 0 c.args.after.now []) c.args.has_ml (take n c.args.seq.now) h.text h.ml) c.args.mm.now
    c.args.ml.now) (sub-zero c.args.lengths.seq)
    ∙ ap (λ (o : Outcome Tag). leaves_tag c.args.has_ml o c.args.mm.now c.args.ml.now)
    (sym (mask_is c.args.has_ml h.seq h.text h.ml c.args.after.now long)))) in
    let masked : c.put_all.new.out ≡ sets c.args.seq.now 0 c.args.after.now = c.put_all.ensures.1 in
    step_done c.args.has_ml (before) c.args.after.now (outcome) c.in_ok-end.end c.in_ok-end.kept c.lengths_now.result c.put_all.new.out c.edit_front.new.mm c.edit_front.new.ml
    (tag_left _ c.in_ok-end.was) (omega (arith, c.lengths_now.ensures.0, c.requires.1)) c.lengths_now.ensures.1 c.lengths_now.ensures.2
    (masked ∙ over_stored c.args.after.now c.args.seq.now (omega (arith, c.requires.0.3, c.requires.1)))
