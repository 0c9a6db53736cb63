-- `drop_marked` edits the tag in place, by the marks alone; SEQ is unchanged.
-- Assumes nothing.
use Rattle.std.specs.Prelude.{Err}
use mathlib.Core.Path.{◌∙◌, ◌≡◌, ap, subst, sym}
use Prim.Native.Nat.{◌-◌, ℕ}
use native.Mathlib.Nat.{sub-zero}
use native.Mathlib.Omega.{arith}
use lib.ListN.{length-take, take}
use Rattle.changing.specs.Windows.{window_edit}
use Rattle.editing.specs.Rewrote.{leaves_tag, rewrote}
use Rattle.lent.specs.Outcome.{Outcome}
use Rattle.lent.specs.declared.Refusal.{Refusal}
use Rattle.samtags.specs.Edits.{edited}
use Rattle.samtags.specs.Session.{Memory, held_in}
use Rattle.samtags.specs.Writing.{Tag}
use Rattle.stepping.proofs.StepLaws.{over_own_front, step_done, step_refused}
use Rattle.stepping.specs.Steps.{came, memory, step_says}
use Rattle.lent.proofs.Outcome.{passed_on}
use Rattle.dropping.proofs.drop_marked.Goals as goal

pub returns-in_err-end : goal.returns-in_err-end
returns-in_err-end c =
    let before : Memory = memory c.args.seq.now c.args.mm.now c.args.ml.now c.args.lengths in
    let outcome : Outcome Tag = (let h = held_in (before) in
    edited (window_edit 0 h.seq c.args.marks.now) c.args.has_ml h.seq h.text h.ml) in
    let tag_left : (x : Outcome (ℕ × ℕ)) → c.edit_front.result ≡ x → rewrote x c.edit_front.new.mm c.edit_front.new.ml ≡ leaves_tag c.args.has_ml (outcome) c.args.mm.now c.args.ml.now = λ x e. (let h = held_in (before) in
    let n = c.args.lengths.seq - 0 in
    let made : rewrote c.edit_front.result c.edit_front.new.mm c.edit_front.new.ml
    ≡ leaves_tag c.args.has_ml (edited (window_edit 0 (take n c.args.seq.now) c.args.marks.now) c.args.has_ml (take n c.args.seq.now) h.text h.ml) c.args.mm.now
    c.args.ml.now = c.edit_front.ensures in
    subst (λ (x : Outcome (ℕ × ℕ)). rewrote x c.edit_front.new.mm c.edit_front.new.ml ≡ leaves_tag c.args.has_ml (outcome) c.args.mm.now c.args.ml.now) e
    (made
    ∙ ap (λ (k : ℕ). leaves_tag c.args.has_ml (edited (window_edit 0 (take k c.args.seq.now) c.args.marks.now) c.args.has_ml (take k c.args.seq.now) h.text
    h.ml) c.args.mm.now c.args.ml.now) (sub-zero c.args.lengths.seq))) in
    ap (λ o. came (step_says o) c.args.seq.now c.edit_front.new.mm c.edit_front.new.ml) (passed_on c.from_residual.result _ c.from_residual.ensures.1)
    ∙ step_refused c.args.has_ml (before) (held_in (before)).seq (outcome) c.in_err-end.field-0.0 c.edit_front.new.mm c.edit_front.new.ml (tag_left _ c.in_err-end.was)

pub returns : goal.returns
returns c =
    let before : Memory = memory c.args.seq.now c.args.mm.now c.args.ml.now c.args.lengths in
    let outcome : Outcome Tag = (let h = held_in (before) in
    edited (window_edit 0 h.seq c.args.marks.now) c.args.has_ml h.seq h.text h.ml) in
    let tag_left : (x : Outcome (ℕ × ℕ)) → c.edit_front.result ≡ x → rewrote x c.edit_front.new.mm c.edit_front.new.ml ≡ leaves_tag c.args.has_ml (outcome) c.args.mm.now c.args.ml.now = λ x e. (let h = held_in (before) in
    let n = c.args.lengths.seq - 0 in
    let made : rewrote c.edit_front.result c.edit_front.new.mm c.edit_front.new.ml
    ≡ leaves_tag c.args.has_ml (edited (window_edit 0 (take n c.args.seq.now) c.args.marks.now) c.args.has_ml (take n c.args.seq.now) h.text h.ml) c.args.mm.now
    c.args.ml.now = c.edit_front.ensures in
    subst (λ (x : Outcome (ℕ × ℕ)). rewrote x c.edit_front.new.mm c.edit_front.new.ml ≡ leaves_tag c.args.has_ml (outcome) c.args.mm.now c.args.ml.now) e
    (made
    ∙ ap (λ (k : ℕ). leaves_tag c.args.has_ml (edited (window_edit 0 (take k c.args.seq.now) c.args.marks.now) c.args.has_ml (take k c.args.seq.now) h.text
    h.ml) c.args.mm.now c.args.ml.now) (sub-zero c.args.lengths.seq))) in
    step_done c.args.has_ml (before) (held_in (before)).seq (outcome) c.in_ok-end.end c.in_ok-end.kept c.lengths_now.result c.args.seq.now c.edit_front.new.mm c.edit_front.new.ml
    (tag_left _ c.in_ok-end.was) (omega (arith, c.lengths_now.ensures.0, c.requires.3, length-take c.args.lengths.seq c.args.seq.now))
    c.lengths_now.ensures.1 c.lengths_now.ensures.2
    (sym (over_own_front c.args.seq.now c.args.lengths.seq c.requires.3))
