-- `cut_to` edits the tag in place, with the window that stays. Only then it moves the window to SEQ's front.
-- Assumes nothing.
use Rattle.std.specs.Prelude.{Err}
use mathlib.Core.Path.{◌∙◌, ◌≡◌, ap, subst, sym}
use Prim.Native.Nat.{◌+◌, ◌-◌, ℕ}
use native.Mathlib.Nat.{sub-zero}
use native.Mathlib.Omega.{arith}
use mathlib.Core.List.{List, []}
use lib.ListN.{drop, length, take}
use lib.Seq.{sets}
use Rattle.changing.proofs.WindowLaws.{cut_is}
use Rattle.changing.specs.Windows.{window_edit}
use Rattle.editing.specs.Rewrote.{leaves_tag, rewrote}
use Rattle.lent.proofs.Filled.{over_stored}
use Rattle.lent.specs.Filled.{over}
use Rattle.lent.specs.Outcome.{Outcome}
use Rattle.lent.specs.declared.Refusal.{Refusal}
use Rattle.samtags.specs.Edits.{cut_to, edited}
use Rattle.samtags.specs.Session.{Memory, held_in, window}
use Rattle.samtags.specs.Writing.{Tag}
use Rattle.stepping.proofs.StepLaws.{length_window, step_done, step_refused, window_of_front}
use Rattle.stepping.specs.Steps.{came, memory, step_says}
use Rattle.lent.proofs.Outcome.{passed_on}
use Rattle.cutting.proofs.cut_to.Goals as goal

pub returns-in_err-end : goal.returns-in_err-end
returns-in_err-end c =
    let before : Memory = memory c.args.seq.now c.args.mm.now c.args.ml.now c.args.lengths in
    let stays : List ℕ = window c.args.front c.args.n (held_in (before)).seq in
    let outcome : Outcome Tag = (let h = held_in (before) in
    edited (cut_to c.args.front (stays)) c.args.has_ml h.seq h.text h.ml) in
    let stays_is : stays ≡ window c.args.front c.args.n c.args.seq.now = window_of_front c.args.front c.args.n c.args.lengths.seq c.args.seq.now c.requires.1 in
    let tag_left : (x : Outcome (ℕ × ℕ)) → c.edit_front.result ≡ x → rewrote x c.edit_front.new.mm c.edit_front.new.ml ≡ leaves_tag c.args.has_ml (outcome) c.args.mm.now c.args.ml.now = λ x e. (let h = held_in (before) in
    let n : c.args.front + c.args.n - c.args.front ≡ c.args.n = omega arith in
    let part : take (c.args.front + c.args.n - c.args.front) (drop c.args.front c.args.seq.now) ≡ stays =
    ap (λ (k : ℕ). window c.args.front k c.args.seq.now) n ∙ sym (stays_is) in
    let made : rewrote c.edit_front.result c.edit_front.new.mm c.edit_front.new.ml
    ≡ leaves_tag c.args.has_ml (edited (window_edit c.args.front (take (c.args.front + c.args.n - c.args.front) (drop c.args.front c.args.seq.now)) []) c.args.has_ml
    (take (c.args.lengths.seq - 0) c.args.seq.now) h.text h.ml) c.args.mm.now c.args.ml.now = c.edit_front.ensures in
    subst (λ (x : Outcome (ℕ × ℕ)). rewrote x c.edit_front.new.mm c.edit_front.new.ml ≡ leaves_tag c.args.has_ml (outcome) c.args.mm.now c.args.ml.now) e
    (made
    ∙ (λ j. leaves_tag c.args.has_ml (edited (window_edit c.args.front (part j) []) c.args.has_ml (take (sub-zero c.args.lengths.seq j) c.args.seq.now) h.text
    h.ml) c.args.mm.now c.args.ml.now)
    ∙ ap (λ (o : Outcome Tag). leaves_tag c.args.has_ml o c.args.mm.now c.args.ml.now)
    (sym (cut_is c.args.has_ml h.seq h.text h.ml c.args.front (stays))))) in
    ap (λ o. came (step_says o) c.args.seq.now c.edit_front.new.mm c.edit_front.new.ml) (passed_on c.from_residual.result _ c.from_residual.ensures.1)
    ∙ step_refused c.args.has_ml (before) (stays) (outcome) c.in_err-end.field-0.0 c.edit_front.new.mm c.edit_front.new.ml (tag_left _ c.in_err-end.was)

pub returns : goal.returns
returns c =
    let before : Memory = memory c.args.seq.now c.args.mm.now c.args.ml.now c.args.lengths in
    let stays : List ℕ = window c.args.front c.args.n (held_in (before)).seq in
    let outcome : Outcome Tag = (let h = held_in (before) in
    edited (cut_to c.args.front (stays)) c.args.has_ml h.seq h.text h.ml) in
    let stays_is : stays ≡ window c.args.front c.args.n c.args.seq.now = window_of_front c.args.front c.args.n c.args.lengths.seq c.args.seq.now c.requires.1 in
    let tag_left : (x : Outcome (ℕ × ℕ)) → c.edit_front.result ≡ x → rewrote x c.edit_front.new.mm c.edit_front.new.ml ≡ leaves_tag c.args.has_ml (outcome) c.args.mm.now c.args.ml.now = λ x e. (let h = held_in (before) in
    let n : c.args.front + c.args.n - c.args.front ≡ c.args.n = omega arith in
    let part : take (c.args.front + c.args.n - c.args.front) (drop c.args.front c.args.seq.now) ≡ stays =
    ap (λ (k : ℕ). window c.args.front k c.args.seq.now) n ∙ sym (stays_is) in
    let made : rewrote c.edit_front.result c.edit_front.new.mm c.edit_front.new.ml
    ≡ leaves_tag c.args.has_ml (edited (window_edit c.args.front (take (c.args.front + c.args.n - c.args.front) (drop c.args.front c.args.seq.now)) []) c.args.has_ml
    (take (c.args.lengths.seq - 0) c.args.seq.now) h.text h.ml) c.args.mm.now c.args.ml.now = c.edit_front.ensures in
    subst (λ (x : Outcome (ℕ × ℕ)). rewrote x c.edit_front.new.mm c.edit_front.new.ml ≡ leaves_tag c.args.has_ml (outcome) c.args.mm.now c.args.ml.now) e
    (made
    ∙ (λ j. leaves_tag c.args.has_ml (edited (window_edit c.args.front (part j) []) c.args.has_ml (take (sub-zero c.args.lengths.seq j) c.args.seq.now) h.text
    h.ml) c.args.mm.now c.args.ml.now)
    ∙ ap (λ (o : Outcome Tag). leaves_tag c.args.has_ml o c.args.mm.now c.args.ml.now)
    (sym (cut_is c.args.has_ml h.seq h.text h.ml c.args.front (stays))))) in
    let moved : c.move_left.new.row ≡ sets c.args.seq.now 0 (window c.args.front c.args.n c.args.seq.now) = c.move_left.ensures in
    let long = length_window c.args.front c.args.n c.args.seq.now (omega (arith, c.requires.0.3, c.requires.1)) in
    step_done c.args.has_ml (before) (stays) (outcome) c.in_ok-end.end c.in_ok-end.kept c.lengths_now.result c.move_left.new.row c.edit_front.new.mm c.edit_front.new.ml
    (tag_left _ c.in_ok-end.was) (c.lengths_now.ensures.0 ∙ sym long ∙ ap length (sym (stays_is)))
    c.lengths_now.ensures.1 c.lengths_now.ensures.2
    (moved
    ∙ over_stored (window c.args.front c.args.n c.args.seq.now) c.args.seq.now (omega (arith, long, c.requires.0.3, c.requires.1))
    ∙ ap (λ (l : List ℕ). over l c.args.seq.now) (sym (stays_is)))
