-- Handing on the answers of the calls that rewrite a tag: the number of the definition, the two lengths, and the two rows.
-- Assumes nothing.
use Rattle.std.specs.Prelude.{Option}
use Prim.Native.Nat.{ℕ}
use mathlib.Core.Bool.{Bool}
use mathlib.Core.List.{List}
use mathlib.Core.Path.{◌≡◌, ◌∙◌, ap}
use lib.ListN.{length}
use Rattle.lent.specs.Filled.{leaves}
use Rattle.lent.specs.Outcome.{Outcome, number_of, on_done}
use Rattle.samtags.specs.Edits.{cut_tag}
use Rattle.samtags.specs.Writing.{Tag}
use Rattle.editing.specs.Rewrote.{Rewrote, leaves_tag, rewrote, sizes_with, values_with}
use Rattle.telling.specs.Told.{told}
use Rattle.telling.proofs.Handed.{number_handed, told_handed}

-- what a caller holds who was told of the answer w: the number r, the length t of the text and the length v of the ML
abbrev pub TagTold : Outcome (ℕ × ℕ) → ℕ → ℕ → ℕ → ℕ → ℕ → Type 0
TagTold w r t₀ t v₀ v = (r ≡ number_of w) × (t ≡ told (λ (s : ℕ × ℕ). s.0) w t₀) × (v ≡ told (λ (s : ℕ × ℕ). s.1) w v₀)

-- and of a tag that was to be rewritten: with the rows for text and ML
abbrev pub Rewritten : Bool → Outcome Tag → ℕ → ℕ → ℕ → ℕ → ℕ → List ℕ → List ℕ → List ℕ → List ℕ → Type 0
Rewritten ml? o r t₀ t v₀ v text₀ text ml₀ ml =
    (r ≡ number_of o) × (t ≡ told (λ (u : Tag). length u.text) o t₀) × (v ≡ told (λ (u : Tag). length (values_with ml? u)) o v₀)
    × (text ≡ leaves (λ (u : Tag). u.text) o text₀) × (ml ≡ leaves (values_with ml?) o ml₀)

pub tag_handed : (ml? : Bool) (o : Outcome Tag) (text₀ ml₀ : List ℕ) (t₀ v₀ : ℕ) {w : Outcome (ℕ × ℕ)} {r t v : ℕ} {text ml : List ℕ}
    → rewrote w text ml ≡ leaves_tag ml? o text₀ ml₀ → TagTold w r t₀ t v₀ v → Rewritten ml? o r t₀ t v₀ v text₀ text ml₀ ml
unfolding leaves_tag
tag_handed ml? o text₀ ml₀ t₀ v₀ {w} e h =
    let answer : w ≡ on_done (sizes_with ml?) o = ap (λ (y : Rewrote). y.answer) e in (
      number_handed (sizes_with ml?) o answer h.0,
      told_handed (λ (s : ℕ × ℕ). s.0) (sizes_with ml?) o t₀ answer h.1,
      told_handed (λ (s : ℕ × ℕ). s.1) (sizes_with ml?) o v₀ answer h.2,
      ap (λ (y : Rewrote). y.text) e,
      ap (λ (y : Rewrote). y.ml) e,
    )

-- a cut whose start was given as another says
pub cut_handed : (ml? : Bool) (given : Option ℕ) (before after mm values text₀ ml₀ : List ℕ) (t₀ v₀ : ℕ) {start : Option ℕ}
    {w : Outcome (ℕ × ℕ)} {r t v : ℕ} {text ml : List ℕ} → start ≡ given
    → rewrote w text ml ≡ leaves_tag ml? (cut_tag ml? start before after mm values (length text₀) (length ml₀)) text₀ ml₀
    → TagTold w r t₀ t v₀ v
    → Rewritten ml? (cut_tag ml? given before after mm values (length text₀) (length ml₀)) r t₀ t v₀ v text₀ text ml₀ ml
cut_handed ml? given before after mm values text₀ ml₀ t₀ v₀ s e h =
    let o : Option ℕ → Outcome Tag = λ at. cut_tag ml? at before after mm values (length text₀) (length ml₀) in
    tag_handed ml? (o given) text₀ ml₀ t₀ v₀ (e ∙ ap (λ (at : Option ℕ). leaves_tag ml? (o at) text₀ ml₀) s) h
