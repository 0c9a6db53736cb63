-- Each public call's contract determines its outcome, the answer and every lent row: two outcomes that meet the contract are equal.
-- Assumes nothing.
use Rattle.std.specs.Prelude.{Option}
use Rattle.lent.specs.Outcome.{Outcome}
use mathlib.Core.Path.{◌≡◌, ap}
use Prim.Native.Nat.{ℕ}
use mathlib.Core.Bool.{Bool}
use mathlib.Core.List.{List}
use Rattle.editing.specs.Rewrote.{Rewrote, rewrote}
use Rattle.lent.proofs.Filled.{settled}
use Rattle.rewriting.specs.PublicContracts.{Drops, Masks, Trims}

-- whatever the call leaves
pub rewrote_unique : (o : Rewrote) (r s : Outcome (ℕ × ℕ)) (t u v w : List ℕ) → rewrote r t v ≡ o → rewrote s u w ≡ o
    → (r ≡ s) × (t ≡ u) × (v ≡ w)
rewrote_unique o r s t u v w p q =
    let same = settled (rewrote r t v) (rewrote s u w) p q in
    ((ap (λ (x : Rewrote). x.answer) same), ap (λ (x : Rewrote). x.text) same, ap (λ (x : Rewrote). x.ml) same)

module _ (ml? : Bool) (mm ml mm-out ml-out : List ℕ) (r s : Outcome (ℕ × ℕ)) (t u v w : List ℕ) where
  pub drop_masked_modifications_unique : (before after : List ℕ) → Masks ml? before after mm ml mm-out ml-out r t v
      → Masks ml? before after mm ml mm-out ml-out s u w → (r ≡ s) × (t ≡ u) × (v ≡ w)
  drop_masked_modifications_unique before after = rewrote_unique _ r s t u v w

  pub drop_modifications_at_unique : (seq places : List ℕ) → Drops ml? seq places mm ml mm-out ml-out r t v
      → Drops ml? seq places mm ml mm-out ml-out s u w → (r ≡ s) × (t ≡ u) × (v ≡ w)
  drop_modifications_at_unique seq places = rewrote_unique _ r s t u v w

  pub trim_clipped_modifications_unique : (before after : List ℕ) (start : Option ℕ) → Trims ml? start before after mm ml mm-out ml-out r t v
      → Trims ml? start before after mm ml mm-out ml-out s u w → (r ≡ s) × (t ≡ u) × (v ≡ w)
  trim_clipped_modifications_unique before after start = rewrote_unique _ r s t u v w
