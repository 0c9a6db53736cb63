-- A call that answers a number other than 0 has written nothing.
-- Assumes nothing.
use Rattle.std.specs.Prelude.{Option}
use mathlib.Core.Path.{◌≡◌, ap}
use Prim.Native.Nat.{ℕ}
use mathlib.Core.Bool.{Bool, false}
use mathlib.Core.List.{List}
use Rattle.editing.specs.Rewrote.{Rewrote, leaves_tag, rewrote, sizes_with, values_with}
use Rattle.lent.proofs.Answers.{not_done, row_kept}
use Rattle.lent.specs.Answers.{is_done}
use Rattle.lent.specs.Outcome.{Outcome}
use Rattle.samtags.specs.Writing.{Tag}
use Rattle.stored_edits.specs.PublicContracts.{DropsStored, MasksStored, TrimsStored}

module _ (reverse ml? : Bool) (mm ml text values : List ℕ) (r : Outcome (ℕ × ℕ)) (text' values' : List ℕ) where
  kept : (o : Outcome Tag) → rewrote r text' values' ≡ leaves_tag ml? o text values → is_done r ≡ false
      → (text' ≡ text) × (values' ≡ values)
  unfolding leaves_tag
  kept o e d =
      let n = not_done (sizes_with ml?) o r (ap (λ (x : Rewrote). x.answer) e) d in (
        row_kept (λ (t : Tag). t.text) o text text' (ap (λ (x : Rewrote). x.text) e) n,
        row_kept (values_with ml?) o values values' (ap (λ (x : Rewrote). x.ml) e) n,
      )

  pub drop_masked_modifications_refused : (n : ℕ) (before : List ℕ) (k : ℕ) (after : List ℕ)
      → MasksStored reverse ml? n before k after mm ml text values r text' values' → is_done r ≡ false → (text' ≡ text) × (values' ≡ values)
  drop_masked_modifications_refused n before k after = kept _

  pub drop_modifications_at_refused : (n : ℕ) (packed places : List ℕ)
      → DropsStored reverse ml? n packed places mm ml text values r text' values' → is_done r ≡ false → (text' ≡ text) × (values' ≡ values)
  drop_modifications_at_refused n packed places = kept _

  pub trim_clipped_modifications_refused : (start : Option ℕ) (n : ℕ) (before : List ℕ) (k : ℕ) (after : List ℕ)
      → TrimsStored reverse ml? start n before k after mm ml text values r text' values' → is_done r ≡ false
      → (text' ≡ text) × (values' ≡ values)
  trim_clipped_modifications_refused start n before k after = kept _
