-- Each public call's contract determines its outcome, the answer and every lent row: two outcomes that meet the contract are equal.
-- Assumes nothing.
use Rattle.std.specs.Prelude.{Option}
use Rattle.lent.specs.Outcome.{Outcome}
use mathlib.Core.Path.{◌≡◌}
use Prim.Native.Nat.{ℕ}
use mathlib.Core.Bool.{Bool}
use mathlib.Core.List.{List}
use Rattle.stored_edits.specs.PublicContracts.{DropsStored, MasksStored, TrimsStored}
use Rattle.rewriting.proofs.Unique.{rewrote_unique}

module _ (reverse ml? : Bool) (mm ml mm-out ml-out : List ℕ) (r s : Outcome (ℕ × ℕ)) (t u v w : List ℕ) where
  pub drop_masked_modifications_unique : (n : ℕ) (before : List ℕ) (k : ℕ) (after : List ℕ)
      → MasksStored reverse ml? n before k after mm ml mm-out ml-out r t v
      → MasksStored reverse ml? n before k after mm ml mm-out ml-out s u w → (r ≡ s) × (t ≡ u) × (v ≡ w)
  drop_masked_modifications_unique n before k after = rewrote_unique _ r s t u v w

  pub drop_modifications_at_unique : (n : ℕ) (packed places : List ℕ) → DropsStored reverse ml? n packed places mm ml mm-out ml-out r t v
      → DropsStored reverse ml? n packed places mm ml mm-out ml-out s u w → (r ≡ s) × (t ≡ u) × (v ≡ w)
  drop_modifications_at_unique n packed places = rewrote_unique _ r s t u v w

  pub trim_clipped_modifications_unique : (start : Option ℕ) (n : ℕ) (before : List ℕ) (k : ℕ) (after : List ℕ)
      → TrimsStored reverse ml? start n before k after mm ml mm-out ml-out r t v
      → TrimsStored reverse ml? start n before k after mm ml mm-out ml-out s u w → (r ≡ s) × (t ≡ u) × (v ≡ w)
  trim_clipped_modifications_unique start n before k after = rewrote_unique _ r s t u v w
