-- Each public call's contract determines its outcome, the answer and every lent row: two outcomes that meet the contract are equal.
-- Assumes nothing.
use Rattle.lent.specs.Outcome.{Outcome}
use mathlib.Core.Path.{◌≡◌}
use Prim.Native.Nat.{ℕ}
use mathlib.Core.List.{List}
use Rattle.building.specs.PublicContracts.{Built, BuiltAlone}
use Rattle.lent.proofs.Filled.{settled}
use Rattle.pattern.specs.declared.ConversionPattern.{ConversionPattern}
use Rattle.pattern.specs.declared.MethylationMode.{MethylationMode}
use Rattle.samtags.specs.Building.{Evidence}

module _ (mode : MethylationMode) (p : ConversionPattern) (ev : Evidence) (seq mm : List ℕ) where
  pub build_mm_ml_tags_unique : (ml : List ℕ) (r s : Outcome (ℕ × ℕ)) (a b c d : List ℕ) → Built mode p ev seq mm ml r a c → Built mode p ev seq mm ml s b d
      → (r ≡ s) × (a ≡ b) × (c ≡ d)
  build_mm_ml_tags_unique ml r s a b c d e f =
      ((settled r s e.0 f.0), settled a b e.1 f.1, settled c d e.2 f.2)

  pub build_mm_tag_no_ml_unique : (r s : Outcome ℕ) (a b : List ℕ) → BuiltAlone mode p ev seq mm r a → BuiltAlone mode p ev seq mm s b → (r ≡ s) × (a ≡ b)
  build_mm_tag_no_ml_unique r s a b e f = ((settled r s e.0 f.0), settled a b e.1 f.1)
