-- A call that answers a number other than 0 has written nothing.
-- Assumes nothing.
use Rattle.lent.specs.Outcome.{Outcome}
use mathlib.Core.Path.{◌≡◌}
use Prim.Native.Nat.{ℕ}
use mathlib.Core.Bool.{false, true}
use mathlib.Core.List.{List}
use lib.ListN.{length}
use Rattle.lent.proofs.Answers.{not_done, row_kept}
use Rattle.lent.specs.Answers.{is_done}
use Rattle.pattern.specs.declared.ConversionPattern.{ConversionPattern}
use Rattle.pattern.specs.declared.MethylationMode.{MethylationMode}
use Rattle.samtags.specs.Building.{Evidence, build_tag}
use Rattle.samtags.specs.Writing.{Tag, sizes_of}
use Rattle.building.specs.PublicContracts.{Built, BuiltAlone}

module _ (mode : MethylationMode) (p : ConversionPattern) (ev : Evidence) (seq mm : List ℕ) where
  pub build_mm_ml_tags_refused : (ml : List ℕ) (r : Outcome (ℕ × ℕ)) (mm' ml' : List ℕ) → Built mode p ev seq mm ml r mm' ml' → is_done r ≡ false
      → (mm' ≡ mm) × (ml' ≡ ml)
  build_mm_ml_tags_refused ml r mm' ml' h d =
      let o = build_tag true mode p ev seq (length mm) (length ml) in
      let n = not_done sizes_of o r h.0 d in
      (row_kept (λ (t : Tag). t.text) o mm mm' h.1 n, row_kept (λ (t : Tag). t.ml) o ml ml' h.2 n)

  pub build_mm_tag_no_ml_refused : (r : Outcome ℕ) (mm' : List ℕ) → BuiltAlone mode p ev seq mm r mm' → is_done r ≡ false → mm' ≡ mm
  build_mm_tag_no_ml_refused r mm' h d =
      let o = build_tag false mode p ev seq (length mm) 0 in
      row_kept (λ (t : Tag). t.text) o mm mm' h.1 (not_done (λ (t : Tag). length t.text) o r h.0 d)
