-- A call with many rows, made with the chemistry and the patterns that C's numbers name: its outcome is the outcome of the export.
-- Assumes nothing.
use Rattle.std.specs.Prelude.{Ok}
use Prim.Native.Nat.{ℕ}
use mathlib.Core.List.{List}
use mathlib.Core.Path.{◌≡◌, ◌∙◌, ap, sym}
use Rattle.lent.specs.Filled.{leaves}
use Rattle.lent.specs.Outcome.{Outcome, and_then}
use Rattle.pattern.specs.Patterns.{pattern_of}
use Rattle.pattern.specs.declared.ConversionPattern.{ConversionPattern}
use Rattle.pattern.specs.declared.MethylationMode.{MethylationMode}
use Rattle.modes.specs.Modes.{mode_of}

module _ {A : Type 0} (run : MethylationMode → ConversionPattern → ConversionPattern → Outcome A) (mode first second : ℕ) where
  pub chosen_outcome : {m : MethylationMode} {p q : ConversionPattern} → mode_of mode ≡ Ok m → p ≡ pattern_of first → q ≡ pattern_of second
      → run m p q ≡ and_then (mode_of mode) (λ n. run n (pattern_of first) (pattern_of second))
  chosen_outcome {m} {p} {q} e ep eq =
      ap (λ x. run m x q) ep
      ∙ ap (λ y. run m (pattern_of first) y) eq
      ∙ ap (λ o. and_then o (λ n. run n (pattern_of first) (pattern_of second))) (sym e)

module _ {A B : Type 0} where
  -- the row that a call left is the row that the export leaves
  pub row_handed : (part : A → List B) (was : List B) {o p : Outcome A} {is : List B} → o ≡ p → is ≡ leaves part o was → is ≡ leaves part p was
  row_handed part was same e = e ∙ ap (λ o. leaves part o was) same
