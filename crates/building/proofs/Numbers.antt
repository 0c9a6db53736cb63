-- The numbers that each public call can answer: no other number, each of them for some input, and 0 exactly when the call is done.
-- Assumes nothing.
use mathlib.Core.Path.{◌≡◌, refl}
use Prim.Native.Nat.{ℕ}
use mathlib.Core.Bool.{true, false}
use mathlib.Core.List.{List, [], ◌∷◌}
use lib.ListN.{length, replicate}
use Rattle.building.specs.PublicContracts.{Built, BuiltAlone}
use Rattle.lent.proofs.Answers.{answers, only_on_done}
use Rattle.lent.specs.Answers.{Answers}
use Rattle.lent.specs.Outcome.{Outcome, number_of, on_done}
use Rattle.pattern.specs.declared.ConversionPattern.{ConversionPattern}
use Rattle.pattern.specs.declared.ConversionPattern.TheVariants.{CToT}
use Rattle.pattern.specs.declared.MethylationMode.{MethylationMode}
use Rattle.pattern.specs.declared.MethylationMode.TheVariants.{EmSeq}
use Rattle.samtags.proofs.Numbers.{build_numbers, build_tag_only}
use Rattle.samtags.specs.Building.{Evidence, build_tag, columns}
use Rattle.samtags.specs.Bytes.{ascii}
use Rattle.samtags.specs.Writing.{Tag, sizes_of}

module _ (mode : MethylationMode) (p : ConversionPattern) (ev : Evidence) (seq mm : List ℕ) where
  pub build_mm_ml_tags_numbers : (ml : List ℕ) (r : Outcome (ℕ × ℕ)) (mm' ml' : List ℕ) → Built mode p ev seq mm ml r mm' ml'
      → Answers (1 ∷ 2 ∷ 12 ∷ 20 ∷ []) r
  build_mm_ml_tags_numbers ml r mm' ml' b =
      let o = build_tag true mode p ev seq (length mm) (length ml) in
      rw b.0 (answers _ (on_done sizes_of o) refl (only_on_done build_numbers sizes_of o (build_tag_only true mode p ev seq (length mm) (length ml))))

  pub build_mm_tag_no_ml_numbers : (r : Outcome ℕ) (mm' : List ℕ) → BuiltAlone mode p ev seq mm r mm' → Answers (1 ∷ 2 ∷ 12 ∷ 20 ∷ []) r
  build_mm_tag_no_ml_numbers r mm' b =
      let o = build_tag false mode p ev seq (length mm) 0 in
      let size : Tag → ℕ = λ t. length t.text in
      rw b.0 (answers _ (on_done size o) refl (only_on_done build_numbers size o (build_tag_only false mode p ev seq (length mm) 0)))

-- ---- no set is too large: worked inputs, whose numbers are 0 and then each of the set in order

-- the outcomes of the call on a read of an informative C, on a consensus that is too long, without columns, without room, and without an informative place
abbrev worked : (ℕ → List ℕ → Evidence → ℕ) → List ℕ
worked number =
    number 100 (ascii "C") (columns (1 ∷ []) (1 ∷ []) (0 ∷ []))
    ∷ number 100 (replicate 16001 67) (columns [] [] [])
    ∷ number 100 (ascii "C") (columns [] [] [])
    ∷ number 0 (ascii "C") (columns (1 ∷ []) (1 ∷ []) (0 ∷ []))
    ∷ number 100 (ascii "C") (columns (0 ∷ []) (1 ∷ []) (0 ∷ []))
    ∷ []

pub build_mm_ml_tags_each_number : worked (λ room seq ev. number_of (build_tag true EmSeq CToT ev seq room room)) ≡ 0 ∷ 1 ∷ 2 ∷ 12 ∷ 20 ∷ []
unfolding build_tag
build_mm_ml_tags_each_number = refl

pub build_mm_tag_no_ml_each_number : worked (λ room seq ev. number_of (build_tag false EmSeq CToT ev seq room 0)) ≡ 0 ∷ 1 ∷ 2 ∷ 12 ∷ 20 ∷ []
unfolding build_tag
build_mm_tag_no_ml_each_number = refl
