-- The promise of each public call: one proposition per call, about its answer and every byte of the lent rows, for all inputs. The call's `ensures`
-- cites it, and every theorem about the call uses it.
-- Assumes nothing.
use Rattle.std.specs.Prelude.{◌≡◌, ℕ, true, false, List, length}
use Rattle.lent.specs.Filled.{leaves}
use Rattle.lent.specs.Outcome.{Outcome, on_done}
use Rattle.pattern.specs.declared.ConversionPattern.{ConversionPattern}
use Rattle.pattern.specs.declared.MethylationMode.{MethylationMode}
use Rattle.samtags.specs.Writing.{Tag, sizes_of}
use Rattle.samtags.specs.Building.{Evidence, build_tag}

-- `build_mm_ml_tags`: chemistry, pattern, evidence, consensus and two rows; the answer, and the rows for MM and ML after the call
abbrev pub Built : MethylationMode → ConversionPattern → Evidence → List ℕ → List ℕ → List ℕ → Outcome (ℕ × ℕ) → List ℕ → List ℕ → Type 0
Built mode p ev seq mm ml r mm' ml' =
    let o = build_tag true mode p ev seq (length mm) (length ml) in
    (r ≡ on_done sizes_of o)
    × (mm' ≡ leaves (λ (t : Tag). t.text) o mm)
    × (ml' ≡ leaves (λ (t : Tag). t.ml) o ml)

-- `build_mm_tag_no_ml`: the same and one row; the answer, and the row for MM after the call
abbrev pub BuiltAlone : MethylationMode → ConversionPattern → Evidence → List ℕ → List ℕ → Outcome ℕ → List ℕ → Type 0
BuiltAlone mode p ev seq mm r mm' =
    let o = build_tag false mode p ev seq (length mm) 0 in
    (r ≡ on_done (λ (t : Tag). length t.text) o)
    × (mm' ≡ leaves (λ (t : Tag). t.text) o mm)
