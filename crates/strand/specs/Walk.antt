-- The spots that places of SEQ give to a strand's group. These are contracts of support functions; no promise rests on them.
-- Assumes nothing.
use Rattle.std.specs.Prelude.{ℕ, cond, List, [], ◌∷◌, map, get_or, drop}
use Rattle.pattern.specs.Case.{same_in_any_case}
use Rattle.pattern.specs.Patterns.{letter_of}
use Rattle.pattern.specs.declared.ConversionPattern.{ConversionPattern}
use Rattle.pattern.specs.declared.MethylationMode.{MethylationMode}
use Rattle.samtags.specs.Spots.{Spot, places_from}
use Rattle.samtags.specs.Building.{Evidence, called_at, spot_at}

-- the strand's spots from place i of SEQ on
unfoldable pub spots_from : MethylationMode → ConversionPattern → Evidence → List ℕ → ℕ → List Spot
unfolding called_at same_in_any_case
spots_from mode p ev seq i = map (λ q. spot_at (called_at mode ev q) q) (places_from (same_in_any_case (letter_of p)) i (drop i seq))

-- the spot of place i, if its base is the pattern's letter
unfoldable pub spots_at : MethylationMode → ConversionPattern → Evidence → List ℕ → ℕ → List Spot
unfolding called_at same_in_any_case
spots_at mode p ev seq i = cond (same_in_any_case (letter_of p) (get_or seq i 0)) (spot_at (called_at mode ev i) i ∷ []) []
