-- Worked values of the definitions, by computation.
-- Assumes nothing.
use mathlib.Core.Path.{◌≡◌, refl}
use mathlib.Core.List.{[], ◌∷◌}
use Rattle.lent.specs.Outcome.{refuse}
use Rattle.refusals.specs.Refusals.{annotated}

-- two bases are said and one is given, and no column has room: the lengths are answered first
disagreeing_without_room : annotated 1 (2 ∷ []) (65 ∷ []) (1 ∷ []) 0 0 0 ≡ refuse 2
unfolding annotated
disagreeing_without_room = refl
