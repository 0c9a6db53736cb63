-- The bases that a group counts, from a place of SEQ on, and the base that an entry lists.
-- Assumes nothing.
use Rattle.std.specs.Prelude.{ℕ, List, [], ◌∷◌, drop, Ok, Option, None, Some}
use Rattle.lent.specs.Outcome.{Outcome, need, with_first}
use Rattle.samtags.specs.Decimal.{is_number, value}
use Rattle.samtags.specs.Spots.{holds, places_from}

-- the places of the base from a place on
unfoldable pub tracked_from : ℕ → ℕ → List ℕ → List ℕ
unfolding holds
tracked_from base from seq = places_from (holds base) from (drop from seq)

-- the first of the places, if any
abbrev pub first_of : List ℕ → Option ℕ
first_of [] = None
first_of (p ∷ ps) = Some p

-- the place that a field lists, given the places that are left
unfoldable pub entry_at : List ℕ → List ℕ → Outcome ℕ
unfolding is_number value
entry_at field places = need (is_number field) 6 (with_first (drop (value field) places) 7 (λ p rest. Ok p))
