-- One form of edit covers all three edits: SEQ became `after`, which begins at place lo, and the calls at the marked places are dropped.
-- Assumes nothing.
use Rattle.std.specs.Prelude.{ℕ, ◌≡◌, Bool, false, not, ◌&&◌, List, [], ◌∷◌, length, get_or, set, eqb}
use Rattle.samtags.specs.Spots.{holds}
use Rattle.samtags.specs.Edits.{Edit}
use Rattle.strides.specs.Counts.{held_there}

-- the place p still holds the base b
unfoldable pub held_in : ℕ → List ℕ → ℕ → ℕ → Bool
unfolding holds
held_in lo after b p = held_there lo after b p

-- the mark at p is not 0; places past the row's end are not marked
unfoldable pub is_marked : List ℕ → ℕ → Bool
is_marked marks p = not (eqb (get_or marks p 0) 0)

-- a marked place, in a group that may lose no call
abbrev pub denied_in : List ℕ → Bool → ℕ → Bool
denied_in marks may_drop p = is_marked marks p && not may_drop

abbrev pub window_edit : ℕ → List ℕ → List ℕ → Edit
window_edit lo after marks = record { still_held = held_in lo after; dropped = is_marked marks }

-- a row of n bytes, without a mark
abbrev pub Unmarked : ℕ → List ℕ → Type 0
Unmarked n marks = (n ≡ length marks) × ((p : ℕ) → is_marked marks p ≡ false)

-- a row with the byte b at each place of a list, as far as the row reaches
abbrev pub stored_at : ℕ → List ℕ → List ℕ → List ℕ
stored_at b [] row = row
stored_at b (p ∷ ps) row = stored_at b ps (set row p b)

-- a row with a mark at each place of a list
abbrev pub marked_at : List ℕ → List ℕ → List ℕ
marked_at places marks = stored_at 1 places marks
