-- The places of a list that was read, counted in the stored read: for the contracts of private functions, and for the law of `read_calls` (proofs/Turned).
-- Assumes nothing.
use Rattle.lent.specs.Outcome.{Outcome}
use Rattle.std.specs.Prelude.{ℕ, ◌≤◌, Bool, cond, List, map, take, Ok, Err}
use Rattle.lent.specs.Filled.{over}
use Rattle.packed.specs.Stored.{mirrored}

-- a list that was read fits into a column of n entries
abbrev pub CallsIn : Outcome (ℕ × ℕ) → ℕ → Type 0
CallsIn (Ok (groups, calls)) n = calls ≤ n
CallsIn (Err r) n = Unit {0}

-- the column with its listed places counted in the stored read
abbrev pub places_as_stored : Outcome (ℕ × ℕ) → Bool → ℕ → List ℕ → List ℕ
places_as_stored (Ok (groups, calls)) reverse n places = cond reverse (over (map (mirrored n) (take calls places)) places) places
places_as_stored (Err r) reverse n places = places
