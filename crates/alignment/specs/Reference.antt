-- The reference under a read: whether a place is in a CpG, and the bases at a row of places.
-- Assumes nothing.
use Rattle.std.specs.Prelude.{ℕ, ◌+◌, ◌-◌, Bool, true, false, ◌&&◌, List, map, ℤ, pos, negsuc, length, get_or, leb, ltb, Ok}
use Rattle.lent.specs.Outcome.{Outcome, need}
use Rattle.pattern.specs.Case.{same_in_any_case}

-- the letter is at the place, in upper or lower case; a place outside the reference has no letter
abbrev pub holds_at : List ℕ → ℕ → ℕ → Bool
holds_at reference place letter = ltb place (length reference) && same_in_any_case (get_or reference place 0) letter

-- top strand: 'C' (67) followed by 'G' (71); bottom strand: 'G' preceded by 'C'
abbrev pub is_cpg : List ℕ → ℕ → Bool → Bool
is_cpg reference place true = holds_at reference place 67 && holds_at reference (place + 1) 71
is_cpg reference place false = leb 1 place && holds_at reference place 71 && holds_at reference (place - 1) 67

-- the base at a place; byte 0 (missing) if the place is negative or outside the reference
abbrev pub base_at : List ℕ → ℤ → ℕ
base_at reference (pos n) = get_or reference n 0
base_at reference (negsuc n) = 0

-- only 12, if the row lent for the bases is too short
abbrev pub fetched_bases : List ℤ → List ℕ → ℕ → Outcome (List ℕ)
fetched_bases places reference room = need (leb (length places) room) 12 (Ok (map (base_at reference) places))
