-- The checks of a stored read's lengths: contracts of support functions, over numbers.
-- Assumes nothing.
use Rattle.std.specs.Prelude.{ℕ, Bool, true, cond, ◌&&◌, leb}

-- a number of bases, of text bytes and of ML values within the domain; without ML the last is ignored
abbrev pub numbers_in_domain : Bool → ℕ → ℕ → ℕ → Bool
numbers_in_domain ml? bases mm ml = leb bases 16000 && leb mm 65536 && cond ml? (leb ml 65536) true
