-- Where a window of the old SEQ starts, if that is known.
-- Assumes nothing.
use Rattle.std.specs.Prelude.{ℕ, cond, eqb, Option, Some}

-- the start of the window, given the lengths of SEQ before and after: the contract of a private function
abbrev pub start_of : Option ℕ → ℕ → ℕ → Option ℕ
start_of start before after = cond (eqb before after) (Some 0) start
