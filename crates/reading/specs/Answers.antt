-- The tally's answer, a pair, as the record that the tally is.
-- Assumes nothing.
use Rattle.std.specs.Prelude.{ℕ, Ok, Err}
use Rattle.lent.specs.Outcome.{Outcome}
use Rattle.samtags.specs.Reading.{Tally}

-- how many values are above and how many below
abbrev pub tally_says : Outcome (ℕ × ℕ) → Outcome Tally
tally_says (Ok (above, below)) = Ok (record { above = above; below = below })
tally_says (Err r) = Err r
