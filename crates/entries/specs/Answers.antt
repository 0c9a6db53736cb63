-- An answer with its place and its number of bases as plain numbers. Also a pen after more bases.
-- Assumes nothing.
use Rattle.places.specs.declared.Place.{Place}
use Rattle.places.specs.declared.Ordinal.{Ordinal}
use Rattle.std.specs.Prelude.{ℕ, ◌+◌, Ok, Err}
use Rattle.lent.specs.Outcome.{Outcome}
use Rattle.entries.specs.declared.Pen.{Pen}

-- the place, and how many of the passed bases are still of the group's kind
abbrev pub reached_says : Outcome (Place × Ordinal) → Outcome (ℕ × ℕ)
reached_says (Ok (p, n)) = Ok (p.0, n.0)
reached_says (Err r) = Err r

-- the pen after n more bases were passed
abbrev pub past_by : Pen → ℕ → Pen
past_by pen n = record { end = pen.end; kept = pen.kept; gap = pen.gap + n }
