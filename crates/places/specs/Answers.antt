-- An answer with its place as a plain number.
-- Assumes nothing.
use Rattle.places.specs.declared.Place.{Place}
use Rattle.std.specs.Prelude.{ℕ, Ok, Err, Some, None, Option}
use Rattle.lent.specs.Outcome.{Outcome}

-- the place that was found, if any
abbrev pub found_says : Option Place → Option ℕ
found_says (Some p) = Some p.0
found_says None = None

abbrev pub entry_says : Outcome Place → Outcome ℕ
entry_says (Ok p) = Ok p.0
entry_says (Err r) = Err r
