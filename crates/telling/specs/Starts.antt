-- A window's start as two numbers: whether it is known, and where it is.
-- Assumes nothing.
use Rattle.std.specs.Prelude.{ℕ, cond, Option, None, Some}
use Rattle.telling.specs.Told.{yes}

abbrev pub given_start : ℕ → ℕ → Option ℕ
given_start known start = cond (yes known) (Some start) None
