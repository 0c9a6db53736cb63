-- The answer of the first walk over a tag: the contract of a support function; no promise rests on it.
-- Assumes nothing.
use Rattle.drafting.specs.declared.Cursor.{Cursor}
use Rattle.std.specs.Prelude.{◌≡◌, Ok, Err}
use Rattle.lent.specs.Outcome.{Outcome, on_done}
use Rattle.samtags.specs.Writing.{Tag, sizes_of}

-- the first walk's answer agrees with o, the outcome of the whole tag
abbrev pub TagMeasured : Outcome Tag → Outcome Cursor → Type 0
TagMeasured o (Err r) = o ≡ Err r
TagMeasured o (Ok d) = on_done sizes_of o ≡ Ok (d.end, d.kept)
