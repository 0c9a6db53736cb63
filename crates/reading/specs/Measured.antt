-- The answer of the first walk over a tag: the contract of a private function.
-- Assumes nothing.
use Rattle.measuring.specs.declared.Count.{Count}
use Rattle.std.specs.Prelude.{◌≡◌, List, map, Ok, Err}
use Rattle.lent.specs.Outcome.{Outcome, on_done}
use Rattle.samtags.specs.Spots.{Group, listing}
use Rattle.reading.specs.Calls.{counts_of}

-- the answer agrees with o, the outcome of the whole tag
abbrev pub TagMeasured : Outcome (List Group) → Outcome Count → Type 0
TagMeasured o (Err r) = o ≡ Err r
TagMeasured o (Ok d) = on_done (λ gs. counts_of (map listing gs)) o ≡ Ok (d.group, d.calls)
