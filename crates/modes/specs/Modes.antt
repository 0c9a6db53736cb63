-- The chemistry by number, for callers that have no enum. Any other number is refused with 13.
-- Assumes nothing.
use Rattle.std.specs.Prelude.{ℕ, cond, eqb, Ok}
use Rattle.lent.specs.Outcome.{Outcome, refuse}
use Rattle.pattern.specs.declared.MethylationMode.{MethylationMode}
use Rattle.pattern.specs.declared.MethylationMode.TheVariants.{Disabled, EmSeq, Taps}

-- 0, 1 and 2, in the order of the chemistry's cases
abbrev pub mode_of : ℕ → Outcome MethylationMode
mode_of n = cond (eqb n 0) (Ok Disabled) (cond (eqb n 1) (Ok EmSeq) (cond (eqb n 2) (Ok Taps) (refuse 13)))
