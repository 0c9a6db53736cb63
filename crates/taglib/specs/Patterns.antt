-- How the C library numbers the two patterns.
-- Assumes nothing.
use Rattle.std.specs.Prelude.{ℕ}
use Rattle.pattern.specs.declared.ConversionPattern.{ConversionPattern}
use Rattle.pattern.specs.declared.ConversionPattern.TheVariants.{CToT, GToA}

abbrev pub pattern_number : ConversionPattern → ℕ
pattern_number CToT = 0
pattern_number GToA = 1
