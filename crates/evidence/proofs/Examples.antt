-- The definitions of evidence at worked values, by computation. Bases are 'A' 65, 'C' 67, 'G' 71, 'T' 84, and 'a' 97, 'c' 99, 't' 116.
-- Assumes nothing.
use mathlib.Core.Path.{◌≡◌, refl}
use mathlib.Core.Bool.{true, false}
use Rattle.pattern.specs.Case.{upper}
use Rattle.pattern.specs.declared.ConversionPattern.TheVariants.{CToT}
use Rattle.evidence.specs.Position.{fresh, counted, gated}

-- 'c' counts as unconverted, 'T' as converted, 'A' as neither; a full count stays
one_base :
    (counted (fresh true) 99 CToT ≡ record { informative = true; unconverted = 1; converted = 0 })
    × (counted (fresh true) 84 CToT ≡ record { informative = true; unconverted = 0; converted = 1 })
    × (counted (fresh true) 65 CToT ≡ fresh true)
    × (counted (record { informative = true; unconverted = 4294967295; converted = 7 }) 67 CToT
    ≡ record { informative = true; unconverted = 4294967295; converted = 7 })
    × (gated (record { informative = false; unconverted = 3; converted = 4 }) ≡ fresh false)
unfolding upper
one_base = (refl, refl, refl, refl, refl)
