-- The definitions of case and pattern at worked values, by computation.
-- Assumes nothing.
use mathlib.Core.Path.{◌≡◌, refl}
use mathlib.Core.Bool.{true, false}
use Rattle.pattern.specs.Case.{upper, same_in_any_case}
use Rattle.pattern.specs.Patterns.{pattern_of, bases_of, letter_of}
use Rattle.pattern.specs.declared.ConversionPattern.TheVariants.{CToT, GToA}

-- 'a' and 'z', and the bytes beside the letters: '`' and '{' stay, and so does a byte above 127
upper_case : (upper 97 ≡ 65) × (upper 122 ≡ 90) × (upper 96 ≡ 96) × (upper 123 ≡ 123) × (upper 67 ≡ 67) × (upper 227 ≡ 227)
unfolding upper
upper_case = (refl, refl, refl, refl, refl, refl)

-- 'c' is 'C' if case is ignored; '{' is not '[', which is 32 below it
any_case : (same_in_any_case 99 67 ≡ true) × (same_in_any_case 67 71 ≡ false) × (same_in_any_case 123 91 ≡ false)
unfolding same_in_any_case
any_case = (refl, refl, refl)

-- an unpaired read, an R1 (0x40 and more), an R2 (0x80 and more)
flags : (pattern_of 0 ≡ CToT) × (pattern_of 99 ≡ CToT) × (pattern_of 147 ≡ GToA) × (pattern_of 128 ≡ GToA) × (pattern_of 65407 ≡ CToT)
flags = (refl, refl, refl, refl, refl)

-- a group's letter is the pattern's reference base
letters : (letter_of CToT ≡ (bases_of CToT).reference) × (letter_of GToA ≡ (bases_of GToA).reference)
letters = (refl, refl)
