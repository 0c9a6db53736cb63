-- The two conversion patterns: the SAM flags that give them, their bases, group letter and strand sign. Also whether a chemistry is chosen.
-- Assumes nothing.
use Rattle.std.specs.Prelude.{ℕ, ◌/◌, ◌%◌, Bool, true, false, cond, eqb}
use Rattle.pattern.specs.declared.ConversionPattern.{ConversionPattern}
use Rattle.pattern.specs.declared.ConversionPattern.TheVariants.{CToT, GToA}
use Rattle.pattern.specs.declared.MethylationMode.{MethylationMode}
use Rattle.pattern.specs.declared.MethylationMode.TheVariants.{Disabled, EmSeq, Taps}
use Rattle.pattern.specs.declared.Bases.{Bases}

-- flag 0x80 (bit 7) clear: C to T; set: G to A
abbrev pub pattern_of : ℕ → ConversionPattern
pattern_of flags = cond (eqb (flags / 128 % 2) 0) CToT GToA

-- 'C', 'C', 'T' and 'G', 'G', 'A'
abbrev pub bases_of : ConversionPattern → Bases
bases_of CToT = record { reference = 67; unconverted = 67; converted = 84 }
bases_of GToA = record { reference = 71; unconverted = 71; converted = 65 }

-- 'C' and 'G'
abbrev pub letter_of : ConversionPattern → ℕ
letter_of CToT = 67
letter_of GToA = 71

-- '+' and '-'
abbrev pub sign_of : ConversionPattern → ℕ
sign_of CToT = 43
sign_of GToA = 45

abbrev pub is_enabled : MethylationMode → Bool
is_enabled Disabled = false
is_enabled EmSeq = true
is_enabled Taps = true
