-- The promise of each public call: one proposition per call, about its arguments and its answer. The call's `ensures` cites it, and every theorem
-- about the call uses it.
-- Assumes nothing.
use Rattle.std.specs.Prelude.{◌≡◌, ℕ, Bool}
use Rattle.pattern.specs.Case.{upper, same_in_any_case}
use Rattle.pattern.specs.Patterns.{pattern_of, bases_of, letter_of, sign_of, is_enabled}
use Rattle.pattern.specs.declared.ConversionPattern.{ConversionPattern}
use Rattle.pattern.specs.declared.MethylationMode.{MethylationMode}
use Rattle.pattern.specs.declared.Bases.{Bases}

-- `to_ascii_uppercase`: a byte, and the byte in upper case
abbrev pub Uppercases : ℕ → ℕ → Type 0
Uppercases b r = r ≡ upper b

-- `eq_ignore_ascii_case`: two bytes, and whether they are the same apart from case
abbrev pub ComparesInAnyCase : ℕ → ℕ → Bool → Type 0
ComparesInAnyCase a b r = r ≡ same_in_any_case a b

-- `from_read_flags`: a read's SAM flags, and the read's pattern
abbrev pub FindsPattern : ℕ → ConversionPattern → Type 0
FindsPattern flags r = r ≡ pattern_of flags

-- `bases`: a pattern, and its reference, unconverted and converted base
abbrev pub NamesBases : ConversionPattern → Bases → Type 0
NamesBases p r = r ≡ bases_of p

-- `letter`: a pattern, and the letter that its MM group counts
abbrev pub NamesLetter : ConversionPattern → ℕ → Type 0
NamesLetter p r = r ≡ letter_of p

-- `sign`: a pattern, and the strand sign of its MM group
abbrev pub NamesSign : ConversionPattern → ℕ → Type 0
NamesSign p r = r ≡ sign_of p

-- `is_enabled`: a chemistry, and whether it is enabled
abbrev pub TellsEnabled : MethylationMode → Bool → Type 0
TellsEnabled m r = r ≡ is_enabled m
