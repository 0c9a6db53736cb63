-- What each export over bytes, patterns and the chemistry promises to a C program: one proposition per export, about its arguments, the returned
-- number, and the lent numbers after the call. The export's `ensures` cites it, and every theorem about the export uses it.
-- Assumes nothing.
use Rattle.std.specs.Prelude.{◌≡◌, ℕ}
use Rattle.lent.specs.Outcome.{number_of, on_done}
use Rattle.pattern.specs.Case.{upper, same_in_any_case}
use Rattle.pattern.specs.Patterns.{pattern_of, bases_of, letter_of, sign_of, is_enabled}
use Rattle.columns.specs.Columns.{yes_byte}
use Rattle.telling.specs.Told.{told}
use Rattle.modes.specs.Modes.{mode_of}
use Rattle.taglib.specs.Patterns.{pattern_number}

-- `aql_to_ascii_uppercase`: a byte, and the byte in upper case
abbrev pub UppercasesInC : ℕ → ℕ → Type 0
UppercasesInC b r = r ≡ upper b

-- `aql_eq_ignore_ascii_case`: two bytes, and 1 if they are the same apart from case, else 0
abbrev pub ComparesInC : ℕ → ℕ → ℕ → Type 0
ComparesInC a b r = r ≡ yes_byte (same_in_any_case a b)

-- `aql_pattern_from_read_flags`: a read's SAM flags, and the number of its pattern
abbrev pub FindsPatternInC : ℕ → ℕ → Type 0
FindsPatternInC flags r = r ≡ pattern_number (pattern_of flags)

-- `aql_pattern_bases`: a read's flags, and its pattern's reference, unconverted and converted base
abbrev pub NamesBasesInC : ℕ → ℕ → ℕ → ℕ → Type 0
NamesBasesInC flags reference' unconverted' converted' =
    let b = bases_of (pattern_of flags) in
    (reference' ≡ b.reference) × (unconverted' ≡ b.unconverted) × (converted' ≡ b.converted)

-- `aql_pattern_letter`: a read's flags, and the letter of its pattern's MM group
abbrev pub NamesLetterInC : ℕ → ℕ → Type 0
NamesLetterInC flags r = r ≡ letter_of (pattern_of flags)

-- `aql_pattern_sign`: a read's flags, and the strand sign of its pattern's MM group
abbrev pub NamesSignInC : ℕ → ℕ → Type 0
NamesSignInC flags r = r ≡ sign_of (pattern_of flags)

-- `aql_mode_is_enabled`: the number of a chemistry and the lent number; returns 0, with 1 or 0 in the lent number, or 13, with the lent number unchanged
abbrev pub TellsEnabledInC : ℕ → ℕ → ℕ → ℕ → Type 0
TellsEnabledInC mode enabled r enabled' =
    let o = on_done is_enabled (mode_of mode) in
    (r ≡ number_of o) × (enabled' ≡ told yes_byte o enabled)
