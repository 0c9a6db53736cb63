-- The rule of each table, for the contracts of `packed`. Also packed SEQ place by place, for the walks.
-- Assumes nothing.
use Rattle.std.specs.Prelude.{ℕ, ◌+◌, ◌-◌, ◌*◌, ◌/◌, ◌%◌, ◌≡◌, List}
use Rattle.lent.specs.Lists.{tabulate}
use Rattle.packed.specs.Packed.{bits_reversed, code_at, complement, half_at, letter_of}

-- a table of 256 entries by a rule
abbrev pub TableOf : (ℕ → ℕ) → List ℕ → Type 0
TableOf rule table = table ≡ tabulate 256 rule

-- ---- rules: the two letters of a packed pair; those of the pair reverse-complemented; and its two bases then, in a low and in a high half

abbrev pub first_letter : ℕ → ℕ
first_letter pair = letter_of (pair / 16)

abbrev pub second_letter : ℕ → ℕ
second_letter pair = letter_of (pair % 16)

abbrev pub turned_first : ℕ → ℕ
turned_first pair = complement (second_letter pair)

abbrev pub turned_second : ℕ → ℕ
turned_second pair = complement (first_letter pair)

abbrev pub first_low : ℕ → ℕ
first_low pair = bits_reversed pair / 16

abbrev pub second_high : ℕ → ℕ
second_high pair = bits_reversed pair % 16 * 16

-- ---- place by place

-- the letter at a place of a packed SEQ
abbrev pub letter_at : List ℕ → ℕ → ℕ
letter_at packed p = letter_of (code_at packed p)

-- the letter at a place of n bases that are reverse-complemented
abbrev pub turned_at : ℕ → List ℕ → ℕ → ℕ
turned_at n packed i = complement (letter_at packed (n - 1 - i))

-- byte i of a SEQ that is packed
abbrev pub pair_at : List ℕ → ℕ → ℕ
pair_at seq i = 16 * half_at seq (2 * i) + half_at seq (2 * i + 1)
