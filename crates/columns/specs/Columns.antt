-- The columns of evidence, entry by entry: which positions are informative, gating, the marks and counts as they are written, restoring SEQ.
-- Assumes nothing.
use Rattle.std.specs.Prelude.{ℕ, min, Bool, true, false, not, cond, ◌&&◌, List, map, ℤ, pos, get_or, eqb}
use Rattle.lent.specs.Lists.{tabulate, zip_with}
use Rattle.pattern.specs.Case.{upper, same_in_any_case}
use Rattle.pattern.specs.Patterns.{bases_of}
use Rattle.pattern.specs.declared.ConversionPattern.{ConversionPattern}

-- ---- marks

-- any byte except 0 means yes, and yes is written as 1
abbrev pub is_yes : ℕ → Bool
is_yes b = not (eqb b 0)

abbrev pub yes_byte : Bool → ℕ
yes_byte true = 1
yes_byte false = 0

-- the reference base is the pattern's, in upper or lower case; no position beyond the reference row is informative
unfoldable pub informative_at : ConversionPattern → List ℕ → ℕ → Bool
informative_at p row i = eqb (upper (get_or row i 0)) (bases_of p).reference

-- an entry for each position below n
abbrev pub informative_column : ConversionPattern → List ℕ → ℕ → List ℕ
informative_column p row n = tabulate n (λ i. yes_byte (informative_at p row i))

-- ---- work on columns

-- counts stay if the position is informative, and are 0 otherwise
abbrev pub gated_counts : List ℕ → List ℕ → List ℕ
gated_counts informative counts = zip_with (λ y n. cond (is_yes y) n 0) informative counts

-- an informative column as it is written
abbrev pub as_yes : List ℕ → List ℕ
as_yes informative = map (λ y. yes_byte (is_yes y)) informative

-- counts as the tags `cu` and `ct` hold them, which are signed 16-bit numbers
abbrev pub as_tag_counts : List ℕ → List ℤ
as_tag_counts counts = map (λ n. pos (min 32767 n)) counts

-- at informative positions the unconverted base replaces the converted one, in upper or lower case
abbrev pub restored : ConversionPattern → List ℕ → List ℕ → List ℕ
restored p informative seq =
    zip_with (λ y b. cond (is_yes y && same_in_any_case b (bases_of p).converted) (bases_of p).unconverted b) informative seq
