-- The definitions of evidence at worked values, by computation. Bases are 'A' 65, 'C' 67, 'G' 71, 'T' 84, and 'a' 97, 'c' 99, 't' 116.
-- Assumes nothing.
use Rattle.std.specs.Prelude.{Ok}
use mathlib.Core.Path.{◌≡◌, refl}
use Prim.Native.Nat.{ℕ}
use mathlib.Core.Bool.{true, false}
use mathlib.Core.List.{List, [], ◌∷◌}
use lib.IntN.{pos}
use lib.ListN.{take}
use Rattle.lent.specs.Outcome.{refuse}
use Rattle.pattern.specs.Case.{upper, same_in_any_case}
use Rattle.pattern.specs.declared.ConversionPattern.TheVariants.{CToT, GToA}
use Rattle.columns.specs.Columns.{gated_counts, as_yes, as_tag_counts, restored, informative_at, informative_column}
use Rattle.refusals.specs.Refusals.{columns_of, restorable, truncated, counts_in_room, in_room, annotated}
use Rattle.counting.specs.Reads.{reads_of, bases_at, how_many, unconverted_column, converted_column}

-- ---- two reads, "CTc" and "TCAG", whose second base is not aligned, over the reference row "CcA" and a consensus of four positions

abbrev lengths : List ℕ
lengths = 3 ∷ 4 ∷ []

abbrev bases : List ℕ
bases = 67 ∷ 84 ∷ 99 ∷ 84 ∷ 67 ∷ 65 ∷ 71 ∷ []

abbrev aligned : List ℕ
aligned = 1 ∷ 1 ∷ 1 ∷ 1 ∷ 0 ∷ 1 ∷ 9 ∷ []

abbrev row : List ℕ
row = 67 ∷ 99 ∷ 65 ∷ []

-- the last position is beyond the row
informative : informative_column CToT row 4 ≡ 1 ∷ 1 ∷ 0 ∷ 0 ∷ []
unfolding informative_at upper
informative = refl

counts :
    (unconverted_column CToT false row (reads_of lengths bases aligned) 4 ≡ 1 ∷ 0 ∷ 0 ∷ 0 ∷ [])
    × (converted_column CToT false row (reads_of lengths bases aligned) 4 ≡ 1 ∷ 1 ∷ 0 ∷ 0 ∷ [])
unfolding reads_of informative_at bases_at how_many upper
counts = (refl, refl)

-- at all positions, aligned or not; the first read does not reach the last one
all_counts_lem :
    (unconverted_column CToT true row (reads_of lengths bases aligned) 4 ≡ 1 ∷ 1 ∷ 1 ∷ 0 ∷ [])
    × (converted_column CToT true row (reads_of lengths bases aligned) 4 ≡ 1 ∷ 1 ∷ 0 ∷ 0 ∷ [])
    × (unconverted_column GToA true row (reads_of lengths bases aligned) 4 ≡ 0 ∷ 0 ∷ 0 ∷ 1 ∷ [])
    × (converted_column GToA true row (reads_of lengths bases aligned) 4 ≡ 0 ∷ 0 ∷ 1 ∷ 0 ∷ [])
unfolding reads_of informative_at bases_at how_many upper
all_counts_lem = (refl, refl, refl, refl)

-- room in each column; one has none; an aligned byte too few, which comes before the room; a consensus that is too long, which comes before both
asked :
    (annotated 4 lengths bases aligned 4 4 9 ≡ Ok 4)
    × (annotated 4 lengths bases aligned 4 3 9 ≡ refuse 12)
    × (annotated 4 lengths bases (take 6 aligned) 4 3 9 ≡ refuse 2)
    × (annotated 16001 lengths bases (take 6 aligned) 4 3 9 ≡ refuse 1)
unfolding annotated in_room
asked = (refl, refl, refl, refl)

-- ---- columns that are there

gate : gated_counts (1 ∷ 0 ∷ 9 ∷ []) (5 ∷ 6 ∷ 7 ∷ []) ≡ 5 ∷ 0 ∷ 7 ∷ []
gate = refl

-- yes is written as 1, and all is kept where more is asked for
truncate :
    (as_yes (take 2 (9 ∷ 0 ∷ 1 ∷ [])) ≡ 1 ∷ 0 ∷ [])
    × (truncated 2 3 3 3 2 2 2 ≡ Ok 2)
    × (truncated 5 3 3 3 3 3 3 ≡ Ok 3)
    × (truncated 2 3 3 3 2 1 2 ≡ refuse 12)
    × (truncated 2 3 2 3 2 1 2 ≡ refuse 2)
unfolding truncated columns_of in_room
truncate = (refl, refl, refl, refl, refl)

tag_counts :
    (as_tag_counts (0 ∷ 32767 ∷ 32768 ∷ 4294967295 ∷ []) ≡ pos 0 ∷ pos 32767 ∷ pos 32767 ∷ pos 32767 ∷ [])
    × (counts_in_room 3 3 3 3 ≡ Ok 3)
    × (counts_in_room 3 3 3 2 ≡ refuse 12)
    × (counts_in_room 3 3 4 2 ≡ refuse 2)
    × (counts_in_room 3 3 16001 2 ≡ refuse 1)
unfolding counts_in_room columns_of
tag_counts = (refl, refl, refl, refl, refl)

-- "tTCA": 't' becomes 'C' where the position is informative; 'a' becomes 'G' for the other pattern
restore :
    (restored CToT (1 ∷ 0 ∷ 9 ∷ 1 ∷ []) (116 ∷ 84 ∷ 67 ∷ 65 ∷ []) ≡ 67 ∷ 84 ∷ 67 ∷ 65 ∷ [])
    × (restored GToA (1 ∷ []) (97 ∷ []) ≡ 71 ∷ [])
    × (restorable 4 4 ≡ Ok 4)
    × (restorable 4 3 ≡ refuse 2)
unfolding same_in_any_case upper restorable
restore = (refl, refl, refl, refl)
