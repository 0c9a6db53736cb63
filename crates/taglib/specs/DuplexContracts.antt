-- What `aql_duplex_methylation_tags` promises to a C program: one proposition, about its arguments, the returned number, and the lent rows and
-- numbers after the call. The export's `ensures` cites it, and every theorem about the export uses it.
-- Assumes nothing.
use Rattle.std.specs.Prelude.{◌≡◌, ℕ, List}
use Rattle.lent.specs.Outcome.{Outcome, number_of, and_then}
use Rattle.lent.specs.Filled.{leaves}
use Rattle.pattern.specs.Patterns.{pattern_of}
use Rattle.samtags.specs.Building.{Strand}
use Rattle.duplex.specs.PublicContracts.{Rows, lengths_lent}
use Rattle.duplex.specs.Duplex.{Duplexed, strand, lengths_of, duplex_tags}
use Rattle.duplex.specs.declared.Lengths.{Lengths}
use Rattle.telling.specs.Told.{told}
use Rattle.modes.specs.Modes.{mode_of}
use Rattle.telling_strands.specs.Strands.{part_row}

-- a strand with the pattern of a read's flags
abbrev pub strand_in_c : ℕ → List ℕ → List ℕ → List ℕ → Strand
strand_in_c flags inf unc con = strand (pattern_of flags) inf unc con

-- the duplex call with the chemistry that C's number names; 13 first if the chemistry is unknown
abbrev pub duplexes_as : ℕ → ℕ → List ℕ → Strand → Strand → Lengths → Outcome Duplexed
duplexes_as count mode bases a b lent = and_then (mode_of mode) (λ c. duplex_tags count c bases a b lent)

-- The consensus, the number of strands, the chemistry's number and the two strands; the eleven lent rows and the lent array of lengths; the returned
-- number; rows and array after the call.
abbrev pub DuplexesInC : List ℕ → ℕ → ℕ → Strand → Strand → Rows → List ℕ → ℕ → Rows → List ℕ → Type 0
DuplexesInC bases count mode a b lent lengths r left lengths' =
    let o = duplexes_as count mode bases a b (lengths_lent lent) in
    (r ≡ number_of o)
    × (lengths' ≡ told (λ (d : Duplexed). part_row (lengths_of d)) o lengths)
    × (left.seq ≡ leaves (λ (d : Duplexed). d.seq) o lent.seq)
    × (left.mm ≡ leaves (λ (d : Duplexed). d.joined.text) o lent.mm)
    × (left.ml ≡ leaves (λ (d : Duplexed). d.joined.ml) o lent.ml)
    × (left.unconverted ≡ leaves (λ (d : Duplexed). d.unconverted) o lent.unconverted)
    × (left.converted ≡ leaves (λ (d : Duplexed). d.converted) o lent.converted)
    × (left.first_mm ≡ leaves (λ (d : Duplexed). d.first.text) o lent.first_mm)
    × (left.first_unconverted ≡ leaves (λ (d : Duplexed). d.first.unconverted) o lent.first_unconverted)
    × (left.first_converted ≡ leaves (λ (d : Duplexed). d.first.converted) o lent.first_converted)
    × (left.second_mm ≡ leaves (λ (d : Duplexed). d.second.text) o lent.second_mm)
    × (left.second_unconverted ≡ leaves (λ (d : Duplexed). d.second.unconverted) o lent.second_unconverted)
    × (left.second_converted ≡ leaves (λ (d : Duplexed). d.second.converted) o lent.second_converted)
