-- The counting as the code does it, read by read over the columns. proofs/Counted.antt proves that the result is the one of Reads.antt.
-- Assumes nothing.
use Rattle.std.specs.Prelude.{ℕ, Bool, cond, ◌&&◌, ◌||◌, List, [], ◌∷◌, length, get_or, eqb}
use Rattle.lent.specs.Lists.{tabulate}
use Rattle.pattern.specs.Case.{upper}
use Rattle.pattern.specs.declared.ConversionPattern.{ConversionPattern}
use Rattle.evidence.specs.Position.{counted_if, counted}
use Rattle.columns.specs.Columns.{is_yes}
use Rattle.counting.specs.Reads.{Read, counts_at}
use Rattle.evidence.specs.declared.MethylationEvidence.{MethylationEvidence}

-- a base that a read shows at a position counts if all positions count, or if the position is informative and the base is aligned
abbrev pub counts_there : Bool → ℕ → ℕ → Bool
counts_there all? informative aligned = all? || (is_yes informative && is_yes aligned)

-- the evidence of a position after one read's base there: with the base counted, if it counts
abbrev pub counted_there : Bool → ℕ → ℕ → ℕ → ℕ → ℕ → ConversionPattern → MethylationEvidence
counted_there all? informative unconverted converted base aligned p =
    let e : MethylationEvidence = record { informative = is_yes informative; unconverted = unconverted; converted = converted } in
    cond (counts_there all? informative aligned) (counted e base p) e

-- the count of a base at position i after one more read
unfoldable pub count_after : ℕ → Bool → List ℕ → Read → ℕ → ℕ → ℕ
count_after base all? informative r i n =
    counted_if (counts_at all? (is_yes (get_or informative i 0)) i r && eqb (upper (get_or r.bases i 0)) base) n

-- a column of counts after one more read, and after all reads
abbrev pub add_read : ℕ → Bool → List ℕ → Read → List ℕ → List ℕ
add_read base all? informative r counts = tabulate (length counts) (λ i. count_after base all? informative r i (get_or counts i 0))

unfoldable pub add_reads : ℕ → Bool → List ℕ → List Read → List ℕ → List ℕ
add_reads base all? informative [] counts = counts
add_reads base all? informative (r ∷ rs) counts = add_reads base all? informative rs (add_read base all? informative r counts)
