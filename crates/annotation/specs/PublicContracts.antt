-- The promise of each public call: one proposition per call, about its arguments, its answer and the lent rows after the call. The call's `ensures`
-- cites it, and every theorem about the call uses it.
-- Assumes nothing.
use Rattle.lent.specs.Outcome.{Outcome}
use Rattle.std.specs.Prelude.{◌≡◌, ℕ, Bool, List, ℤ, length, take}
use Rattle.lent.specs.Filled.{leaves}
use Rattle.pattern.specs.declared.ConversionPattern.{ConversionPattern}
use Rattle.columns.specs.Columns.{gated_counts, as_yes, as_tag_counts, restored, informative_column}
use Rattle.refusals.specs.Refusals.{columns_of, restorable, truncated, counts_in_room, annotated}
use Rattle.counting.specs.Reads.{unconverted_column, converted_column, reads_of}

-- `annotate_simplex_methylation`: the consensus' length, the reads' lengths and joined bases, the reference row, the pattern, the aligned bytes and
-- whether every position counts; the three lent columns; the answer, and the columns after the call
abbrev pub Annotates : ℕ → List ℕ → List ℕ → List ℕ → ConversionPattern → List ℕ → Bool → List ℕ → List ℕ → List ℕ
    → Outcome ℕ → List ℕ → List ℕ → List ℕ → Type 0
Annotates n lengths bases row p aligned all? inf unc con r inf' unc' con' =
    let o = annotated n lengths bases aligned (length inf) (length unc) (length con) in
    let reads = reads_of lengths bases aligned in
    (r ≡ o)
    × (inf' ≡ leaves (informative_column p row) o inf)
    × (unc' ≡ leaves (unconverted_column p all? row reads) o unc)
    × (con' ≡ leaves (converted_column p all? row reads) o con)

-- `gate_to_informative`: three lent columns, the answer, and the two columns of counts after the call
abbrev pub Gates : List ℕ → List ℕ → List ℕ → Outcome ℕ → List ℕ → List ℕ → Type 0
Gates inf unc con r unc' con' =
    let o = columns_of (length inf) (length unc) (length con) in
    (r ≡ o) × (unc' ≡ leaves (λ (n : ℕ). gated_counts inf unc) o unc) × (con' ≡ leaves (λ (n : ℕ). gated_counts inf con) o con)

-- `truncate`: how many positions to keep, three columns, three rows for the kept positions; the answer, and those rows after the call
abbrev pub Truncates : ℕ → List ℕ → List ℕ → List ℕ → List ℕ → List ℕ → List ℕ → Outcome ℕ → List ℕ → List ℕ → List ℕ → Type 0
Truncates len inf unc con keptInf keptUnc keptCon r inf' unc' con' =
    let o = truncated len (length inf) (length unc) (length con) (length keptInf) (length keptUnc) (length keptCon) in
    (r ≡ o)
    × (inf' ≡ leaves (λ (k : ℕ). as_yes (take k inf)) o keptInf)
    × (unc' ≡ leaves (λ (k : ℕ). take k unc) o keptUnc)
    × (con' ≡ leaves (λ (k : ℕ). take k con) o keptCon)

-- `unconverted_counts` and `converted_counts`: `column` (the one of the two whose counts are asked for), three columns and the row for the counts;
-- the answer, and that row after the call
abbrev pub GivesCounts : List ℕ → List ℕ → List ℕ → List ℕ → List ℤ → Outcome ℕ → List ℤ → Type 0
GivesCounts column inf unc con counts r counts' =
    let o = counts_in_room (length inf) (length unc) (length con) (length counts) in
    (r ≡ o) × (counts' ≡ leaves (λ (n : ℕ). as_tag_counts column) o counts)

-- `restore_unconverted_bases`: SEQ, the pattern and the informative column; the answer, and SEQ after the call
abbrev pub Restores : List ℕ → ConversionPattern → List ℕ → Outcome ℕ → List ℕ → Type 0
Restores seq p inf r seq' =
    let o = restorable (length seq) (length inf) in
    (r ≡ o) × (seq' ≡ leaves (λ (n : ℕ). restored p inf seq) o seq)
