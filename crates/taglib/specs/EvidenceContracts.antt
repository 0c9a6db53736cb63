-- What each export over evidence promises to a C program: one proposition per export, about its arguments, the returned number, and the lent rows
-- and numbers after the call. The export's `ensures` cites it, and every theorem about the export uses it.
-- Assumes nothing.
use Rattle.std.specs.Prelude.{◌≡◌, ℕ, false, List, ℤ, length, take}
use Rattle.lent.specs.Outcome.{number_of}
use Rattle.lent.specs.Filled.{leaves}
use Rattle.pattern.specs.Patterns.{pattern_of}
use Rattle.evidence.specs.Position.{fresh, counted, gated}
use Rattle.counting.specs.Reads.{reads_of, unconverted_column, converted_column}
use Rattle.columns.specs.Columns.{yes_byte, informative_column, gated_counts, as_yes, as_tag_counts, restored}
use Rattle.refusals.specs.Refusals.{annotated, columns_of, restorable, truncated, counts_in_room}
use Rattle.telling.specs.Told.{told, yes}
use Rattle.taglib.specs.Evidences.{position}

-- ---- the evidence of one position

-- `aql_evidence_new`: whether the position is informative; the same returned as 1 or 0, and the two counts
abbrev pub StartsEvidenceInC : ℕ → ℕ → ℕ → ℕ → Type 0
StartsEvidenceInC informative r unconverted' converted' =
    let e = fresh (yes informative) in
    (r ≡ yes_byte e.informative) × (unconverted' ≡ e.unconverted) × (converted' ≡ e.converted)

-- `aql_evidence_counted`: a read's base and flags, and the two counts before and after. Whether the position is informative does not matter.
abbrev pub CountsBaseInC : ℕ → ℕ → ℕ → ℕ → ℕ → ℕ → Type 0
CountsBaseInC base flags unconverted converted unconverted' converted' =
    let e = counted (position false unconverted converted) base (pattern_of flags) in
    (unconverted' ≡ e.unconverted) × (converted' ≡ e.converted)

-- `aql_evidence_gated`: whether the position is informative, and the two counts before and after
abbrev pub GatesPositionInC : ℕ → ℕ → ℕ → ℕ → ℕ → Type 0
GatesPositionInC informative unconverted converted unconverted' converted' =
    let e = gated (position (yes informative) unconverted converted) in
    (unconverted' ≡ e.unconverted) × (converted' ≡ e.converted)

-- ---- the evidence of a consensus, in three columns

-- `aql_annotate_simplex_methylation`: the consensus' length, the reads' lengths and joined bases, the reference row, the flags, the aligned bytes and
-- whether every position counts; the three lent columns and the lent number; the returned number; columns and number after the call
abbrev pub AnnotatesInC : ℕ → List ℕ → List ℕ → List ℕ → ℕ → List ℕ → ℕ → List ℕ → List ℕ → List ℕ → ℕ
    → ℕ → List ℕ → List ℕ → List ℕ → ℕ → Type 0
AnnotatesInC len lengths bases row flags aligned all? inf unc con n r inf' unc' con' n' =
    let o = annotated len lengths bases aligned (length inf) (length unc) (length con) in
    let reads = reads_of lengths bases aligned in
    let p = pattern_of flags in
    let all = yes all? in
    (r ≡ number_of o)
    × (n' ≡ told (λ (m : ℕ). m) o n)
    × (inf' ≡ leaves (informative_column p row) o inf)
    × (unc' ≡ leaves (unconverted_column p all row reads) o unc)
    × (con' ≡ leaves (converted_column p all row reads) o con)

-- `aql_gate_to_informative`: three lent columns and the lent number; the returned number; the columns of counts and the number after the call
abbrev pub GatesInC : List ℕ → List ℕ → List ℕ → ℕ → ℕ → List ℕ → List ℕ → ℕ → Type 0
GatesInC inf unc con n r unc' con' n' =
    let o = columns_of (length inf) (length unc) (length con) in
    (r ≡ number_of o)
    × (n' ≡ told (λ (m : ℕ). m) o n)
    × (unc' ≡ leaves (λ (m : ℕ). gated_counts inf unc) o unc)
    × (con' ≡ leaves (λ (m : ℕ). gated_counts inf con) o con)

-- `aql_truncate`: how many positions to keep, three columns, three rows for the kept positions and the lent number; the returned number; those rows
-- and the number after the call
abbrev pub TruncatesInC : ℕ → List ℕ → List ℕ → List ℕ → List ℕ → List ℕ → List ℕ → ℕ → ℕ → List ℕ → List ℕ → List ℕ → ℕ → Type 0
TruncatesInC len inf unc con keptInf keptUnc keptCon n r inf' unc' con' n' =
    let o = truncated len (length inf) (length unc) (length con) (length keptInf) (length keptUnc) (length keptCon) in
    (r ≡ number_of o)
    × (n' ≡ told (λ (m : ℕ). m) o n)
    × (inf' ≡ leaves (λ (k : ℕ). as_yes (take k inf)) o keptInf)
    × (unc' ≡ leaves (λ (k : ℕ). take k unc) o keptUnc)
    × (con' ≡ leaves (λ (k : ℕ). take k con) o keptCon)

-- `aql_unconverted_counts` and `aql_converted_counts`: `column` (the one of the two whose counts are asked for), three columns, the row for the
-- counts and the lent number; the returned number; that row and the number after the call
abbrev pub GivesCountsInC : List ℕ → List ℕ → List ℕ → List ℕ → List ℤ → ℕ → ℕ → List ℤ → ℕ → Type 0
GivesCountsInC column inf unc con counts n r counts' n' =
    let o = counts_in_room (length inf) (length unc) (length con) (length counts) in
    (r ≡ number_of o) × (n' ≡ told (λ (m : ℕ). m) o n) × (counts' ≡ leaves (λ (m : ℕ). as_tag_counts column) o counts)

-- `aql_restore_unconverted_bases`: SEQ, the flags, the informative column and the lent number; the returned number; SEQ and the number after the call
abbrev pub RestoresInC : List ℕ → ℕ → List ℕ → ℕ → ℕ → List ℕ → ℕ → Type 0
RestoresInC seq flags inf n r seq' n' =
    let o = restorable (length seq) (length inf) in
    (r ≡ number_of o) × (n' ≡ told (λ (m : ℕ). m) o n) × (seq' ≡ leaves (λ (m : ℕ). restored (pattern_of flags) inf seq) o seq)
