-- What each export over an alignment and a reference promises to a C program: one proposition per export, about its arguments, the returned number,
-- and the lent rows and numbers after the call. The export's `ensures` cites it, and every theorem about the export uses it.
-- Assumes nothing.
use Rattle.std.specs.Prelude.{◌≡◌, ℕ, List, ℤ, length}
use Rattle.lent.specs.Outcome.{Outcome, number_of}
use Rattle.lent.specs.Filled.{leaves}
use Rattle.cigar.specs.Cigar.{query_places}
use Rattle.columns.specs.Columns.{yes_byte}
use Rattle.alignment.specs.Reference.{is_cpg, fetched_bases}
use Rattle.telling.specs.Told.{told, yes}

-- A call with the outcome o fills a row and passes on the number of its entries. It returns 0, with the entries at the row's front and their number
-- in n; or it returns o's number, with row and n unchanged.
abbrev pub FillsInC : {A : Type 0} → Outcome (List A) → List A → ℕ → ℕ → List A → ℕ → Type 0
FillsInC {A} o row n r row' n' = (r ≡ number_of o) × (n' ≡ told length o n) × (row' ≡ leaves (λ (l : List A). l) o row)

-- `aql_query_to_ref_positions`: BAM words, the alignment's start, whether the read is reverse, the row for the places and the number for their count
abbrev pub FindsPlacesInC : List ℕ → ℤ → ℕ → List ℤ → ℕ → ℕ → List ℤ → ℕ → Type 0
FindsPlacesInC cigar start is_reverse positions n r positions' n' =
    FillsInC (query_places cigar start (yes is_reverse) (length positions)) positions n r positions' n'

-- `aql_is_cpg_context`: a reference, a place, whether the strand is the top one, and the answer: 1 if the place is in a CpG, else 0
abbrev pub TellsCpgInC : List ℕ → ℕ → ℕ → ℕ → Type 0
TellsCpgInC reference pos isTopStrand r = r ≡ yes_byte (is_cpg reference pos (yes isTopStrand))

-- `aql_fetch_ref_bases_at_positions`: places, a reference, the row for the bases and the number for their count
abbrev pub FetchesBasesInC : List ℤ → List ℕ → List ℕ → ℕ → ℕ → List ℕ → ℕ → Type 0
FetchesBasesInC positions reference bases n r bases' n' =
    FillsInC (fetched_bases positions reference (length bases)) bases n r bases' n'
