-- The promise of each public call: one proposition per call, about its arguments, its answer and the lent row after the call. The call's `ensures`
-- cites it, and every theorem about the call uses it.
-- Assumes nothing.
use Rattle.std.specs.Prelude.{◌≡◌, ℕ, Bool, List, ℤ, length}
use Rattle.lent.specs.Outcome.{Outcome, on_done}
use Rattle.lent.specs.Filled.{leaves}
use Rattle.cigar.specs.Cigar.{query_places}
use Rattle.alignment.specs.Reference.{is_cpg, fetched_bases}

-- an answer and a row after a call with the outcome `o`: Ok with the number of entries at the row's front, or Err with the row unchanged
abbrev pub Fills : {A : Type 0} → Outcome (List A) → List A → Outcome ℕ → List A → Type 0
Fills o row r row' = (r ≡ on_done length o) × (row' ≡ leaves (λ l. l) o row)

-- `query_to_ref_positions`: BAM words, the alignment's start, whether the read is reverse, and the row for the places
abbrev pub FindsPlaces : List ℕ → ℤ → Bool → List ℤ → Outcome ℕ → List ℤ → Type 0
FindsPlaces cigar start reversed row r row' = Fills (query_places cigar start reversed (length row)) row r row'

-- `is_cpg_context`: a reference, a place, whether the strand is the top one, and the answer: whether the place is in a CpG
abbrev pub TellsCpg : List ℕ → ℕ → Bool → Bool → Type 0
TellsCpg reference place top r = r ≡ is_cpg reference place top

-- `fetch_ref_bases_at_positions`: places, a reference, and the row for the bases
abbrev pub FetchesBases : List ℤ → List ℕ → List ℕ → Outcome ℕ → List ℕ → Type 0
FetchesBases places reference row r row' = Fills (fetched_bases places reference (length row)) row r row'
