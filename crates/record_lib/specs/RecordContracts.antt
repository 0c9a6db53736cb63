-- What each export promises to a C program: one proposition per export, about its arguments, the returned number, and the lent row and numbers after the
-- call. The export's `ensures` cites it, and every theorem about the export uses it.
-- Assumes nothing.
use Rattle.std.specs.Prelude.{◌≡◌, ℕ, Bool, cond, List, length}
use Rattle.lent.specs.Filled.{leaves}
use Rattle.lent.specs.Outcome.{Outcome, number_of}
use Rattle.record_tags.specs.Records.{Finished, cut_record, drop_record, mask_record}
use Rattle.telling.specs.Starts.{given_start}
use Rattle.telling.specs.Told.{told, yes}

-- 1 is yes, 0 is no
abbrev pub as_number : Bool → ℕ
as_number b = cond b 1 0

-- A call with the outcome o writes a record into a row. It returns 0, with the record at the row's front, its length in n and in g whether a field went; or
-- o's number, with row and numbers unchanged.
abbrev pub WritesRecordInC : Outcome Finished → List ℕ → ℕ → ℕ → ℕ → List ℕ → ℕ → ℕ → Type 0
WritesRecordInC o out n g r out' n' g' =
    (r ≡ number_of o)
    × (n' ≡ told (λ (f : Finished). length f.bytes) o n)
    × (g' ≡ told (λ (f : Finished). as_number f.went) o g)
    × (out' ≡ leaves (λ (f : Finished). f.bytes) o out)

-- `aql_mask_record`: the record and SEQ before; the lent row and numbers; the returned number; row and numbers after the call
abbrev pub MasksRecordInC : List ℕ → List ℕ → List ℕ → ℕ → ℕ → ℕ → List ℕ → ℕ → ℕ → Type 0
MasksRecordInC bam before out n g r out' n' g' = WritesRecordInC (mask_record bam before (length out)) out n g r out' n' g'

-- `aql_drop_record`: the record and the places; the rest as above
abbrev pub DropsRecordInC : List ℕ → List ℕ → List ℕ → ℕ → ℕ → ℕ → List ℕ → ℕ → ℕ → Type 0
DropsRecordInC bam places out n g r out' n' g' = WritesRecordInC (drop_record bam places (length out)) out n g r out' n' g'

-- `aql_cut_record`: the record and SEQ before, whether it was reverse, whether the start is known and where it is; the rest as above
abbrev pub CutsRecordInC : List ℕ → List ℕ → ℕ → ℕ → ℕ → List ℕ → ℕ → ℕ → ℕ → List ℕ → ℕ → ℕ → Type 0
CutsRecordInC bam before reverse startKnown start out n g r out' n' g' =
    WritesRecordInC (cut_record bam before (yes reverse) (given_start startKnown start) (length out)) out n g r out' n' g'
