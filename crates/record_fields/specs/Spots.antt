-- Where the fields are: contracts of support functions; no promise rests on them.
-- Assumes nothing.
use Rattle.std.specs.Prelude.{◌≡◌, ℕ, ◌+◌, ◌≤◌, ◌<◌, List, length, get_or, take, drop}
use Rattle.record_fields.specs.Fields.{Field, first_named}

-- some bytes of a record
abbrev pub part : List ℕ → ℕ → ℕ → List ℕ
part bam at size = take size (drop at bam)

-- for each name, where its first field begins and how many bytes it takes, 0 if there is none
abbrev pub Spots : List ℕ → List Field → List ℕ → List ℕ → Type 0
Spots bam fs ats sizes =
    (k : ℕ) → k < 6 → (part bam (get_or ats k 0) (get_or sizes k 0) ≡ first_named k fs) × (get_or ats k 0 + get_or sizes k 0 ≤ length bam)
