-- The finished record: contracts of support functions; no promise rests on them.
-- Assumes nothing.
use Rattle.std.specs.Prelude.{ℕ, List, ◌++◌, ltb, length, take}
use Rattle.record_fields.specs.Fields.{Field, joined}
use Rattle.record_tags.specs.Records.{Finished, finished_with}

-- the bytes before the fields stay as they came
abbrev pub finished_from : ℕ → List ℕ → List Field → List Field → Finished
finished_from from bam fs new = finished_with (ltb (length new) (length fs)) (take from bam ++ joined new)
