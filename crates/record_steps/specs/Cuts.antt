-- Cutting a record, once SEQ before and SEQ now are in read orientation: the contract of a support function; no promise rests on it.
-- Assumes nothing.
use Rattle.std.specs.Prelude.{ℕ, cond, List, eqb, length, Option, None, Some}
use Rattle.record_fields.specs.Bam.{seq_length}
use Rattle.record_fields.specs.Fields.{Field}
use Rattle.record_tags.specs.Changes.{changed, editing}
use Rattle.record_tags.specs.Records.{cut_edit, or_removal, window_in}

-- the fields afterwards; the start is that of the window
abbrev pub cut_turned : List ℕ → List ℕ → List ℕ → Option ℕ → List Field → List Field
cut_turned bam old new start fs =
    or_removal (window_in start old new) fs (λ lo.
    changed (editing (cut_edit lo old new) (cond (eqb (length old) (seq_length bam)) None (Some (seq_length bam))) fs) fs)
