-- The promise of each public call: one proposition per call, about its answer and every byte of the lent row, for all inputs. The call's `ensures` cites
-- it, and every theorem about the call uses it. `bam` is the record, `out` the row lent for the new one, and `out'` this row after the call.
-- Assumes nothing.
use Rattle.lent.specs.Outcome.{Outcome}
use Rattle.std.specs.Prelude.{◌≡◌, ℕ, Bool, List, length, Option}
use Rattle.record_tags.specs.Records.{cut_record, drop_record, mask_record}
use Rattle.record_writing.specs.Answers.{leaves_record, left}

-- `mask_record`: SEQ was masked; `before` are its letters as they were stored before
abbrev pub MasksRecord : List ℕ → List ℕ → List ℕ → Outcome (ℕ × Bool) → List ℕ → Type 0
MasksRecord bam before out r out' = left r out' ≡ leaves_record (mask_record bam before (length out)) out

-- `drop_record`: the calls at places of the stored read are dropped
abbrev pub DropsRecord : List ℕ → List ℕ → List ℕ → Outcome (ℕ × Bool) → List ℕ → Type 0
DropsRecord bam places out r out' = left r out' ≡ leaves_record (drop_record bam places (length out)) out

-- `cut_record`: SEQ was cut; `before` are its letters as they were stored before, reverse or not, and `start` is where SEQ begins in them
abbrev pub CutsRecord : List ℕ → List ℕ → Bool → Option ℕ → List ℕ → Outcome (ℕ × Bool) → List ℕ → Type 0
CutsRecord bam before before-reverse start out r out' =
    left r out' ≡ leaves_record (cut_record bam before before-reverse start (length out)) out
