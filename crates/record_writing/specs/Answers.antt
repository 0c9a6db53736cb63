-- The answer of a call on a record, and the row lent for the new record after the call.
-- Assumes nothing.
use Rattle.std.specs.Prelude.{ℕ, Bool, List, length}
use Rattle.lent.specs.Filled.{leaves}
use Rattle.lent.specs.Outcome.{Outcome, on_done}
use Rattle.record_tags.specs.Records.{Finished}

-- the answer of a call, and the row after it
pub record Left : Type 0 where
  pub answer : Outcome (ℕ × Bool)
  pub row : List ℕ

abbrev pub left : Outcome (ℕ × Bool) → List ℕ → Left
left answer row = record { answer = answer; row = row }

-- a call with the outcome o: the new record at the front of the row and the rest unchanged, or the row unchanged
unfoldable pub leaves_record : Outcome Finished → List ℕ → Left
unfolding leaves
leaves_record o row = left (on_done (λ (r : Finished). (length r.bytes, r.went)) o) (leaves (λ (r : Finished). r.bytes) o row)
