-- An export that returns a number other than 0 has written nothing: the row and the numbers that were lent to it are unchanged.
-- Assumes nothing.
use mathlib.Core.Path.{◌≡◌}
use Prim.Native.Nat.{ℕ}
use mathlib.Core.Bool.{false}
use mathlib.Core.List.{List}
use lib.Dec.{eqb}
use lib.ListN.{length}
use Rattle.lent.proofs.Answers.{row_kept}
use Rattle.lent.specs.Outcome.{Outcome}
use Rattle.record_lib.specs.RecordContracts.{CutsRecordInC, DropsRecordInC, MasksRecordInC, WritesRecordInC}
use Rattle.record_tags.specs.Records.{Finished, cut_record, drop_record, mask_record}
use Rattle.telling.proofs.Returned.{not_returned, told_kept}
use Rattle.telling.specs.Starts.{given_start}
use Rattle.telling.specs.Told.{yes}

module _ (out : List ℕ) (n g r : ℕ) (out' : List ℕ) (n' g' : ℕ) (z : eqb r 0 ≡ false) where
  unwritten : (o : Outcome Finished) → WritesRecordInC o out n g r out' n' g' → (out' ≡ out) × (n' ≡ n) × (g' ≡ g)
  unwritten o h =
      let d = not_returned o h.0 z in
      (row_kept _ o out out' h.3 d, told_kept _ o n n' h.1 d, told_kept _ o g g' h.2 d)

  pub aql_mask_record_refused : (bam before : List ℕ) → MasksRecordInC bam before out n g r out' n' g' → (out' ≡ out) × (n' ≡ n) × (g' ≡ g)
  aql_mask_record_refused bam before = unwritten (mask_record bam before (length out))

  pub aql_drop_record_refused : (bam places : List ℕ) → DropsRecordInC bam places out n g r out' n' g' → (out' ≡ out) × (n' ≡ n) × (g' ≡ g)
  aql_drop_record_refused bam places = unwritten (drop_record bam places (length out))

  pub aql_cut_record_refused : (bam before : List ℕ) (reverse startKnown start : ℕ) → CutsRecordInC bam before reverse startKnown start out n g r out' n' g'
      → (out' ≡ out) × (n' ≡ n) × (g' ≡ g)
  aql_cut_record_refused bam before reverse startKnown start = unwritten (cut_record bam before (yes reverse) (given_start startKnown start) (length out))
