-- Each export's proposition determines its return value and everything that was lent to it: two outcomes that meet the proposition are equal.
-- Assumes nothing.
use mathlib.Core.Path.{◌≡◌}
use Prim.Native.Nat.{ℕ}
use mathlib.Core.List.{List}
use Rattle.lent.proofs.Filled.{settled}
use Rattle.lent.specs.Outcome.{Outcome}
use Rattle.record_lib.specs.RecordContracts.{CutsRecordInC, DropsRecordInC, MasksRecordInC, WritesRecordInC}
use Rattle.record_tags.specs.Records.{Finished}

module _ (out : List ℕ) (n g r s : ℕ) (out' out'' : List ℕ) (n' n'' g' g'' : ℕ) where
  one_outcome : (o : Outcome Finished) → WritesRecordInC o out n g r out' n' g' → WritesRecordInC o out n g s out'' n'' g''
      → (r ≡ s) × (out' ≡ out'') × (n' ≡ n'') × (g' ≡ g'')
  one_outcome o h k =
      (settled r s h.0 k.0, settled out' out'' h.3 k.3, settled n' n'' h.1 k.1, settled g' g'' h.2 k.2)

  pub aql_mask_record_unique : (bam before : List ℕ) → MasksRecordInC bam before out n g r out' n' g' → MasksRecordInC bam before out n g s out'' n'' g''
      → (r ≡ s) × (out' ≡ out'') × (n' ≡ n'') × (g' ≡ g'')
  aql_mask_record_unique bam before = one_outcome _

  pub aql_drop_record_unique : (bam places : List ℕ) → DropsRecordInC bam places out n g r out' n' g' → DropsRecordInC bam places out n g s out'' n'' g''
      → (r ≡ s) × (out' ≡ out'') × (n' ≡ n'') × (g' ≡ g'')
  aql_drop_record_unique bam places = one_outcome _

  pub aql_cut_record_unique : (bam before : List ℕ) (reverse startKnown start : ℕ) → CutsRecordInC bam before reverse startKnown start out n g r out' n' g'
      → CutsRecordInC bam before reverse startKnown start out n g s out'' n'' g'' → (r ≡ s) × (out' ≡ out'') × (n' ≡ n'') × (g' ≡ g'')
  aql_cut_record_unique bam before reverse startKnown start = one_outcome _
