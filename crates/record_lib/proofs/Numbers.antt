-- The numbers that each export can return: 0, 1, 12, 14 and 15, and 0 exactly when the call is done.
-- Assumes nothing.
use mathlib.Core.Path.{refl}
use Prim.Native.Nat.{ℕ}
use mathlib.Core.List.{List, [], ◌∷◌}
use lib.ListN.{length}
use Rattle.record.proofs.Numbers.{cut_record_only, drop_record_only, mask_record_only}
use Rattle.record_lib.specs.RecordContracts.{CutsRecordInC, DropsRecordInC, MasksRecordInC}
use Rattle.record_tags.specs.Records.{cut_record, drop_record, mask_record}
use Rattle.telling.proofs.Returned.{returned_only}
use Rattle.telling.specs.Returns.{Returns}
use Rattle.telling.specs.Starts.{given_start}
use Rattle.telling.specs.Told.{yes}

pub aql_mask_record_numbers : (bam before out : List ℕ) (n g r : ℕ) (out' : List ℕ) (n' g' : ℕ) → MasksRecordInC bam before out n g r out' n' g'
    → Returns (1 ∷ 12 ∷ 14 ∷ 15 ∷ []) (mask_record bam before (length out)) r
aql_mask_record_numbers bam before out n g r out' n' g' h = returned_only _ _ refl h.0 (mask_record_only bam (length out) before)

pub aql_drop_record_numbers : (bam places out : List ℕ) (n g r : ℕ) (out' : List ℕ) (n' g' : ℕ) → DropsRecordInC bam places out n g r out' n' g'
    → Returns (1 ∷ 12 ∷ 14 ∷ 15 ∷ []) (drop_record bam places (length out)) r
aql_drop_record_numbers bam places out n g r out' n' g' h = returned_only _ _ refl h.0 (drop_record_only bam (length out) places)

pub aql_cut_record_numbers : (bam before : List ℕ) (reverse startKnown start : ℕ) (out : List ℕ) (n g r : ℕ) (out' : List ℕ) (n' g' : ℕ)
    → CutsRecordInC bam before reverse startKnown start out n g r out' n' g'
    → Returns (1 ∷ 12 ∷ 14 ∷ 15 ∷ []) (cut_record bam before (yes reverse) (given_start startKnown start) (length out)) r
aql_cut_record_numbers bam before reverse startKnown start out n g r out' n' g' h =
    returned_only _ _ refl h.0 (cut_record_only bam (length out) before (yes reverse) (given_start startKnown start))
