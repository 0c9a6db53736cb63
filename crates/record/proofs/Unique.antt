-- Each public call's contract determines its outcome, the answer and every byte of the lent row: two outcomes that meet the contract are equal.
-- Assumes nothing.
use Rattle.std.specs.Prelude.{Option}
use Rattle.lent.specs.Outcome.{Outcome}
use mathlib.Core.Path.{◌≡◌, ap}
use Prim.Native.Nat.{ℕ}
use mathlib.Core.Bool.{Bool}
use mathlib.Core.List.{List}
use Rattle.lent.proofs.Filled.{settled}
use Rattle.record_writing.specs.Answers.{Left, left}
use Rattle.record.specs.PublicContracts.{CutsRecord, DropsRecord, MasksRecord}

-- whatever the call leaves
pub left_unique : (o : Left) (r s : Outcome (ℕ × Bool)) (t u : List ℕ) → left r t ≡ o → left s u ≡ o → (r ≡ s) × (t ≡ u)
left_unique o r s t u p q =
    let same = settled (left r t) (left s u) p q in
    (ap (λ (x : Left). x.answer) same, ap (λ (x : Left). x.row) same)

module _ (bam out : List ℕ) (r s : Outcome (ℕ × Bool)) (t u : List ℕ) where
  pub mask_record_unique : (before : List ℕ) → MasksRecord bam before out r t → MasksRecord bam before out s u → (r ≡ s) × (t ≡ u)
  mask_record_unique before = left_unique _ r s t u

  pub drop_record_unique : (places : List ℕ) → DropsRecord bam places out r t → DropsRecord bam places out s u → (r ≡ s) × (t ≡ u)
  drop_record_unique places = left_unique _ r s t u

  pub cut_record_unique : (before : List ℕ) (before-reverse : Bool) (start : Option ℕ) → CutsRecord bam before before-reverse start out r t
      → CutsRecord bam before before-reverse start out s u → (r ≡ s) × (t ≡ u)
  cut_record_unique before before-reverse start = left_unique _ r s t u
