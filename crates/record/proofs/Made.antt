-- From a contract to the theorems of `record_says`: a call that answered Ok made a record, and that record is the front of the row.
-- Assumes nothing.
use Rattle.std.specs.Prelude.{Ok, Option}
use mathlib.Core.Path.{◌≡◌, ap, sym}
use Prim.Native.Nat.{ℕ}
use mathlib.Core.Bool.{Bool}
use mathlib.Core.List.{List}
use lib.ListN.{length, take}
use Rattle.lent.proofs.Leaves.{front_is_part}
use Rattle.lent.proofs.Outcome.{on_done_inv}
use Rattle.lent.specs.Outcome.{Outcome}
use Rattle.record_tags.specs.Records.{Finished, cut_record, drop_record, mask_record}
use Rattle.record_writing.specs.Answers.{Left, leaves_record, left}
use Rattle.record.specs.PublicContracts.{CutsRecord, DropsRecord, MasksRecord}

-- what a call with the outcome o made that answered Ok with n and w: the record r, which is the front of the row
pub record Made (o : Outcome Finished) (n : ℕ) (w : Bool) (out' : List ℕ) (r : Finished) : Type 0 where
  pub came : o ≡ Ok r
  pub size : n ≡ length r.bytes
  pub went : w ≡ r.went
  pub bytes : take n out' ≡ r.bytes

made : (o : Outcome Finished) (out out' : List ℕ) (n : ℕ) (w : Bool) → left (Ok (n, w)) out' ≡ leaves_record o out → (r : Finished) × Made o n w out' r
unfolding leaves_record
made o out out' n w e =
    let (r, is, said) = on_done_inv (λ (f : Finished). (length f.bytes, f.went)) o (n, w) (sym (ap (λ (x : Left). x.answer) e)) in
    let n-is : n ≡ length r.bytes = sym (ap (λ (s : ℕ × Bool). s.0) said) in (
      r,
      record {
        came = is;
        size = n-is;
        went = sym (ap (λ (s : ℕ × Bool). s.1) said);
        bytes = front_is_part (λ (f : Finished). f.bytes) o r out out' n is (ap (λ (x : Left). x.row) e) n-is;
      },
    )

module _ (bam out out' : List ℕ) (n : ℕ) (w : Bool) where
  pub mask_made : (before : List ℕ) → MasksRecord bam before out (Ok (n, w)) out' → (r : Finished) × Made (mask_record bam before (length out)) n w out' r
  mask_made before = made (mask_record bam before (length out)) out out' n w

  pub drop_made : (places : List ℕ) → DropsRecord bam places out (Ok (n, w)) out' → (r : Finished) × Made (drop_record bam places (length out)) n w out' r
  drop_made places = made (drop_record bam places (length out)) out out' n w

  pub cut_made : (before : List ℕ) (before-reverse : Bool) (start : Option ℕ) → CutsRecord bam before before-reverse start out (Ok (n, w)) out'
      → (r : Finished) × Made (cut_record bam before before-reverse start (length out)) n w out' r
  cut_made before before-reverse start = made (cut_record bam before before-reverse start (length out)) out out' n w
