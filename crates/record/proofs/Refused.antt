-- A call that answers a number other than 0 has written nothing.
-- Assumes nothing.
use Rattle.std.specs.Prelude.{Option}
use mathlib.Core.Path.{◌≡◌, ap}
use Prim.Native.Nat.{ℕ}
use mathlib.Core.Bool.{Bool, false}
use mathlib.Core.List.{List}
use lib.ListN.{length}
use Rattle.lent.proofs.Answers.{not_done, row_kept}
use Rattle.lent.specs.Answers.{is_done}
use Rattle.lent.specs.Outcome.{Outcome}
use Rattle.record_tags.specs.Records.{Finished}
use Rattle.record_writing.specs.Answers.{Left, leaves_record, left}
use Rattle.record.specs.PublicContracts.{CutsRecord, DropsRecord, MasksRecord}

module _ (bam out : List ℕ) (r : Outcome (ℕ × Bool)) (out' : List ℕ) where
  kept : (o : Outcome Finished) → left r out' ≡ leaves_record o out → is_done r ≡ false → out' ≡ out
  unfolding leaves_record
  kept o e d =
      row_kept (λ (f : Finished). f.bytes) o out out' (ap (λ (x : Left). x.row) e)
      (not_done (λ (f : Finished). (length f.bytes, f.went)) o r (ap (λ (x : Left). x.answer) e) d)

  pub mask_record_refused : (before : List ℕ) → MasksRecord bam before out r out' → is_done r ≡ false → out' ≡ out
  mask_record_refused before = kept _

  pub drop_record_refused : (places : List ℕ) → DropsRecord bam places out r out' → is_done r ≡ false → out' ≡ out
  drop_record_refused places = kept _

  pub cut_record_refused : (before : List ℕ) (before-reverse : Bool) (start : Option ℕ) → CutsRecord bam before before-reverse start out r out'
      → is_done r ≡ false → out' ≡ out
  cut_record_refused before before-reverse start = kept _
