-- The numbers that each public call can answer: no other number, each of them for some input, and 0 exactly when the call is done.
-- Assumes nothing.
use Rattle.std.specs.Prelude.{Ok, Err, Option, None}
use mathlib.Core.Path.{◌∙◌, ◌≡◌, ap, refl, subst, sym}
use Prim.Native.Nat.{ℕ}
use mathlib.Core.Bool.{Bool, false, true}
use mathlib.Core.List.{List, [], ◌∷◌, ◌++◌}
use lib.Dec.{leb}
use lib.ListN.{drop, length, replicate}
use Rattle.lent.proofs.Answers.{answers, only_and_then, only_need, only_on_done}
use Rattle.lent.specs.Answers.{Answers, is_done, refuses_only}
use Rattle.lent.specs.Lists.{among}
use Rattle.lent.specs.Outcome.{Outcome, need, number_of, on_done, refuse}
use Rattle.record_fields.proofs.FieldsLaws.{only_15}
use Rattle.record_fields.specs.Bam.{head_size, is_reverse, is_whole, packed_seq, seq_length}
use Rattle.record_fields.specs.Fields.{Field, fields}
use Rattle.record_tags.specs.Records.{Finished, cut_fields, cut_record, drop_fields, drop_record, finished, in_domain, in_room, mask_fields, mask_record, remade}
use Rattle.record_writing.specs.Answers.{Left, leaves_record, left}
use Rattle.record.specs.PublicContracts.{CutsRecord, DropsRecord, MasksRecord}

abbrev pub record_numbers : List ℕ
record_numbers = 1 ∷ 12 ∷ 14 ∷ 15 ∷ []

-- fields that do not parse are refused with 15
fields_only : (ns bytes : List ℕ) → among ns 15 ≡ true → refuses_only ns (fields bytes) ≡ true
fields_only ns bytes h = told (fields bytes) (only_15 bytes)
  where
    told : (o : Outcome (List Field)) → (is_done o ≡ false → o ≡ refuse 15) → refuses_only ns o ≡ true
    told (Err r) e = ap (refuses_only ns) (e refl) ∙ h
    told (Ok fs) e = refl

-- whatever the new fields are
remade_only : (bam : List ℕ) (k room : ℕ) (new : List Field → List Field) → refuses_only record_numbers (remade bam k room new) ≡ true
unfolding remade
remade_only bam k room new =
    only_need record_numbers (is_whole bam) 14 _ refl
    (only_and_then record_numbers (fields (drop (head_size bam) bam)) (λ fs. need (in_domain (seq_length bam) k fs) 1 (in_room room (finished bam fs (new fs))))
    (fields_only record_numbers (drop (head_size bam) bam) refl)
    (λ fs.
    only_need record_numbers (in_domain (seq_length bam) k fs) 1 _ refl
    (only_need record_numbers (leb (length (finished bam fs (new fs)).bytes) room) 12 (Ok (finished bam fs (new fs))) refl refl)))

module _ (bam : List ℕ) (room : ℕ) where
  pub mask_record_only : (before : List ℕ) → refuses_only record_numbers (mask_record bam before room) ≡ true
  unfolding mask_record
  mask_record_only before = remade_only bam (length before) room (mask_fields (is_reverse bam) (seq_length bam) (packed_seq bam) before)

  pub drop_record_only : (places : List ℕ) → refuses_only record_numbers (drop_record bam places room) ≡ true
  unfolding drop_record
  drop_record_only places = remade_only bam 0 room (drop_fields (is_reverse bam) (seq_length bam) (packed_seq bam) places)

  pub cut_record_only : (before : List ℕ) (before-reverse : Bool) (start : Option ℕ)
      → refuses_only record_numbers (cut_record bam before before-reverse start room) ≡ true
  unfolding cut_record
  cut_record_only before before-reverse start =
      remade_only bam (length before) room (cut_fields (is_reverse bam) (seq_length bam) (packed_seq bam) before before-reverse start)

module _ (bam out : List ℕ) (r : Outcome (ℕ × Bool)) (out' : List ℕ) where
  answers_as : (o : Outcome Finished) → refuses_only record_numbers o ≡ true → left r out' ≡ leaves_record o out
      → Answers record_numbers r
  unfolding leaves_record
  answers_as o only e =
      let told : Finished → ℕ × Bool = λ f. (length f.bytes, f.went) in
      let says : r ≡ on_done told o = ap (λ (x : Left). x.answer) e in
      subst (Answers record_numbers) (sym says) (answers record_numbers (on_done told o) refl (only_on_done record_numbers told o only))

  pub mask_record_numbers : (before : List ℕ) → MasksRecord bam before out r out' → Answers (1 ∷ 12 ∷ 14 ∷ 15 ∷ []) r
  mask_record_numbers before = answers_as _ (mask_record_only bam (length out) before)

  pub drop_record_numbers : (places : List ℕ) → DropsRecord bam places out r out' → Answers (1 ∷ 12 ∷ 14 ∷ 15 ∷ []) r
  drop_record_numbers places = answers_as _ (drop_record_only bam (length out) places)

  pub cut_record_numbers : (before : List ℕ) (before-reverse : Bool) (start : Option ℕ) → CutsRecord bam before before-reverse start out r out'
      → Answers (1 ∷ 12 ∷ 14 ∷ 15 ∷ []) r
  cut_record_numbers before before-reverse start = answers_as _ (cut_record_only bam (length out) before before-reverse start)

-- ---- the set is not too large: worked records, whose numbers are 0 and then each of the set in order

-- a head of zeros, and no field
abbrev plain : List ℕ
plain = replicate 32 0

-- 16,001 bases
abbrev long : List ℕ
long = replicate 16 0 ++ 129 ∷ 62 ∷ replicate 24016 0

-- the number of a call that lends a row of n bytes
abbrev lending : ℕ → (ℕ → Outcome Finished) → ℕ
lending n o = let row : List ℕ = replicate n 0 in number_of (leaves_record (o (length row)) row).answer

abbrev each : (List ℕ → ℕ → Outcome Finished) → List ℕ
each o =
    lending 32 (o plain)
    ∷ lending 32 (o long)
    ∷ lending 31 (o plain)
    ∷ lending 32 (o (replicate 31 0))
    ∷ lending 32 (o (plain ++ 0 ∷ []))
    ∷ []

pub mask_record_each_number : each (λ bam. mask_record bam []) ≡ 0 ∷ 1 ∷ 12 ∷ 14 ∷ 15 ∷ []
unfolding leaves_record mask_record
mask_record_each_number = refl

pub drop_record_each_number : each (λ bam. drop_record bam []) ≡ 0 ∷ 1 ∷ 12 ∷ 14 ∷ 15 ∷ []
unfolding leaves_record drop_record
drop_record_each_number = refl

pub cut_record_each_number : each (λ bam. cut_record bam [] false None) ≡ 0 ∷ 1 ∷ 12 ∷ 14 ∷ 15 ∷ []
unfolding leaves_record cut_record
cut_record_each_number = refl
