-- What the proofs of the three calls share: a refusal, the tests of an opened record, and the rows that are long enough.
-- Assumes nothing.
use Rattle.std.specs.Prelude.{Ok, Err, Option}
use mathlib.Core.Path.{◌≡◌, refl, sym, ap, ◌∙◌}
use Prim.Native.Nat.{ℕ, ◌+◌, ◌≤◌}
use native.Mathlib.Omega.{arith}
use mathlib.Core.Bool.{Bool, true, ◌&&◌}
use mathlib.Core.List.{List, [], ◌∷◌}
use lib.Dec.{eqb, leb}
use lib.ListN.{length, get_or, drop}
use borrow.Author.Tests.{leb-true, ne_eqb}
use Rattle.lent.proofs.Tests.{and_true_l, and_true_r}
use Rattle.lent.specs.Filled.{leaves}
use Rattle.lent.specs.Lists.{is_empty}
use Rattle.lent.specs.Outcome.{Outcome}
use Rattle.lent.specs.declared.Refusal.{Refusal}
use Rattle.record_fates.proofs.FateLaws.{opened_inside}
use Rattle.record_fates.proofs.OpeningLaws.{spots_sound}
use Rattle.record_fates.specs.Fates.{OpenedAs, is_sound}
use Rattle.record_fields.specs.Bam.{head_size, is_reverse, packed_seq, seq_length}
use Rattle.record_fields.specs.Fields.{Field, MN, fields_of, first_named}
use Rattle.record_fields.specs.Spots.{part}
use Rattle.record_fields.specs.declared.Head.{Head}
use Rattle.record_tags.specs.Records.{Finished, cut_fields, cut_record, drop_fields, drop_record, mask_fields, mask_record, remade}
use Rattle.record_tags.specs.Values.{disagrees}
use Rattle.record_writing.specs.Answers.{leaves_record, left}

-- ---- a refusal

pub left_alone : (o : Outcome Finished) (out : List ℕ) (r : Refusal) → o ≡ Err r → left (Err r) out ≡ leaves_record o out
unfolding leaves_record leaves
left_alone o out r e = rw e

module _ (bam : List ℕ) (k room : ℕ) (r : Refusal) (h : (room : ℕ) (new : List Field → List Field) → remade bam k room new ≡ Err r) where
  pub mask_refused : (before : List ℕ) → k ≡ length before → mask_record bam before room ≡ Err r
  unfolding mask_record
  mask_refused before e = ap (λ (j : ℕ). remade bam j room (mask_fields (is_reverse bam) (seq_length bam) (packed_seq bam) before)) (sym e) ∙ h room (mask_fields (is_reverse bam) (seq_length bam) (packed_seq bam) before)

  pub drop_refused : (places : List ℕ) → k ≡ 0 → drop_record bam places room ≡ Err r
  unfolding drop_record
  drop_refused places e = ap (λ (j : ℕ). remade bam j room (drop_fields (is_reverse bam) (seq_length bam) (packed_seq bam) places)) (sym e) ∙ h room (drop_fields (is_reverse bam) (seq_length bam) (packed_seq bam) places)

  pub cut_refused : (before : List ℕ) (before-reverse : Bool) (start : Option ℕ) → k ≡ length before → cut_record bam before before-reverse start room ≡ Err r
  unfolding cut_record
  cut_refused before before-reverse start e = ap (λ (j : ℕ). remade bam j room (cut_fields (is_reverse bam) (seq_length bam) (packed_seq bam) before before-reverse start)) (sym e) ∙ h room (cut_fields (is_reverse bam) (seq_length bam) (packed_seq bam) before before-reverse start)

-- ---- an opened record

module _ (bam : List ℕ) (k : ℕ) (ats sizes : List ℕ) (h : Head) (o : OpenedAs bam k ats sizes (Ok h)) where
  abbrev fs : List Field
  fs = fields_of (drop (head_size bam) bam)

  pub stale_needs : (get_or ats 2 0 + get_or sizes 2 0 ≤ length bam) × (is_sound (part bam (get_or ats 2 0) (get_or sizes 2 0)) ≡ true)
  stale_needs = spots_sound bam (head_size bam) ats sizes o.2 o.3 2 (omega arith)

  -- the test of MN, in terms of the definition
  pub stale_is : (t : Bool) (m n : ℕ) → m ≡ n → t ≡ disagrees m (part bam (get_or ats 2 0) (get_or sizes 2 0)) → t ≡ disagrees n (first_named MN fs)
  stale_is t m n e q = q ∙ (λ j. disagrees (e j) ((o.3 2 (omega arith)).0 j))

  pub bases_short : seq_length bam ≤ 16000
  bases_short = (opened_inside bam k ats sizes h o).bases_fit

  pub letters_short : k ≤ 16000
  letters_short = (opened_inside bam k ats sizes h o).letters_fit

  -- the rows are long enough
  pub few_fit : (b : Bool) → b ≡ (leb h.bases 1024 && leb k 1024) → b ≡ true → (seq_length bam ≤ 1024) × (k ≤ 1024)
  few_fit b e t =
      let both = sym e ∙ t in
      let n = leb-true h.bases 1024 (and_true_l (leb h.bases 1024) (leb k 1024) both) in
      let is = o.1.1 in
      (omega (arith, n, is), leb-true k 1024 (and_true_r (leb h.bases 1024) (leb k 1024) both))

  pub bases_few : h.bases ≤ 1024 → seq_length bam ≤ 1024
  bases_few l = let is = o.1.1 in omega (arith, l, is)

pub empty_is : (l : List ℕ) → is_empty l ≡ eqb (length l) 0
empty_is [] = refl
empty_is (x ∷ xs) = sym (ne_eqb (length (x ∷ xs)) 0 (λ e. omega (arith, e)))

pub nothing_is : (before : List ℕ) (t : Bool) (m n : ℕ) → m ≡ n → t ≡ (eqb (length before) 0 && eqb m 0) → t ≡ (is_empty before && eqb n 0)
nothing_is before t m n e q = q ∙ (λ j. sym (empty_is before) j && eqb (e j) 0)
