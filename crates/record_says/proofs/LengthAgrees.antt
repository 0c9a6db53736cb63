-- After a cut that kept MM, MN agrees with SEQ.
-- Assumes nothing.
use Rattle.std.specs.Prelude.{Ok, Option, None, Some}
use mathlib.Core.Path.{◌≡◌, refl, sym, ap, ◌∙◌}
use Prim.Native.Nat.{ℕ, ◌≤◌}
use native.Mathlib.Omega.{arith}
use mathlib.Core.Bool.{Bool, true, false, cond}
use mathlib.Core.List.{List, [], ◌∷◌}
use lib.Dec.{eqb}
use lib.ListN.{length}
use borrow.Author.Tests.{eq-eqb, eqb-true, lt-leb}
use Rattle.lent.proofs.Tests.{by-test}
use Rattle.lent.specs.Lists.{is_empty}
use Rattle.packed.specs.Stored.{in_read}
use Rattle.record_fields.proofs.Kept.{name_kept, word_of_bytes}
use Rattle.record_fields.specs.Bam.{is_reverse, packed_seq, seq_length, word_bytes}
use Rattle.record_fields.specs.Fields.{Field, MM, MN, first_named, name_of}
use Rattle.record_rows.specs.Letters.{turned_letters}
use Rattle.record_says.proofs.Listed.{cut_is, some_bases}
use Rattle.record_says.proofs.Edits.{cut_tidy, editing_sound, first_is, lengths_some}
use Rattle.record_says.proofs.Firsts.{first_kept}
use Rattle.record_says.proofs.Held.{empty_is, held, not_removed}
use Rattle.record_says.proofs.KeepsMM.{mm_is_text, tagged, with_is}
use Rattle.record_says.proofs.Made.{Made, cut_made, fields_are, front_same, old_fields, seq_length_same}
use Rattle.record_says.proofs.Pieces.{each_fewer, each_fields, field_long, there_times}
use Rattle.record_says.specs.Says.{fields_in, has_tag, keeps, mn_of, read_seq, times}
use Rattle.record_tags.specs.Changes.{TagEdit, applied, changed, editing, is_tagged, length_sets, removal, with_ml}
use Rattle.record_tags.specs.Records.{Finished, cut_edit, cut_fields, cut_record}
use Rattle.record_tags.specs.Values.{disagrees, is_integer, is_text, unsigned_of, with_integer}
use Rattle.samtags.specs.Edits.{same_bytes_of}
use Rattle.samtags.specs.Writing.{Tag}

-- an integer that is set to n
set_agrees : (n : ℕ) (f : Field) → n ≤ 16000 → 2 ≤ length f → disagrees n (with_integer n f) ≡ false
set_agrees n [] h l = absurd (omega arith)
set_agrees n (a ∷ []) h l = absurd (omega arith)
set_agrees n (a ∷ b ∷ f) h l =
    let is : unsigned_of (with_integer n (a ∷ b ∷ f)) ≡ n = word_of_bytes n (omega arith) in
    rw (is, lt-leb 2147483648 n (omega arith), eq-eqb n n refl)

-- what is no integer agrees with every length
no_integer : (n : ℕ) (f : Field) → is_integer f ≡ false → disagrees n f ≡ false
no_integer n f e = rw e

mn_changes : (edit : TagEdit) (len : Option ℕ) (fs : List Field) (t : Tag) → is_text (first_named MM fs) ≡ true
    → with_ml edit (first_named MM fs) (first_named 1 fs) ≡ Ok t → editing edit len fs MN ≡ length_sets len
unfolding editing
mn_changes edit len fs t text e = rw (text, e)

module _ {n : ℕ} {bam : List ℕ} {new : List Field} {r : Finished} (made : Made n bam new r) where
  -- no MN, before and after
  none_agrees : (k : ℕ) → is_empty (mn_of bam) ≡ true → disagrees k (mn_of r.bytes) ≡ false
  none_agrees k q =
      let old = eqb-true (times MN (fields_in bam)) 0 (sym (there_times MN (fields_in bam) (old_fields made)) ∙ q) in
      let few = (each_fewer made.each).1 MN in
      let gone : is_empty (mn_of r.bytes) ≡ true =
      ap (λ (l : List Field). is_empty (first_named MN l)) (fields_are made)
      ∙ there_times MN new (each_fields made.each (old_fields made)) ∙ eq-eqb (times MN new) 0 (omega (arith, old, few)) in
      ap (disagrees k) (empty_is (mn_of r.bytes) gone)

cut_disagrees : (reverse : Bool) (n : ℕ) (packed before : List ℕ) (before-reverse : Bool) (start : Option ℕ) (fs : List Field) → is_tagged fs ≡ true
    → same_bytes_of (turned_letters before-reverse before) (in_read reverse n packed) ≡ false → disagrees (length before) (first_named MN fs) ≡ true
    → cut_fields reverse n packed before before-reverse start fs ≡ changed removal fs
unfolding cut_fields
cut_disagrees reverse n packed before before-reverse start fs t s d = rw (t, some_bases reverse n packed before before-reverse start s, d)

module _ (bam before : List ℕ) (before-reverse : Bool) (start : Option ℕ) (room : ℕ) (r : Finished)
    (e : cut_record bam before before-reverse start room ≡ Ok r) (tag : has_tag bam ≡ true) (kept : keeps MM bam r.bytes ≡ true)
    (differs : same_bytes_of (turned_letters before-reverse before) (read_seq bam) ≡ false) where
  abbrev n : ℕ
  n = seq_length bam

  abbrev fs : List Field
  fs = fields_in bam

  abbrev len : Option ℕ
  len = cond (eqb (length before) n) None (Some n)

  made : Made 3 bam (cut_fields (is_reverse bam) n (packed_seq bam) before before-reverse start fs) r
  made = cut_made bam before before-reverse start room r e

  not_gone : cut_fields (is_reverse bam) n (packed_seq bam) before before-reverse start fs ≡ changed removal fs → ⊥
  not_gone = not_removed made MM (mm_is_text made tag) kept (omega arith)

  agreed : disagrees (length before) (mn_of bam) ≡ false
  agreed =
      by-test (disagrees (length before) (mn_of bam))
      (λ d. absurd (not_gone (cut_disagrees (is_reverse bam) n (packed_seq bam) before before-reverse start fs (tagged made tag) differs d)))
      (λ d. d)

  module _ (there : is_empty (mn_of bam) ≡ false) where
    first : (g : Field) → applied (length_sets len) (mn_of bam) ≡ g ∷ [] → name_of g ≡ MN → mn_of r.bytes ≡ g
    first g a q =
        let then = turned_letters before-reverse before in
        let (lo, w, is) = cut_is (is_reverse bam) n (packed_seq bam) before before-reverse start fs differs (tagged made tag) not_gone in
        let edit = cut_edit lo then (read_seq bam) in
        let tidy = cut_tidy lo then (read_seq bam) in
        let (t, edits, holds) = held made tag kept edit tidy 3 len (λ b. lengths_some (eqb (length before) n) b n) is in
        let changes = mn_changes edit len fs t (mm_is_text made tag) (with_is made tag edit t edits) in
        ap (first_named MN) (fields_are made ∙ is)
        ∙ first_kept MN 3 (editing edit len fs) fs g (old_fields made)
        (editing_sound edit tidy fs (old_fields made) made.fits 3 len (λ b. lengths_some (eqb (length before) n) b n)) there
        (ap (λ l. applied l (mn_of bam)) changes ∙ a) q

    named : name_of (mn_of bam) ≡ MN
    named = (first_is MN fs (old_fields made) there).1

    long : 4 ≤ length (mn_of bam)
    long = field_long (mn_of bam) (first_is MN fs (old_fields made) there).0

    there_agrees : disagrees n (mn_of r.bytes) ≡ false
    there_agrees =
        by-test (eqb (length before) n)
        (λ s.
        let same = first (mn_of bam) (rw s) named in
        (λ j. disagrees (sym (eqb-true (length before) n s) j) (same j)) ∙ agreed)
        (λ s. by-test (is_integer (mn_of bam))
        (λ i.
        let same = first (with_integer n (mn_of bam)) (rw (s, i)) (name_kept (mn_of bam) (105 ∷ word_bytes n) 2 (omega arith) (omega (arith, long)) ∙ named) in
        ap (disagrees n) same ∙ set_agrees n (mn_of bam) made.short (omega (arith, long)))
        (λ i. ap (disagrees n) (first (mn_of bam) (rw (s, i)) named) ∙ no_integer n (mn_of bam) i))

  cut_agrees : disagrees (seq_length r.bytes) (mn_of r.bytes) ≡ false
  cut_agrees =
      ap (λ (k : ℕ). disagrees k (mn_of r.bytes)) (seq_length_same bam r.bytes (front_same made))
      ∙ by-test (is_empty (mn_of bam)) (none_agrees made n) there_agrees

-- After a cut that changed SEQ and kept MM, the record's MN, if it has one, says the length of SEQ.
pub cut_length : (bam before : List ℕ) (before-reverse : Bool) (start : Option ℕ) (room : ℕ) (r : Finished)
    → cut_record bam before before-reverse start room ≡ Ok r → has_tag bam ≡ true → keeps MM bam r.bytes ≡ true
    → same_bytes_of (turned_letters before-reverse before) (read_seq bam) ≡ false → disagrees (seq_length r.bytes) (mn_of r.bytes) ≡ false
cut_length = cut_agrees
