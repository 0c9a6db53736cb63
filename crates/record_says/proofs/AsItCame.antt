-- Where no tag is edited and none is removed, every byte is as it came, and no field went.
-- Assumes nothing.
use Rattle.std.specs.Prelude.{Ok, Option}
use mathlib.Core.Path.{◌≡◌, refl, sym, ap, ◌∙◌}
use Prim.Native.Nat.{ℕ}
use native.Mathlib.Omega.{arith}
use mathlib.Core.Bool.{Bool, true, false, not, ◌&&◌, ◌||◌, or-true}
use mathlib.Core.List.{List, [], ◌∷◌, ◌++◌}
use lib.Dec.{eqb, ltb}
use lib.ListN.{length, take}
use borrow.Author.Tests.{eq-eqb, le-ltb}
use Rattle.lent.proofs.Tests.{and_true, by-test}
use Rattle.lent.specs.Lists.{is_empty}
use Rattle.packed.specs.Stored.{in_read}
use Rattle.record_fields.specs.Bam.{head_size, is_reverse, packed_seq, seq_length}
use Rattle.record_fields.specs.Fields.{Field, MN, first_named, joined}
use Rattle.record_rows.specs.Letters.{turned_letters}
use Rattle.record_says.proofs.Made.{Made, bytes_are, came, cut_made, drop_made, fields_are, mask_made}
use Rattle.record_says.specs.Says.{AsItCame, Remade, cut, dropped, fields_in, masked, mn_of, read_seq, stored_seq}
use Rattle.record_tags.specs.Changes.{is_tagged}
use Rattle.record_tags.specs.Records.{Finished, cut_fields, cut_record, drop_fields, drop_record, mask_fields, mask_record}
use Rattle.record_tags.specs.Values.{disagrees}
use Rattle.samtags.specs.Edits.{same_bytes_of}

as_came : {n : ℕ} {bam : List ℕ} {new : List Field} {r : Finished} → Made n bam new r → new ≡ fields_in bam → AsItCame bam r
as_came {n} {bam} {new} {r} m e =
    record {
      bytes_same = bytes_are m ∙ ap (λ (fs : List Field). take (head_size bam) bam ++ joined fs) e ∙ came m;
      none_went =
          ap (λ (x : Finished). x.went) m.is ∙ ap (λ (fs : List Field). ltb (length fs) (length (fields_in bam))) e
          ∙ le-ltb (length (fields_in bam)) (length (fields_in bam)) (omega arith);
    }

same_bytes : (xs : List ℕ) → same_bytes_of xs xs ≡ true
same_bytes [] = refl
same_bytes (x ∷ xs) = and_true (eqb x x) (same_bytes_of xs xs) (eq-eqb x x refl) (same_bytes xs)

-- If the new record has the fields of the old one, every byte is as it came.
pub same_fields : {bam : List ℕ} {r : Finished} → Remade bam r → fields_in r.bytes ≡ fields_in bam → AsItCame bam r
same_fields {bam} {r} (masked before room e) q = let m = mask_made bam before room r e in as_came m (sym (fields_are m) ∙ q)
same_fields {bam} {r} (dropped places room e) q = let m = drop_made bam places room r e in as_came m (sym (fields_are m) ∙ q)
same_fields {bam} {r} (cut before before-reverse start room e) q =
    let m = cut_made bam before before-reverse start room r e in as_came m (sym (fields_are m) ∙ q)

-- A record without MM, am and bm stays as it came, with its ML and MN.
pub untagged : {bam : List ℕ} {r : Finished} → Remade bam r → is_tagged (fields_in bam) ≡ false → AsItCame bam r
unfolding mask_fields drop_fields cut_fields
untagged {bam} {r} (masked before room e) t = as_came (mask_made bam before room r e) (rw t)
untagged {bam} {r} (dropped places room e) t = as_came (drop_made bam places room r e) (rw (t, or-true (is_empty places)))
untagged {bam} {r} (cut before before-reverse start room e) t = as_came (cut_made bam before before-reverse start room r e) (rw t)

-- A drop without places leaves the record as it came.
pub dropped_nowhere : (bam : List ℕ) (room : ℕ) (r : Finished) → drop_record bam [] room ≡ Ok r → AsItCame bam r
unfolding drop_fields
dropped_nowhere bam room r e = as_came (drop_made bam [] room r e) refl

-- A mask that left SEQ the same leaves the record as it came, if MN agrees with SEQ.
pub masked_the_same : (bam : List ℕ) (room : ℕ) (r : Finished) → disagrees (seq_length bam) (mn_of bam) ≡ false
    → mask_record bam (stored_seq bam) room ≡ Ok r → AsItCame bam r
unfolding mask_fields
masked_the_same bam room r d e =
    as_came (mask_made bam (stored_seq bam) room r e)
    (by-test (is_tagged (fields_in bam)) (λ t. rw (t, d, same_bytes (stored_seq bam))) (λ t. rw t))

cut_same : (reverse : Bool) (n : ℕ) (packed before : List ℕ) (before-reverse : Bool) (start : Option ℕ) (fs : List Field)
    → disagrees (length before) (first_named MN fs) ≡ false → turned_letters before-reverse before ≡ in_read reverse n packed
    → cut_fields reverse n packed before before-reverse start fs ≡ fs
unfolding cut_fields
cut_same reverse n packed before before-reverse start fs d s =
    let same : same_bytes_of (turned_letters before-reverse before) (in_read reverse n packed) ≡ true =
    ap (λ (l : List ℕ). same_bytes_of l (in_read reverse n packed)) s ∙ same_bytes (in_read reverse n packed) in
    by-test (not (is_tagged fs) || is_empty before && eqb n 0) (λ t. rw t) (λ t. rw (t, d, same))

-- A cut that left SEQ the same, in read orientation, leaves the record as it came, if MN agrees with SEQ before.
pub cut_the_same : (bam before : List ℕ) (before-reverse : Bool) (start : Option ℕ) (room : ℕ) (r : Finished)
    → disagrees (length before) (mn_of bam) ≡ false → turned_letters before-reverse before ≡ read_seq bam
    → cut_record bam before before-reverse start room ≡ Ok r → AsItCame bam r
cut_the_same bam before before-reverse start room r d s e =
    as_came (cut_made bam before before-reverse start room r e)
    (cut_same (is_reverse bam) (seq_length bam) (packed_seq bam) before before-reverse start (fields_in bam) d s)

cut_none : (reverse : Bool) (n : ℕ) (packed : List ℕ) (before-reverse : Bool) (start : Option ℕ) (fs : List Field) → n ≡ 0
    → cut_fields reverse n packed [] before-reverse start fs ≡ fs
unfolding cut_fields
cut_none reverse n packed before-reverse start fs z =
    let none : not (is_tagged fs) || is_empty {A = ℕ} [] && eqb n 0 ≡ true = rw (eq-eqb n 0 z) (or-true (not (is_tagged fs))) in
    rw none

-- A cut from no bases to no bases leaves the record as it came.
pub cut_of_nothing : (bam : List ℕ) (before-reverse : Bool) (start : Option ℕ) (room : ℕ) (r : Finished) → seq_length bam ≡ 0
    → cut_record bam [] before-reverse start room ≡ Ok r → AsItCame bam r
cut_of_nothing bam before-reverse start room r z e =
    as_came (cut_made bam [] before-reverse start room r e)
    (cut_none (is_reverse bam) (seq_length bam) (packed_seq bam) before-reverse start (fields_in bam) z)
