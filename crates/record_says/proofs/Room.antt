-- Room: a mask or a drop never makes a record longer, and a cut by at most three bytes. A call answers 12 exactly where its record is longer than the room;
-- in every other respect its answer does not depend on the room.
-- Assumes nothing.
use Rattle.std.specs.Prelude.{Ok, Err, Option}
use mathlib.Core.Path.{◌≡◌, refl, sym, ap, ◌∙◌, subst}
use Prim.Native.Nat.{ℕ, ◌+◌, ◌≤◌}
use native.Mathlib.Omega.{arith}
use mathlib.Core.Bool.{Bool, true}
use mathlib.Core.List.{List, [], ◌∷◌}
use lib.Dec.{leb}
use lib.ListN.{length}
use borrow.Author.Tests.{le-leb}
use Rattle.lent.proofs.Outcome.{and_then_inv, done_inj, need_rest}
use Rattle.lent.proofs.Tests.{by-test}
use Rattle.lent.specs.Answers.{is_done, refuses_only}
use Rattle.lent.specs.Lists.{every}
use Rattle.lent.specs.Outcome.{Outcome, and_then, need, refuse}
use Rattle.record_fields.proofs.FieldsLaws.{only_15}
use Rattle.record_fields.proofs.Inverse.{fields_each}
use Rattle.record_fields.specs.Bam.{is_reverse, is_whole, packed_seq, seq_length}
use Rattle.record_fields.specs.Fields.{Field, ML, fields, first_named, is_field}
use Rattle.record_says.proofs.Edits.{cut_each, drop_each, mask_each}
use Rattle.record_says.proofs.Made.{Made, array_fits_lem, cut_made, drop_made, mask_made, new_fits, parsed_are, seq_short}
use Rattle.record_says.proofs.Pieces.{Each}
use Rattle.record_says.specs.Says.{fields_in, tail, with_room}
use Rattle.record_tags.specs.Records.{Finished, array_fits, cut_fields, cut_record, drop_fields, drop_record, finished, in_domain, in_room, mask_fields, mask_record, remade}

-- ---- no longer

-- A masked record is no longer than the record that came.
pub mask_no_longer : (bam before : List ℕ) (room : ℕ) (r : Finished) → mask_record bam before room ≡ Ok r → length r.bytes ≤ length bam
mask_no_longer bam before room r e = omega (arith, new_fits (mask_made bam before room r e))

-- A record after a drop is no longer than the record that came.
pub drop_no_longer : (bam places : List ℕ) (room : ℕ) (r : Finished) → drop_record bam places room ≡ Ok r → length r.bytes ≤ length bam
drop_no_longer bam places room r e = omega (arith, new_fits (drop_made bam places room r e))

-- A record after a cut is at most three bytes longer than the record that came.
pub cut_three_longer : (bam before : List ℕ) (before-reverse : Bool) (start : Option ℕ) (room : ℕ) (r : Finished)
    → cut_record bam before before-reverse start room ≡ Ok r → length r.bytes ≤ length bam + 3
cut_three_longer bam before before-reverse start room r e = new_fits (cut_made bam before before-reverse start room r e)

-- ---- 12

module _ (n : ℕ) (bam : List ℕ) (k : ℕ) (new : List Field → List Field)
    (each : (fs : List Field) → every is_field fs ≡ true → array_fits (first_named ML fs) ≡ true → Each n fs (new fs)) where
  fits : (fs : List Field) → is_whole bam ≡ true → fields (tail bam) ≡ Ok fs → in_domain (seq_length bam) k fs ≡ true
      → length (finished bam fs (new fs)).bytes ≤ length bam + n
  fits fs whole parsed domain =
      let same = parsed_are (tail bam) fs parsed in
      let made : Made n bam (new (fields_in bam)) (finished bam (fields_in bam) (new (fields_in bam))) = record {
        whole = whole;
        parsed = parsed ∙ ap Ok same;
        short = seq_short (seq_length bam) k fs domain;
        fits = subst (λ (l : List Field). array_fits (first_named ML l) ≡ true) same (array_fits_lem (seq_length bam) k fs domain);
        each = subst (λ (l : List Field). Each n l (new l)) same (each fs (fields_each (tail bam) fs parsed) (array_fits_lem (seq_length bam) k fs domain));
        is = refl;
      } in
      subst (λ (l : List Field). length (finished bam l (new l)).bytes ≤ length bam + n) (sym same) (new_fits made)

  -- a room that is enough
  enough : (room : ℕ) (fs : List Field) → length bam + n ≤ room → is_whole bam ≡ true → fields (tail bam) ≡ Ok fs → in_domain (seq_length bam) k fs ≡ true
      → in_room room (finished bam fs (new fs)) ≡ Ok (finished bam fs (new fs))
  enough room fs h whole parsed domain = rw (le-leb (length (finished bam fs (new fs)).bytes) room (omega (arith, fits fs whole parsed domain)))

  roomed : (room ample : ℕ) → length bam + n ≤ ample → remade bam k room new ≡ with_room room (remade bam k ample new)
  unfolding remade
  roomed room ample h = by-test (is_whole bam) (λ w. rw w (parsed w (fields (tail bam)) refl)) (λ w. rw w)
    where
      domain : is_whole bam ≡ true → (fs : List Field) → fields (tail bam) ≡ Ok fs
          → need (in_domain (seq_length bam) k fs) 1 (in_room room (finished bam fs (new fs)))
          ≡ with_room room (need (in_domain (seq_length bam) k fs) 1 (in_room ample (finished bam fs (new fs))))
      domain w fs p = by-test (in_domain (seq_length bam) k fs) (λ d. rw (d, enough ample fs h w p d)) (λ d. rw d)

      parsed : is_whole bam ≡ true → (o : Outcome (List Field)) → fields (tail bam) ≡ o
          → and_then o (λ fs. need (in_domain (seq_length bam) k fs) 1 (in_room room (finished bam fs (new fs))))
          ≡ with_room room (and_then o (λ fs. need (in_domain (seq_length bam) k fs) 1 (in_room ample (finished bam fs (new fs)))))
      parsed w (Err q) p = refl
      parsed w (Ok fs) p = domain w fs p

  only : (room : ℕ) → length bam + n ≤ room → refuses_only (14 ∷ 15 ∷ 1 ∷ []) (remade bam k room new) ≡ true
  unfolding remade
  only room h = by-test (is_whole bam) (λ w. rw w (parsed w (fields (tail bam)) refl)) (λ w. rw w)
    where
      parsed : is_whole bam ≡ true → (o : Outcome (List Field)) → fields (tail bam) ≡ o
          → refuses_only (14 ∷ 15 ∷ 1 ∷ []) (and_then o (λ fs. need (in_domain (seq_length bam) k fs) 1 (in_room room (finished bam fs (new fs))))) ≡ true
      parsed w (Err q) p =
          let is : Err q ≡ refuse 15 = sym p ∙ only_15 (tail bam) (ap is_done p) in
          ap (λ (o : Outcome (List Field)). refuses_only (14 ∷ 15 ∷ 1 ∷ []) o) is
      parsed w (Ok fs) p = by-test (in_domain (seq_length bam) k fs) (λ d. rw (d, enough room fs h w p d)) (λ d. rw d)

-- a record that some room is enough for, asked for another room
other_room : (o : Outcome Finished) (room other : ℕ) (r : Finished) → with_room room o ≡ Ok r → with_room other o ≡ in_room other r
other_room o room other r e =
    let (w, is, fits) = and_then_inv o (in_room room) r e in
    let same : w ≡ r = done_inj (need_rest (leb (length w.bytes) room) 12 (Ok w) r fits) in
    ap (with_room other) is ∙ ap (in_room other) same

module _ (bam before : List ℕ) where
  -- A mask with any room is the mask with as much room as the record takes, asked for room: 12 exactly where the new record is longer.
  pub mask_in_room : (room : ℕ) → mask_record bam before room ≡ with_room room (mask_record bam before (length bam))
  unfolding mask_record
  mask_in_room room =
      roomed 0 bam (length before) (mask_fields (is_reverse bam) (seq_length bam) (packed_seq bam) before)
      (λ fs are fits. mask_each fs are fits (is_reverse bam) (seq_length bam) (packed_seq bam) before) room (length bam) (omega arith)

  -- With as much room as the record takes, a mask never answers 12.
  pub mask_never_12 : (room : ℕ) → length bam ≤ room → refuses_only (14 ∷ 15 ∷ 1 ∷ []) (mask_record bam before room) ≡ true
  unfolding mask_record
  mask_never_12 room h =
      only 0 bam (length before) (mask_fields (is_reverse bam) (seq_length bam) (packed_seq bam) before)
      (λ fs are fits. mask_each fs are fits (is_reverse bam) (seq_length bam) (packed_seq bam) before) room (omega arith)

  -- A mask that was done answers with any other room: 12 exactly where its record is longer, else the same record.
  pub mask_other_room : (room other : ℕ) (r : Finished) → mask_record bam before room ≡ Ok r → mask_record bam before other ≡ in_room other r
  mask_other_room room other r e = mask_in_room other ∙ other_room (mask_record bam before (length bam)) room other r (sym (mask_in_room room) ∙ e)

module _ (bam places : List ℕ) where
  -- A drop with any room is the drop with as much room as the record takes, asked for room: 12 exactly where the new record is longer.
  pub drop_in_room : (room : ℕ) → drop_record bam places room ≡ with_room room (drop_record bam places (length bam))
  unfolding drop_record
  drop_in_room room =
      roomed 0 bam 0 (drop_fields (is_reverse bam) (seq_length bam) (packed_seq bam) places)
      (λ fs are fits. drop_each fs are fits (is_reverse bam) (seq_length bam) (packed_seq bam) places) room (length bam) (omega arith)

  -- With as much room as the record takes, a drop never answers 12.
  pub drop_never_12 : (room : ℕ) → length bam ≤ room → refuses_only (14 ∷ 15 ∷ 1 ∷ []) (drop_record bam places room) ≡ true
  unfolding drop_record
  drop_never_12 room h =
      only 0 bam 0 (drop_fields (is_reverse bam) (seq_length bam) (packed_seq bam) places)
      (λ fs are fits. drop_each fs are fits (is_reverse bam) (seq_length bam) (packed_seq bam) places) room (omega arith)

  -- A drop that was done answers with any other room: 12 exactly where its record is longer, else the same record.
  pub drop_other_room : (room other : ℕ) (r : Finished) → drop_record bam places room ≡ Ok r → drop_record bam places other ≡ in_room other r
  drop_other_room room other r e = drop_in_room other ∙ other_room (drop_record bam places (length bam)) room other r (sym (drop_in_room room) ∙ e)

module _ (bam before : List ℕ) (before-reverse : Bool) (start : Option ℕ) where
  -- A cut with any room is the cut with three bytes more than the record takes, asked for room: 12 exactly where the new record is longer.
  pub cut_in_room : (room : ℕ) → cut_record bam before before-reverse start room ≡ with_room room (cut_record bam before before-reverse start (length bam + 3))
  unfolding cut_record
  cut_in_room room =
      roomed 3 bam (length before) (cut_fields (is_reverse bam) (seq_length bam) (packed_seq bam) before before-reverse start)
      (λ fs are fits. cut_each fs are fits (is_reverse bam) (seq_length bam) (packed_seq bam) before before-reverse start) room (length bam + 3) (omega arith)

  -- With three bytes more than the record takes, a cut never answers 12.
  pub cut_never_12 : (room : ℕ) → length bam + 3 ≤ room → refuses_only (14 ∷ 15 ∷ 1 ∷ []) (cut_record bam before before-reverse start room) ≡ true
  unfolding cut_record
  cut_never_12 room h =
      only 3 bam (length before) (cut_fields (is_reverse bam) (seq_length bam) (packed_seq bam) before before-reverse start)
      (λ fs are fits. cut_each fs are fits (is_reverse bam) (seq_length bam) (packed_seq bam) before before-reverse start) room h

  -- A cut that was done answers with any other room: 12 exactly where its record is longer, else the same record.
  pub cut_other_room : (room other : ℕ) (r : Finished) → cut_record bam before before-reverse start room ≡ Ok r
      → cut_record bam before before-reverse start other ≡ in_room other r
  cut_other_room room other r e =
      cut_in_room other ∙ other_room (cut_record bam before before-reverse start (length bam + 3)) room other r (sym (cut_in_room room) ∙ e)
