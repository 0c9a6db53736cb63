-- What a tag lists after an edit of its record, step by step; Edited has the theorems. Support for the theorems of this crate.
-- Assumes nothing.
use Rattle.std.specs.Prelude.{Ok, Option, None, Some}
use mathlib.Core.Path.{◌≡◌, refl, sym, ap, ◌∙◌, subst}
use Prim.Native.Nat.{ℕ, ◌+◌, ◌≤◌, ◌<◌}
use native.Mathlib.Omega.{arith}
use mathlib.Core.Bool.{Bool, true, false, cond, ◌&&◌}
use mathlib.Core.List.{List, [], ◌∷◌, map}
use lib.Dec.{leb, eqb}
use lib.ListN.{length, drop}
use borrow.Author.Tests.{eqb-true, ne_eqb}
use Rattle.lent.proofs.Lists.{filter_all}
use Rattle.lent.proofs.Outcome.{need_rest}
use Rattle.lent.proofs.Tests.{and_true_l, and_true_r, by-test}
use Rattle.lent.specs.Lists.{is_empty}
use Rattle.packed.specs.Packed.{unpack}
use Rattle.packed.specs.Stored.{in_read, places_in_read}
use Rattle.record_fields.specs.Bam.{is_reverse, packed_seq, seq_length}
use Rattle.record_fields.specs.Fields.{Field, MM, MN, am, bm, first_named}
use Rattle.record_rows.specs.Letters.{turned_letters}
use Rattle.record_says.proofs.AsItCame.{dropped_nowhere}
use Rattle.record_says.proofs.Edits.{cut_tidy, drop_tidy, lengths_none, lengths_some, mask_tidy}
use Rattle.record_says.proofs.Held.{Holds, alone_held, alone_tagged, held, is_tagged_lem, mm_text, not_removed}
use Rattle.record_says.proofs.Made.{Made, cut_made, drop_made, front_same, mask_made, packed_same, reverse_same, seq_length_same}
use Rattle.record_says.specs.Says.{AloneListsOver, ListsOver, begins_at, fields_in, has_ml, is_alone, keeps, ml_of, mm_of, read_places, read_seq, stored_seq, tag_lists}
use Rattle.record_tags.specs.Changes.{changed, editing, is_tagged, removal}
use Rattle.record_tags.specs.Records.{Finished, cut_edit, cut_fields, cut_record, drop_edit, drop_fields, drop_record, mask_edit, mask_fields, mask_record, or_removal, start_of, window_in}
use Rattle.record_tags.specs.Values.{disagrees, text_of, values_of}
use Rattle.samtags.proofs.Kept.{calls_held_in, calls_in_window, cut_keeps_the_held, cut_keeps_the_others, drop_keeps_the_others, without_calls_at}
use Rattle.samtags.proofs.Masking.{differs_by_n, mask_keeps_the_others, then_lists, unmasked_calls}
use Rattle.samtags.specs.Edits.{cut_to, edited, lies_in, masked_to, same_bytes_of, window_start}
use Rattle.samtags.specs.Reading.{lists}
use Rattle.samtags.specs.Session.{window}
use Rattle.samtags.specs.Spots.{Listing}
use Rattle.samtags.specs.Writing.{Tag}

-- SEQ did not change
seq_same : {n : ℕ} {bam : List ℕ} {new : List Field} {r : Finished} → Made n bam new r → read_seq r.bytes ≡ read_seq bam
seq_same {n} {bam} {new} {r} m =
    let f = front_same m in
    λ j. in_read (reverse_same bam r.bytes f j) (seq_length_same bam r.bytes f j) (packed_same bam r.bytes f j)

values_read : (b : Bool) (vs ws : List ℕ) → (b ≡ true → ws ≡ vs) → ws ≡ cond b vs ws
values_read true vs ws h = h refl
values_read false vs ws h = refl

-- the tag that the record holds, read over SEQ as it is now
then_listed : {n : ℕ} {bam : List ℕ} {new : List Field} {r : Finished} (m : Made n bam new r) (t : Tag) → Holds bam r.bytes t
    → tag_lists (read_seq r.bytes) r.bytes ≡ lists (has_ml bam) (read_seq bam) t.text (cond (has_ml bam) t.ml (values_of (ml_of r.bytes)))
then_listed {n} {bam} {new} {r} m t h =
    (λ j. lists (h.ml_there j) (seq_same m j) (h.text j) (values_of (ml_of r.bytes)))
    ∙ ap (lists (has_ml bam) (read_seq bam) t.text) (values_read (has_ml bam) t.ml (values_of (ml_of r.bytes)) h.ml)

-- ---- a drop

none_dropped : (ls : List Listing) → map (without_calls_at []) ls ≡ ls
none_dropped [] = refl
none_dropped (l ∷ ls) = λ j. record { header = l.header; calls = filter_all l.calls j } ∷ none_dropped ls j

pub drop_is : (reverse : Bool) (n : ℕ) (packed places : List ℕ) (fs : List Field) → is_empty places ≡ false → is_tagged fs ≡ true
    → (drop_fields reverse n packed places fs ≡ changed removal fs → ⊥)
    → drop_fields reverse n packed places fs ≡ changed (editing (drop_edit (in_read reverse n packed) (places_in_read reverse n places)) None fs) fs
unfolding drop_fields
drop_is reverse n packed places fs p t h =
    by-test (disagrees n (first_named MN fs)) (λ d. absurd (h (rw (p, t, d)))) (λ d. rw (p, t, d))

pub no_place : (xs : List ℕ) → is_empty xs ≡ true → xs ≡ []
no_place [] e = refl
no_place (x ∷ xs) e = let z : ◌≡◌ {A = ℕ} 0 1 = cc in absurd (omega arith)

pub no_place_turned : (reverse : Bool) (n : ℕ) → places_in_read reverse n [] ≡ []
no_place_turned true n = refl
no_place_turned false n = refl

module _ (bam places : List ℕ) (room : ℕ) (r : Finished) (ls : List Listing) (e : drop_record bam places room ≡ Ok r)
    (kept : keeps MM bam r.bytes ≡ true) (old : ListsOver (read_seq bam) bam ls) where
  abbrev ps : List ℕ
  ps = read_places bam places

  some_dropped : is_empty places ≡ false → ListsOver (read_seq r.bytes) r.bytes (map (without_calls_at ps) ls)
  unfolding drop_edit
  some_dropped p =
      let tag = old.tagged in
      let made = drop_made bam places room r e in
      let is = drop_is (is_reverse bam) (seq_length bam) (packed_seq bam) places (fields_in bam) p (is_tagged_lem made tag kept) (not_removed made MM (mm_text made tag kept) kept (omega arith)) in
      let (t, edits, holds) = held made tag kept (drop_edit (read_seq bam) ps) (drop_tidy (read_seq bam) ps) 0 None (lengths_none 0) is in
      record {
        tagged = holds.tagged;
        listed =
            then_listed made t holds
            ∙ drop_keeps_the_others (has_ml bam) (read_seq bam) (text_of (mm_of bam)) (values_of (ml_of bam)) ls old.listed (values_of (ml_of r.bytes)) ps t edits;
      }

  no_dropped : places ≡ [] → ListsOver (read_seq r.bytes) r.bytes (map (without_calls_at ps) ls)
  no_dropped p =
      let came : r.bytes ≡ bam = (dropped_nowhere bam room r (subst (λ (l : List ℕ). drop_record bam l room ≡ Ok r) p e)).bytes_same in
      let same : map (without_calls_at ps) ls ≡ ls =
      ap (λ (l : List ℕ). map (without_calls_at l) ls) (ap (places_in_read (is_reverse bam) (seq_length bam)) p ∙ no_place_turned (is_reverse bam) (seq_length bam))
      ∙ none_dropped ls in
      subst (ListsOver (read_seq r.bytes) r.bytes) (sym same) (subst (λ (b : List ℕ). ListsOver (read_seq b) b ls) (sym came) old)

  -- After a drop the tag lists what it listed, without the calls at the places.
  pub drop_lists : ListsOver (read_seq r.bytes) r.bytes (map (without_calls_at (read_places bam places)) ls)
  drop_lists = by-test (is_empty places) (λ p. no_dropped (no_place places p)) some_dropped

-- ---- a mask

pub mask_is : (reverse : Bool) (n : ℕ) (packed before : List ℕ) (fs : List Field) → same_bytes_of before (unpack n packed) ≡ false → is_tagged fs ≡ true
    → (mask_fields reverse n packed before fs ≡ changed removal fs → ⊥)
    → mask_fields reverse n packed before fs ≡ changed (editing (mask_edit (turned_letters reverse before) (in_read reverse n packed)) None fs) fs
unfolding mask_fields
mask_is reverse n packed before fs s t h =
    by-test (disagrees n (first_named MN fs)) (λ d. absurd (h (rw (t, d)))) (λ d. rw (t, d, s))

module _ (bam before : List ℕ) (room : ℕ) (r : Finished) (ls : List Listing) (e : mask_record bam before room ≡ Ok r)
    (kept : keeps MM bam r.bytes ≡ true) (old : ListsOver (turned_letters (is_reverse bam) before) bam ls)
    (differs : same_bytes_of before (stored_seq bam) ≡ false) (by_n : differs_by_n (turned_letters (is_reverse bam) before) (read_seq bam) ≡ true) where
  abbrev old_seq : List ℕ
  old_seq = turned_letters (is_reverse bam) before

  -- After a mask that changed SEQ only by N, the tag lists what it listed over SEQ before, without the calls whose base is masked.
  pub mask_lists : ListsOver (read_seq r.bytes) r.bytes (map (unmasked_calls (read_seq bam)) ls)
  unfolding mask_edit
  mask_lists =
      let tag = old.tagged in
      let made = mask_made bam before room r e in
      let is = mask_is (is_reverse bam) (seq_length bam) (packed_seq bam) before (fields_in bam) differs (is_tagged_lem made tag kept) (not_removed made MM (mm_text made tag kept) kept (omega arith)) in
      let (t, edits, holds) = held made tag kept (mask_edit old_seq (read_seq bam)) (mask_tidy old_seq (read_seq bam)) 0 None (lengths_none 0) is in
      let masks : edited (masked_to (read_seq bam)) (has_ml bam) old_seq (text_of (mm_of bam)) (values_of (ml_of bam)) ≡ Ok t =
      need_rest (eqb (length old_seq) (length (read_seq bam))) 2 _ t edits in
      record {
        tagged = holds.tagged;
        listed =
            then_listed made t holds
            ∙ ap (then_lists (has_ml bam) (read_seq bam) (values_of (ml_of r.bytes))) (sym masks)
            ∙ mask_keeps_the_others (has_ml bam) old_seq (read_seq bam) (text_of (mm_of bam)) (values_of (ml_of bam)) ls (values_of (ml_of r.bytes)) old.listed by_n;
      }

-- ---- a cut

-- a window that was found is one
window_found : (w : Option ℕ) (before seq : List ℕ) (lo : ℕ) → window_in w before seq ≡ Some lo → (w ≡ Some lo) × (lies_in seq (drop lo before) ≡ true)
window_found None before seq lo e = let z : ◌≡◌ {A = ℕ} 0 1 = cc in absurd (omega arith)
window_found (Some a) before seq lo e =
    by-test (leb a (length before) && lies_in seq (drop a before))
    (λ t.
    let found : Some a ≡ Some lo = rw t at e in
    let same : a ≡ lo = cc in
    (found, subst (λ (k : ℕ). lies_in seq (drop k before) ≡ true) same (and_true_r (leb a (length before)) (lies_in seq (drop a before)) t)))
    (λ t. let lost : None ≡ Some lo = rw t at e in let z : ◌≡◌ {A = ℕ} 0 1 = cc in absurd (omega arith))

no_bases : (reverse before-reverse : Bool) (packed : List ℕ) → same_bytes_of (turned_letters before-reverse []) (in_read reverse 0 packed) ≡ true
unfolding turned_letters in_read
no_bases true true packed = refl
no_bases true false packed = refl
no_bases false true packed = refl
no_bases false false packed = refl

module _ (reverse : Bool) (n : ℕ) (packed before : List ℕ) (before-reverse : Bool) (start : Option ℕ) where
  abbrev was : List ℕ
  was = turned_letters before-reverse before

  abbrev now : List ℕ
  now = in_read reverse n packed

  -- where SEQ begins in SEQ before, in read orientation
  abbrev begins : Option ℕ
  begins = window_in (window_start (start_of reverse before-reverse (length before) n start) was now) was now

  pub some_bases : same_bytes_of was now ≡ false → is_empty before && eqb n 0 ≡ false
  some_bases s = by-test (is_empty before && eqb n 0) (λ q. absurd (none_there q)) (λ q. q)
    where
      none_there : is_empty before && eqb n 0 ≡ true → ⊥
      none_there q =
          let b = no_place before (and_true_l (is_empty before) (eqb n 0) q) in
          let z = eqb-true n 0 (and_true_r (is_empty before) (eqb n 0) q) in
          let same : same_bytes_of was now ≡ true = (λ j. same_bytes_of (turned_letters before-reverse (b j)) (in_read reverse (z j) packed)) ∙ no_bases reverse before-reverse packed in
          let y : true ≡ false = sym same ∙ s in
          let x : ◌≡◌ {A = ℕ} 0 1 = cc in
          omega (arith, x)

  module _ (fs : List Field) where
    abbrev cuts : ℕ → List Field
    cuts lo = changed (editing (cut_edit lo was now) (cond (eqb (length before) n) None (Some n)) fs) fs

    found : (w : Option ℕ) → (or_removal w fs cuts ≡ changed removal fs → ⊥) → (lo : ℕ) × (w ≡ Some lo) × (or_removal w fs cuts ≡ cuts lo)
    found None h = absurd (h refl)
    found (Some lo) h = (lo, refl, refl)

    pub cut_is : same_bytes_of was now ≡ false → is_tagged fs ≡ true → (cut_fields reverse n packed before before-reverse start fs ≡ changed removal fs → ⊥)
        → (lo : ℕ) × (begins ≡ Some lo) × (cut_fields reverse n packed before before-reverse start fs ≡ cuts lo)
    unfolding cut_fields
    cut_is s t h =
        by-test (disagrees (length before) (first_named MN fs))
        (λ d. absurd (h (rw (t, some_bases s, d))))
        (λ d.
        let is : cut_fields reverse n packed before before-reverse start fs ≡ or_removal begins fs cuts = rw (t, some_bases s, d, s) in
        let (lo, q, there) = found begins (λ x. h (is ∙ x)) in
        let made : cut_fields reverse n packed before before-reverse start fs ≡ cuts lo = ◌∙◌ {c = cuts lo} is there in
        (lo, q, made))

module _ (bam before : List ℕ) (before-reverse : Bool) (start : Option ℕ) (room : ℕ) (r : Finished) (ls : List Listing)
    (e : cut_record bam before before-reverse start room ≡ Ok r) (kept : keeps MM bam r.bytes ≡ true)
    (old : ListsOver (turned_letters before-reverse before) bam ls) (differs : same_bytes_of (turned_letters before-reverse before) (read_seq bam) ≡ false) where
  abbrev old_bases : List ℕ
  old_bases = turned_letters before-reverse before

  abbrev starts : Option ℕ
  starts = begins_at bam before before-reverse start

  -- the window, the edit, and the tag that the new record holds
  cut_held : (lo : ℕ) × (t : Tag) × (starts ≡ Some lo) × (lies_in (read_seq bam) (drop lo old_bases) ≡ true)
      × (edited (cut_to lo (read_seq bam)) (has_ml bam) old_bases (text_of (mm_of bam)) (values_of (ml_of bam)) ≡ Ok t) × Holds bam r.bytes t
  unfolding cut_edit
  cut_held =
      let tag = old.tagged in
      let n = seq_length bam in
      let made = cut_made bam before before-reverse start room r e in
      let (lo, q, is) = cut_is (is_reverse bam) n (packed_seq bam) before before-reverse start (fields_in bam) differs (is_tagged_lem made tag kept) (not_removed made MM (mm_text made tag kept) kept (omega arith)) in
      let (at, lies) = window_found starts old_bases (read_seq bam) lo q in
      let (t, edits, holds) = held made tag kept (cut_edit lo old_bases (read_seq bam)) (cut_tidy lo old_bases (read_seq bam)) 3 (cond (eqb (length before) n) None (Some n))
      (λ b. lengths_some (eqb (length before) n) b n) is in
      (lo, t, at, lies, edits, holds)

  -- After a cut SEQ begins at a known place of SEQ before. The tag lists what it listed there, without the calls whose base is no longer in SEQ, and every
  -- other call is as many places nearer to the front as were cut off before it.
  pub cut_lists : (lo : ℕ) × (begins_at bam before before-reverse start ≡ Some lo)
      × ListsOver (read_seq r.bytes) r.bytes (map (calls_held_in lo (read_seq bam)) ls)
  cut_lists =
      let (lo, t, at, lies, edits, holds) = cut_held in
      let made = cut_made bam before before-reverse start room r e in (
        lo,
        at,
        record {
          tagged = holds.tagged;
          listed =
              then_listed made t holds
              ∙ cut_keeps_the_held (has_ml bam) old_bases (text_of (mm_of bam)) (values_of (ml_of bam)) ls old.listed (values_of (ml_of r.bytes)) lo (read_seq bam) t lies edits;
        },
      )

  -- If SEQ is the k bases from place a of SEQ before, unmasked and fewer than before, and the start is known to be there, the tag lists every call inside.
  pub clean_cut_lists : (a k : ℕ) → start_of (is_reverse bam) before-reverse (length before) (seq_length bam) start ≡ Some a
      → read_seq bam ≡ window a k (turned_letters before-reverse before) → a + k ≤ length (turned_letters before-reverse before)
      → length (read_seq bam) < length (turned_letters before-reverse before) → ListsOver (read_seq r.bytes) r.bytes (map (calls_in_window a k) ls)
  clean_cut_lists a k s w fits less =
      let (lo, t, at, lies, edits, holds) = cut_held in
      let made = cut_made bam before before-reverse start room r e in
      let given : starts ≡ Some a = rw (ne_eqb (length old_bases) (length (read_seq bam)) (λ q. omega (arith, q, less)), s) in
      let known : Some a ≡ Some lo = sym given ∙ at in
      let same : a ≡ lo = cc in
      let cut : edited (cut_to a (window a k old_bases)) (has_ml bam) old_bases (text_of (mm_of bam)) (values_of (ml_of bam)) ≡ Ok t =
      (λ j. edited (cut_to (same j) (sym w j)) (has_ml bam) old_bases (text_of (mm_of bam)) (values_of (ml_of bam))) ∙ edits in
      record {
        tagged = holds.tagged;
        listed =
            then_listed made t holds
            ∙ ap (λ (l : List ℕ). lists (has_ml bam) l t.text (cond (has_ml bam) t.ml (values_of (ml_of r.bytes)))) w
            ∙ cut_keeps_the_others (has_ml bam) old_bases (text_of (mm_of bam)) (values_of (ml_of bam)) ls old.listed (values_of (ml_of r.bytes)) a k t fits cut;
      }

-- ---- am and bm, which are edited without ML

pub alone_low : (k : ℕ) → is_alone k ≡ true → k < 5
alone_low k a =
    by-test (eqb k am)
    (λ e. omega (arith, eqb-true k am e))
    (λ e. let b : eqb k bm ≡ true = rw e at a in omega (arith, eqb-true k bm b))

module _ (k : ℕ) (alone : is_alone k ≡ true) (bam : List ℕ) (room : ℕ) (r : Finished) (ls : List Listing) (kept : keeps k bam r.bytes ≡ true) where
  abbrev text_then : List ℕ
  text_then = text_of (first_named k (fields_in bam))

  abbrev text_now : List ℕ
  text_now = text_of (first_named k (fields_in r.bytes))

  alone_listed : {n : ℕ} {new : List Field} (m : Made n bam new r) (t : Tag) → text_now ≡ t.text
      → lists false (read_seq r.bytes) text_now [] ≡ lists false (read_seq bam) t.text []
  alone_listed m t h = λ j. lists false (seq_same m j) (h j) []

  module _ (places : List ℕ) (e : drop_record bam places room ≡ Ok r) (old : AloneListsOver (read_seq bam) k bam ls) where
    abbrev gone : List ℕ
    gone = read_places bam places

    alone_some_dropped : is_empty places ≡ false → AloneListsOver (read_seq r.bytes) k r.bytes (map (without_calls_at gone) ls)
    unfolding drop_edit
    alone_some_dropped p =
        let made = drop_made bam places room r e in
        let is = drop_is (is_reverse bam) (seq_length bam) (packed_seq bam) places (fields_in bam) p (alone_tagged (fields_in bam) k alone old.is_text_lem)
        (not_removed made k old.is_text_lem kept (alone_low k alone)) in
        let (t, edits, is_text_lem, text) = alone_held made k old.is_text_lem kept (drop_edit (read_seq bam) gone) (drop_tidy (read_seq bam) gone) 0 None (lengths_none 0) is alone in
        record {
          is_text_lem = is_text_lem;
          listed = alone_listed made t text ∙ drop_keeps_the_others false (read_seq bam) text_then [] ls old.listed [] gone t edits;
        }

    alone_no_dropped : places ≡ [] → AloneListsOver (read_seq r.bytes) k r.bytes (map (without_calls_at gone) ls)
    alone_no_dropped p =
        let came : r.bytes ≡ bam = (dropped_nowhere bam room r (subst (λ (l : List ℕ). drop_record bam l room ≡ Ok r) p e)).bytes_same in
        let same : map (without_calls_at gone) ls ≡ ls =
        ap (λ (l : List ℕ). map (without_calls_at l) ls) (ap (places_in_read (is_reverse bam) (seq_length bam)) p ∙ no_place_turned (is_reverse bam) (seq_length bam))
        ∙ none_dropped ls in
        subst (AloneListsOver (read_seq r.bytes) k r.bytes) (sym same) (subst (λ (b : List ℕ). AloneListsOver (read_seq b) k b ls) (sym came) old)

    -- After a drop am and bm list what they listed, without the calls at the places.
    pub drop_alone_lists : AloneListsOver (read_seq r.bytes) k r.bytes (map (without_calls_at (read_places bam places)) ls)
    drop_alone_lists = by-test (is_empty places) (λ p. alone_no_dropped (no_place places p)) alone_some_dropped

  -- After a mask that changed SEQ only by N, am and bm list what they listed over SEQ before, without the calls whose base is masked.
  pub mask_alone_lists : (before : List ℕ) → mask_record bam before room ≡ Ok r → AloneListsOver (turned_letters (is_reverse bam) before) k bam ls
      → same_bytes_of before (stored_seq bam) ≡ false → differs_by_n (turned_letters (is_reverse bam) before) (read_seq bam) ≡ true
      → AloneListsOver (read_seq r.bytes) k r.bytes (map (unmasked_calls (read_seq bam)) ls)
  unfolding mask_edit
  mask_alone_lists before e old differs by_n =
      let then = turned_letters (is_reverse bam) before in
      let made = mask_made bam before room r e in
      let is = mask_is (is_reverse bam) (seq_length bam) (packed_seq bam) before (fields_in bam) differs (alone_tagged (fields_in bam) k alone old.is_text_lem)
      (not_removed made k old.is_text_lem kept (alone_low k alone)) in
      let (t, edits, is_text_lem, text) = alone_held made k old.is_text_lem kept (mask_edit then (read_seq bam)) (mask_tidy then (read_seq bam)) 0 None (lengths_none 0) is alone in
      let masks : edited (masked_to (read_seq bam)) false then text_then [] ≡ Ok t = need_rest (eqb (length then) (length (read_seq bam))) 2 _ t edits in
      record {
        is_text_lem = is_text_lem;
        listed =
            alone_listed made t text
            ∙ ap (then_lists false (read_seq bam) []) (sym masks)
            ∙ mask_keeps_the_others false then (read_seq bam) text_then [] ls [] old.listed by_n;
      }

  -- After a cut am and bm list what they listed over SEQ before, without the calls whose base is no longer in SEQ, each nearer to the front by what was cut
  -- off before it.
  pub cut_alone_lists : (before : List ℕ) (before-reverse : Bool) (start : Option ℕ) → cut_record bam before before-reverse start room ≡ Ok r
      → AloneListsOver (turned_letters before-reverse before) k bam ls → same_bytes_of (turned_letters before-reverse before) (read_seq bam) ≡ false
      → (lo : ℕ) × (begins_at bam before before-reverse start ≡ Some lo)
      × AloneListsOver (read_seq r.bytes) k r.bytes (map (calls_held_in lo (read_seq bam)) ls)
  unfolding cut_edit
  cut_alone_lists before before-reverse start e old differs =
      let n = seq_length bam in
      let then = turned_letters before-reverse before in
      let made = cut_made bam before before-reverse start room r e in
      let (lo, q, is) = cut_is (is_reverse bam) n (packed_seq bam) before before-reverse start (fields_in bam) differs (alone_tagged (fields_in bam) k alone old.is_text_lem)
      (not_removed made k old.is_text_lem kept (alone_low k alone)) in
      let (at, lies) = window_found (begins_at bam before before-reverse start) then (read_seq bam) lo q in
      let (t, edits, is_text_lem, text) = alone_held made k old.is_text_lem kept (cut_edit lo then (read_seq bam)) (cut_tidy lo then (read_seq bam)) 3 (cond (eqb (length before) n) None (Some n))
      (λ b. lengths_some (eqb (length before) n) b n) is alone in (
        lo,
        at,
        record {
          is_text_lem = is_text_lem;
          listed = alone_listed made t text ∙ cut_keeps_the_held false then text_then [] ls old.listed [] lo (read_seq bam) t lies edits;
        },
      )
