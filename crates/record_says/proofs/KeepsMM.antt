-- When MM is kept. If the reader accepts the tag over SEQ before and MN agrees, then a mask by N keeps MM, a cut to a known window keeps MM, and a drop
-- keeps MM exactly where it takes no call under a header that doesn't end in '?'.
-- Assumes nothing.
use Rattle.std.specs.Prelude.{Ok, Option, None, Some}
use mathlib.Core.Path.{◌≡◌, refl, sym, ap, ◌∙◌, subst}
use Prim.Native.Nat.{ℕ, suc}
use native.Mathlib.Omega.{arith}
use mathlib.Core.Bool.{Bool, true, false, cond, not, ◌&&◌, ◌||◌}
use mathlib.Core.List.{List, [], ◌∷◌, ◌++◌, map}
use lib.Dec.{eqb}
use lib.ListN.{length}
use borrow.Author.Tests.{eq-eqb, not-true}
use Rattle.lent.proofs.Lists.{every_ext, every_map, every_not}
use Rattle.lent.proofs.Outcome.{and_then_inv, done_inj, need_test}
use Rattle.lent.proofs.Tests.{and_true_r, by-test, test_ext}
use Rattle.lent.specs.Lists.{among, any, every, is_empty}
use Rattle.packed.specs.Packed.{unpack}
use Rattle.packed.specs.Stored.{in_read, places_in_read}
use Rattle.record_fields.proofs.Kept.{name_kept}
use Rattle.record_fields.specs.Bam.{is_reverse, packed_seq, seq_length}
use Rattle.record_fields.specs.Fields.{Field, MM, MN, first_named}
use Rattle.record_rows.specs.Letters.{turned_letters}
use Rattle.record_says.proofs.Listed.{drop_is, no_place, no_place_turned}
use Rattle.record_says.proofs.Edits.{Tidy, cut_tidy, drop_tidy, editing_sound, first_is, lengths_none, lengths_some, mask_tidy}
use Rattle.record_says.proofs.Firsts.{first_counted}
use Rattle.record_says.proofs.Held.{empty_is, held, mm_tagged, not_removed, tag_text, text_there}
use Rattle.record_says.proofs.Made.{Made, cut_made, drop_made, fields_are, mask_made, old_fields}
use Rattle.record_says.proofs.Pieces.{Lengths, field_long}
use Rattle.record_says.specs.Says.{ListsOver, begins_at, fields_in, has_ml, has_tag, keeps, ml_of, mm_of, mn_of, read_places, read_seq, stored_seq, times}
use Rattle.record_tags.specs.Changes.{TagEdit, changed, editing, is_tagged, length_sets, with_ml}
use Rattle.record_tags.specs.Changes as changes
use Rattle.record_tags.specs.Records.{Finished, cut_edit, cut_fields, cut_record, drop_edit, drop_fields, drop_record, mask_edit, mask_fields, mask_record, start_of, window_in}
use Rattle.record_tags.specs.Values.{disagrees, is_byte_array, is_text, text_of, values_of, with_text}
use Rattle.samtags.proofs.Masking.{differs_by_n, mask_keeps_the_others, unmasked_calls}
use Rattle.samtags.proofs.Read.{allowed, may_drop}
use Rattle.samtags.proofs.Steps.{drop_answers, drop_group}
use Rattle.samtags.specs.Bytes.{letter_n}
use Rattle.samtags.specs.Edits.{cut_to, dropping_at, edited, masked_to, same_bytes_of, window_start}
use Rattle.samtags.specs.Edits as edits
use Rattle.samtags.specs.Meaning.{lists_unmarked}
use Rattle.samtags.specs.Reading.{lists, nowhere, read}
use Rattle.samtags.specs.Spots.{Call, Group, Listing, Spot, bare, call, calls_in, listing}
use Rattle.samtags.specs.Text.{ends_in_question}
use Rattle.samtags.specs.Writing.{Tag, written}

-- ---- fields that stay as they are

same_kept : {n : ℕ} {bam : List ℕ} {new : List Field} {r : Finished} (k : ℕ) → Made n bam new r → new ≡ fields_in bam → keeps k bam r.bytes ≡ true
same_kept {n} {bam} {new} {r} k m e = eq-eqb (times k (fields_in r.bytes)) (times k (fields_in bam)) (ap (times k) (fields_are m ∙ e))

-- ---- an edit that is done

module _ {n : ℕ} {bam : List ℕ} {new : List Field} {r : Finished} (made : Made n bam new r) (tag : has_tag bam ≡ true) where
  pub mm_is_text : is_text (mm_of bam) ≡ true
  mm_is_text = tag_text bam tag

  mm_is_there : is_empty (mm_of bam) ≡ false
  mm_is_there = text_there (mm_of bam) mm_is_text

  pub tagged : is_tagged (fields_in bam) ≡ true
  tagged = mm_tagged bam mm_is_text

  pub with_is : (edit : TagEdit) (t : Tag) → edit (has_ml bam) (text_of (mm_of bam)) (values_of (ml_of bam)) ≡ Ok t → with_ml edit (mm_of bam) (ml_of bam) ≡ Ok t
  unfolding with_ml
  with_is edit t e =
      by-test (is_empty (ml_of bam))
      (λ q.
      let z = empty_is (ml_of bam) q in
      rw q (subst (λ (ml : Field). edit (not (is_empty ml)) (text_of (mm_of bam)) (values_of ml) ≡ Ok t) z e))
      (λ q.
      let array : is_byte_array (ml_of bam) ≡ true =
      subst (λ (b : Bool). b || is_byte_array (ml_of bam) ≡ true) q (and_true_r (is_text (mm_of bam)) (is_empty (ml_of bam) || is_byte_array (ml_of bam)) tag) in
      let e' : edit true (text_of (mm_of bam)) (values_of (ml_of bam)) ≡ Ok t = rw q at e in
      rw (q, array) e')

  edit_kept : (edit : TagEdit) → Tidy edit → (m : ℕ) (len : Option ℕ) → ((b : Bool) → Lengths m (cond b (changes.goes ∷ []) [] ++ length_sets len))
      → new ≡ changed (editing edit len (fields_in bam)) (fields_in bam) → (t : Tag) → edit (has_ml bam) (text_of (mm_of bam)) (values_of (ml_of bam)) ≡ Ok t
      → keeps MM bam r.bytes ≡ true
  unfolding editing
  edit_kept edit tidy m len lengths is t e =
      let fs = fields_in bam in
      let first = first_is MM fs (old_fields made) mm_is_there in
      let long = field_long (mm_of bam) first.0 in
      let as_many =
      first_counted MM m (editing edit len fs) fs (with_text t.text (mm_of bam)) (old_fields made)
      (editing_sound edit tidy fs (old_fields made) made.fits m len lengths) mm_is_there (rw (mm_is_text, with_is edit t e))
      (name_kept (mm_of bam) (t.text ++ 0 ∷ []) 3 (omega arith) (omega (arith, long)) ∙ first.1) refl in
      eq-eqb (times MM (fields_in r.bytes)) (times MM fs) (ap (times MM) (fields_are made ∙ is) ∙ as_many)

-- ---- a mask

same_length : (xs ys : List ℕ) → differs_by_n xs ys ≡ true → length xs ≡ length ys
same_length [] [] h = refl
same_length [] (y ∷ ys) h = let z : ◌≡◌ {A = ℕ} 0 1 = cc in absurd (omega arith)
same_length (x ∷ xs) [] h = let z : ◌≡◌ {A = ℕ} 0 1 = cc in absurd (omega arith)
same_length (x ∷ xs) (y ∷ ys) h = ap suc (same_length xs ys (and_true_r (eqb y x || eqb y letter_n) (differs_by_n xs ys) h))

module _ (reverse : Bool) (n : ℕ) (packed before : List ℕ) (fs : List Field) (agrees : disagrees n (first_named MN fs) ≡ false) (t : is_tagged fs ≡ true) where
  mask_stays : same_bytes_of before (unpack n packed) ≡ true → mask_fields reverse n packed before fs ≡ fs
  unfolding mask_fields
  mask_stays s = rw (t, agrees, s)

  mask_edits : same_bytes_of before (unpack n packed) ≡ false
      → mask_fields reverse n packed before fs ≡ changed (editing (mask_edit (turned_letters reverse before) (in_read reverse n packed)) None fs) fs
  unfolding mask_fields
  mask_edits s = rw (t, agrees, s)

-- A mask by N keeps MM, if the reader accepts the tag over SEQ before and MN agrees with SEQ.
pub mask_keeps : (bam before : List ℕ) (room : ℕ) (r : Finished) (ls : List Listing) → mask_record bam before room ≡ Ok r
    → ListsOver (turned_letters (is_reverse bam) before) bam ls → disagrees (seq_length bam) (mn_of bam) ≡ false
    → differs_by_n (turned_letters (is_reverse bam) before) (read_seq bam) ≡ true → keeps MM bam r.bytes ≡ true
unfolding mask_edit
mask_keeps bam before room r ls e old agrees by_n =
    let tag = old.tagged in
    let then = turned_letters (is_reverse bam) before in
    let made = mask_made bam before room r e in
    let text = text_of (mm_of bam) in
    let ml = values_of (ml_of bam) in
    let (t, edits, reads) = and_then_inv (edited (masked_to (read_seq bam)) (has_ml bam) then text ml) _ (map (unmasked_calls (read_seq bam)) ls)
    (mask_keeps_the_others (has_ml bam) then (read_seq bam) text ml ls [] old.listed by_n) in
    let masks : mask_edit then (read_seq bam) (has_ml bam) text ml ≡ Ok t = rw (eq-eqb (length then) (length (read_seq bam)) (same_length then (read_seq bam) by_n)) edits in
    by-test (same_bytes_of before (stored_seq bam))
    (λ s. same_kept MM made (mask_stays (is_reverse bam) (seq_length bam) (packed_seq bam) before (fields_in bam) agrees (tagged made tag) s))
    (λ s. edit_kept made tag (mask_edit then (read_seq bam)) (mask_tidy then (read_seq bam)) 0 None (lengths_none 0)
    (mask_edits (is_reverse bam) (seq_length bam) (packed_seq bam) before (fields_in bam) agrees (tagged made tag) s) t masks)

-- ---- a cut

cut_answers : (lo : ℕ) (after : List ℕ) (ml? : Bool) (seq text ml : List ℕ) (gs : List Group) → read ml? nowhere seq text ml ≡ Ok gs
    → edited (cut_to lo after) ml? seq text ml ≡ Ok (written (map (edits.changed (cut_to lo after)) gs))
unfolding edited cut_to
cut_answers lo after ml? seq text ml gs reads = rw reads

cut_done : (lo : ℕ) (after : List ℕ) (ml? : Bool) (seq text ml : List ℕ) (ls : List Listing) → lists ml? seq text ml ≡ Ok ls
    → (t : Tag) × (edited (cut_to lo after) ml? seq text ml ≡ Ok t)
unfolding lists
cut_done lo after ml? seq text ml ls e =
    let (gs, reads, is) = and_then_inv (read ml? nowhere seq text ml) _ ls e in
    (written (map (edits.changed (cut_to lo after)) gs), cut_answers lo after ml? seq text ml gs reads)

module _ (reverse : Bool) (n : ℕ) (packed before : List ℕ) (before-reverse : Bool) (start : Option ℕ) (fs : List Field)
    (agrees : disagrees (length before) (first_named MN fs) ≡ false) (t : is_tagged fs ≡ true) where
  abbrev was : List ℕ
  was = turned_letters before-reverse before

  abbrev now : List ℕ
  now = in_read reverse n packed

  cut_stays : not (is_tagged fs) || is_empty before && eqb n 0 ≡ true → cut_fields reverse n packed before before-reverse start fs ≡ fs
  unfolding cut_fields
  cut_stays z = rw z

  cut_same_stays : not (is_tagged fs) || is_empty before && eqb n 0 ≡ false → same_bytes_of was now ≡ true → cut_fields reverse n packed before before-reverse start fs ≡ fs
  unfolding cut_fields
  cut_same_stays z s = rw (z, agrees, s)

  cut_edits : (lo : ℕ) → not (is_tagged fs) || is_empty before && eqb n 0 ≡ false → same_bytes_of was now ≡ false
      → window_in (window_start (start_of reverse before-reverse (length before) n start) was now) was now ≡ Some lo
      → cut_fields reverse n packed before before-reverse start fs ≡ changed (editing (cut_edit lo was now) (cond (eqb (length before) n) None (Some n)) fs) fs
  unfolding cut_fields
  cut_edits lo z s w = rw (z, agrees, s, w)

-- A cut to a known window keeps MM, if the reader accepts the tag over SEQ before and MN agrees with SEQ before.
pub cut_keeps : (bam before : List ℕ) (before-reverse : Bool) (start : Option ℕ) (room : ℕ) (r : Finished) (ls : List Listing) (lo : ℕ)
    → cut_record bam before before-reverse start room ≡ Ok r → ListsOver (turned_letters before-reverse before) bam ls
    → disagrees (length before) (mn_of bam) ≡ false
    → window_in (begins_at bam before before-reverse start)
    (turned_letters before-reverse before) (read_seq bam) ≡ Some lo
    → keeps MM bam r.bytes ≡ true
unfolding cut_edit
cut_keeps bam before before-reverse start room r ls lo e old agrees w =
    let tag = old.tagged in
    let n = seq_length bam in
    let fs = fields_in bam in
    let then = turned_letters before-reverse before in
    let made = cut_made bam before before-reverse start room r e in
    let (t, cuts) = cut_done lo (read_seq bam) (has_ml bam) then (text_of (mm_of bam)) (values_of (ml_of bam)) ls old.listed in
    by-test (not (is_tagged fs) || is_empty before && eqb n 0)
    (λ z. same_kept MM made (cut_stays (is_reverse bam) n (packed_seq bam) before before-reverse start fs agrees (tagged made tag) z))
    (λ z. by-test (same_bytes_of then (read_seq bam))
    (λ s. same_kept MM made (cut_same_stays (is_reverse bam) n (packed_seq bam) before before-reverse start fs agrees (tagged made tag) z s))
    (λ s. edit_kept made tag (cut_edit lo then (read_seq bam)) (cut_tidy lo then (read_seq bam)) 3 (cond (eqb (length before) n) None (Some n))
    (λ b. lengths_some (eqb (length before) n) b n)
    (cut_edits (is_reverse bam) n (packed_seq bam) before before-reverse start fs agrees (tagged made tag) lo z s w) t cuts))

-- ---- a drop

-- a group may lose its calls at the places exactly if it lists none there, or its header ends in '?'
may_drop_lem : (ps : List ℕ) (g : Group) → may_drop (among ps) g ≡ not (lists_unmarked ps (listing g))
unfolding may_drop lists_unmarked
may_drop_lem ps g = go (ends_in_question g.header) g.spots
  where
    never : (t : Bool) → not (t && false) ≡ true
    never true = refl
    never false = refl

    go : (u : Bool) (ss : List Spot) → every (allowed (λ p. among ps p && not u)) ss ≡ not (any (λ (c : Call). among ps c.place) (calls_in ss) && not u)
    go true [] = refl
    go false [] = refl
    go u (bare p ∷ ss) = go u ss
    go true (call p vs ∷ ss) = by-test (among ps p) (λ e. rw e (go true ss ∙ never (any (λ (c : Call). among ps c.place) (calls_in ss)))) (λ e. rw e (go true ss))
    go false (call p vs ∷ ss) = by-test (among ps p) (λ e. rw e) (λ e. rw e (go false ss))

all_may_drop : (ps : List ℕ) (gs : List Group) → every (may_drop (among ps)) gs ≡ not (any (lists_unmarked ps) (map listing gs))
all_may_drop ps gs =
    every_ext (may_drop (among ps)) (λ g. not (lists_unmarked ps (listing g))) (may_drop_lem ps) gs
    ∙ sym (every_map (λ l. not (lists_unmarked ps l)) listing gs) ∙ every_not (lists_unmarked ps) (map listing gs)

drop_done : (ps : List ℕ) (ml? : Bool) (seq text ml : List ℕ) (ls : List Listing) → lists ml? seq text ml ≡ Ok ls → any (lists_unmarked ps) ls ≡ false
    → (t : Tag) × (edited (dropping_at ps) ml? seq text ml ≡ Ok t)
unfolding lists
drop_done ps ml? seq text ml ls e free =
    let (gs, reads, is) = and_then_inv (read ml? nowhere seq text ml) _ ls e in
    let may : every (may_drop (among ps)) gs ≡ true =
    all_may_drop ps gs ∙ ap (λ (l : List Listing). not (any (lists_unmarked ps) l)) (done_inj is) ∙ ap not free in
    (written (map (drop_group (among ps)) gs), drop_answers ml? seq text ml gs reads ps ∙ rw may)

module _ (reverse : Bool) (n : ℕ) (packed places : List ℕ) (fs : List Field) where
  drop_stays : is_empty places || not (is_tagged fs) ≡ true → drop_fields reverse n packed places fs ≡ fs
  unfolding drop_fields
  drop_stays z = rw z

  drop_edits : is_empty places || not (is_tagged fs) ≡ false → disagrees n (first_named MN fs) ≡ false
      → drop_fields reverse n packed places fs ≡ changed (editing (drop_edit (in_read reverse n packed) (places_in_read reverse n places)) None fs) fs
  unfolding drop_fields
  drop_edits z agrees = rw (z, agrees)

none_unmarked : (ls : List Listing) → any (lists_unmarked []) ls ≡ false
unfolding lists_unmarked
none_unmarked [] = refl
none_unmarked (l ∷ ls) = rw (no_call l.calls) (none_unmarked ls)
  where
    no_call : (cs : List Call) → any (λ (c : Call). among [] c.place) cs ≡ false
    no_call [] = refl
    no_call (c ∷ cs) = no_call cs

-- a drop that is done takes no such call
drop_free : (ps : List ℕ) (ml? : Bool) (seq text ml : List ℕ) (ls : List Listing) (t : Tag) → lists ml? seq text ml ≡ Ok ls
    → edited (dropping_at ps) ml? seq text ml ≡ Ok t → any (lists_unmarked ps) ls ≡ false
unfolding lists
drop_free ps ml? seq text ml ls t e d =
    let (gs, reads, is) = and_then_inv (read ml? nowhere seq text ml) _ ls e in
    let may = need_test (every (may_drop (among ps)) gs) 10 (Ok (written (map (drop_group (among ps)) gs))) t (sym (drop_answers ml? seq text ml gs reads ps) ∙ d) in
    not-true (any (lists_unmarked ps) ls) (ap (λ (l : List Listing). not (any (lists_unmarked ps) l)) (sym (done_inj is)) ∙ sym (all_may_drop ps gs) ∙ may)

module _ (bam places : List ℕ) (room : ℕ) (r : Finished) (ls : List Listing) (e : drop_record bam places room ≡ Ok r) (old : ListsOver (read_seq bam) bam ls) where
  abbrev ps : List ℕ
  ps = read_places bam places

  kept_is_free : keeps MM bam r.bytes ≡ true → any (lists_unmarked ps) ls ≡ false
  unfolding drop_edit
  kept_is_free kept =
      let tag = old.tagged in
      let made = drop_made bam places room r e in
      by-test (is_empty places)
      (λ z.
      let None : ps ≡ [] = ap (places_in_read (is_reverse bam) (seq_length bam)) (no_place places z) ∙ no_place_turned (is_reverse bam) (seq_length bam) in
      ap (λ (l : List ℕ). any (lists_unmarked l) ls) None ∙ none_unmarked ls)
      (λ z.
      let is = drop_is (is_reverse bam) (seq_length bam) (packed_seq bam) places (fields_in bam) z (tagged made tag)
      (not_removed made MM (mm_is_text made tag) kept (omega arith)) in
      let (t, drops, holds) = held made tag kept (drop_edit (read_seq bam) ps) (drop_tidy (read_seq bam) ps) 0 None (lengths_none 0) is in
      drop_free ps (has_ml bam) (read_seq bam) (text_of (mm_of bam)) (values_of (ml_of bam)) ls t old.listed drops)

  free_is_kept : disagrees (seq_length bam) (mn_of bam) ≡ false → any (lists_unmarked ps) ls ≡ false → keeps MM bam r.bytes ≡ true
  unfolding drop_edit
  free_is_kept agrees free =
      let tag = old.tagged in
      let fs = fields_in bam in
      let made = drop_made bam places room r e in
      let (t, drops) = drop_done ps (has_ml bam) (read_seq bam) (text_of (mm_of bam)) (values_of (ml_of bam)) ls old.listed free in
      by-test (is_empty places || not (is_tagged fs))
      (λ z. same_kept MM made (drop_stays (is_reverse bam) (seq_length bam) (packed_seq bam) places fs z))
      (λ z. edit_kept made tag (drop_edit (read_seq bam) ps) (drop_tidy (read_seq bam) ps) 0 None (lengths_none 0)
      (drop_edits (is_reverse bam) (seq_length bam) (packed_seq bam) places fs z agrees) t drops)

-- If the reader accepts the tag over SEQ and MN agrees with SEQ, a drop keeps MM exactly where it takes no call under a header without '?'.
pub drop_keeps : (bam places : List ℕ) (room : ℕ) (r : Finished) (ls : List Listing) → drop_record bam places room ≡ Ok r → ListsOver (read_seq bam) bam ls
    → disagrees (seq_length bam) (mn_of bam) ≡ false → keeps MM bam r.bytes ≡ not (any (lists_unmarked (read_places bam places)) ls)
drop_keeps bam places room r ls e old agrees =
    let unmarked = any (lists_unmarked (read_places bam places)) ls in
    test_ext (keeps MM bam r.bytes) (not unmarked) (λ k. ap not (kept_is_free bam places room r ls e old k))
    (λ f. free_is_kept bam places room r ls e old agrees (not-true unmarked f))
