-- Where a call edited a tag and kept it, the reader accepted the old tag over SEQ as it was. So the theorems of Edited apply, and the reader accepts the new
-- tag over SEQ as it is now: nothing need be known of the tag but its type.
-- Assumes nothing.
use Rattle.std.specs.Prelude.{Ok, Option, None, Some}
use mathlib.Core.Path.{◌≡◌, refl}
use Prim.Native.Nat.{ℕ}
use native.Mathlib.Omega.{arith}
use mathlib.Core.Bool.{Bool, true, false, cond}
use mathlib.Core.List.{List, [], ◌∷◌, ◌++◌, map}
use lib.Dec.{eqb}
use lib.ListN.{length}
use Rattle.lent.proofs.Outcome.{and_then_inv, need_rest}
use Rattle.lent.specs.Lists.{every, is_empty}
use Rattle.record_fields.specs.Bam.{is_reverse, packed_seq, seq_length}
use Rattle.record_fields.specs.Fields.{Field, MM, first_named}
use Rattle.record_rows.specs.Letters.{turned_letters}
use Rattle.record_says.proofs.Edited as edited-lists
use Rattle.record_says.proofs.Edits.{Tidy, cut_tidy, drop_tidy, lengths_none, lengths_some, mask_tidy}
use Rattle.record_says.proofs.Held.{alone_held, alone_tagged, held, mm_tagged, not_removed, was_a_tag}
use Rattle.record_says.proofs.Listed.{alone_low, cut_is, drop_is, mask_is}
use Rattle.record_says.proofs.Made.{Made, cut_made, drop_made, mask_made}
use Rattle.record_says.proofs.Pieces.{Lengths}
use Rattle.record_says.specs.Says.{AloneListsOver, AloneRewritten, ListsOver, Rewritten, begins_at, fields_in, has_ml, is_alone, keeps, ml_of, mm_of, read_places, read_seq, stored_seq}
use Rattle.record_tags.specs.Changes.{TagEdit, changed, editing, length_sets}
use Rattle.record_tags.specs.Changes as changes
use Rattle.record_tags.specs.Records.{Finished, cut_edit, cut_record, drop_edit, drop_record, mask_edit, mask_record}
use Rattle.record_tags.specs.Values.{is_text, text_of, values_of}
use Rattle.samtags.proofs.Kept.{calls_held_in, without_calls_at}
use Rattle.samtags.proofs.Masking.{differs_by_n, unmasked_calls}
use Rattle.samtags.proofs.Read.{allowed, may_drop, tag_denied, tag_read}
use Rattle.samtags.specs.Edits.{Edit, cut_to, dropping_at, edited, masked_to, same_bytes_of}
use Rattle.samtags.specs.Reading.{denied_to, lists, nowhere, read}
use Rattle.samtags.specs.Spots.{Group, Listing, Spot, bare, call, listing}
use Rattle.samtags.specs.Writing.{Tag}

-- ---- a tag that was edited was accepted

nothing_denied : (h : List ℕ) (ss : List Spot) → every (allowed (denied_to h nowhere)) ss ≡ true
nothing_denied h [] = refl
nothing_denied h (bare p ∷ ss) = nothing_denied h ss
nothing_denied h (call p vs ∷ ss) = nothing_denied h ss

all_allowed : (gs : List Group) → every (may_drop nowhere) gs ≡ true
unfolding may_drop
all_allowed [] = refl
all_allowed (g ∷ gs) = rw (nothing_denied g.header g.spots) (all_allowed gs)

-- whatever places are dropped
edited_was_read : (e : Edit) (ml? : Bool) (seq text ml : List ℕ) (t : Tag) → edited e ml? seq text ml ≡ Ok t
    → (ls : List Listing) × (lists ml? seq text ml ≡ Ok ls)
unfolding edited lists
edited_was_read e ml? seq text ml t d =
    let (gs, reads, is) = and_then_inv (read ml? e.dropped seq text ml) _ t d in
    (map listing gs, rw (tag_denied nowhere (tag_read ml? e.dropped seq text ml gs reads), all_allowed gs))

-- an edit that was done was of a tag that the reader accepts over this SEQ
abbrev Reads : TagEdit → List ℕ → Type 0
Reads edit seq = (ml? : Bool) (text ml : List ℕ) (t : Tag) → edit ml? text ml ≡ Ok t → (ls : List Listing) × (lists ml? seq text ml ≡ Ok ls)

drop_reads : (seq places : List ℕ) → Reads (drop_edit seq places) seq
unfolding drop_edit
drop_reads seq places ml? text ml t e = edited_was_read (dropping_at places) ml? seq text ml t e

mask_reads : (before seq : List ℕ) → Reads (mask_edit before seq) before
unfolding mask_edit
mask_reads before seq ml? text ml t e =
    edited_was_read (masked_to seq) ml? before text ml t (need_rest (eqb (length before) (length seq)) 2 (edited (masked_to seq) ml? before text ml) t e)

cut_reads : (lo : ℕ) (before seq : List ℕ) → Reads (cut_edit lo before seq) before
unfolding cut_edit
cut_reads lo before seq ml? text ml t e = edited_was_read (cut_to lo seq) ml? before text ml t e

-- ---- a field that was edited and kept

module _ {n : ℕ} {bam : List ℕ} {new : List Field} {r : Finished} (made : Made n bam new r) (edit : TagEdit) (tidy : Tidy edit) (seq : List ℕ)
    (reads : Reads edit seq) (m : ℕ) (len : Option ℕ) (lengths : (b : Bool) → Lengths m (cond b (changes.goes ∷ []) [] ++ length_sets len))
    (is : new ≡ changed (editing edit len (fields_in bam)) (fields_in bam)) where
  mm_listed : is_text (mm_of bam) ≡ true → keeps MM bam r.bytes ≡ true → (ls : List Listing) × ListsOver seq bam ls
  mm_listed text kept =
      let tag = was_a_tag made text kept edit tidy m len lengths is in
      let (t, e, holds) = held made tag kept edit tidy m len lengths is in
      let (ls, listed) = reads (has_ml bam) (text_of (mm_of bam)) (values_of (ml_of bam)) t e in
      (ls, record { tagged = tag; listed = listed })

  alone_listed : (k : ℕ) → is_alone k ≡ true → is_text (first_named k (fields_in bam)) ≡ true → keeps k bam r.bytes ≡ true
      → (ls : List Listing) × AloneListsOver seq k bam ls
  alone_listed k alone text kept =
      let (t, e, is_text_lem, now) = alone_held made k text kept edit tidy m len lengths is alone in
      let (ls, listed) = reads false (text_of (first_named k (fields_in bam))) [] t e in
      (ls, record { is_text_lem = text; listed = listed })

-- ---- MM with its ML

-- A drop with places kept MM, a text.
pub drop_accepted : (bam places : List ℕ) (room : ℕ) (r : Finished) → drop_record bam places room ≡ Ok r → is_text (mm_of bam) ≡ true
    → keeps MM bam r.bytes ≡ true → is_empty places ≡ false → Rewritten (read_seq bam) bam r.bytes (without_calls_at (read_places bam places))
drop_accepted bam places room r e text kept some-place =
    let made = drop_made bam places room r e in
    let ps = read_places bam places in
    let is = drop_is (is_reverse bam) (seq_length bam) (packed_seq bam) places (fields_in bam) some-place (mm_tagged bam text) (not_removed made MM text kept (omega arith)) in
    let (ls, before) = mm_listed made (drop_edit (read_seq bam) ps) (drop_tidy (read_seq bam) ps) (read_seq bam) (drop_reads (read_seq bam) ps) 0 None (lengths_none 0) is text kept in
    record { listed = ls; before = before; after = edited-lists.drop_lists bam places room r ls e kept before }

-- A mask that changed SEQ, by N only, kept MM, a text.
pub mask_accepted : (bam before : List ℕ) (room : ℕ) (r : Finished) → mask_record bam before room ≡ Ok r → is_text (mm_of bam) ≡ true
    → keeps MM bam r.bytes ≡ true → same_bytes_of before (stored_seq bam) ≡ false → differs_by_n (turned_letters (is_reverse bam) before) (read_seq bam) ≡ true
    → Rewritten (turned_letters (is_reverse bam) before) bam r.bytes (unmasked_calls (read_seq bam))
mask_accepted bam before room r e text kept differs by_n =
    let made = mask_made bam before room r e in
    let old = turned_letters (is_reverse bam) before in
    let is = mask_is (is_reverse bam) (seq_length bam) (packed_seq bam) before (fields_in bam) differs (mm_tagged bam text) (not_removed made MM text kept (omega arith)) in
    let (ls, then) = mm_listed made (mask_edit old (read_seq bam)) (mask_tidy old (read_seq bam)) old (mask_reads old (read_seq bam)) 0 None (lengths_none 0) is text kept in
    record { listed = ls; before = then; after = edited-lists.mask_lists bam before room r ls e kept then differs by_n }

-- A cut that changed SEQ kept MM, a text.
pub cut_accepted : (bam before : List ℕ) (before-reverse : Bool) (start : Option ℕ) (room : ℕ) (r : Finished)
    → cut_record bam before before-reverse start room ≡ Ok r → is_text (mm_of bam) ≡ true → keeps MM bam r.bytes ≡ true
    → same_bytes_of (turned_letters before-reverse before) (read_seq bam) ≡ false
    → (lo : ℕ) × (begins_at bam before before-reverse start ≡ Some lo)
    × Rewritten (turned_letters before-reverse before) bam r.bytes (calls_held_in lo (read_seq bam))
cut_accepted bam before before-reverse start room r e text kept differs =
    let made = cut_made bam before before-reverse start room r e in
    let n = seq_length bam in
    let old = turned_letters before-reverse before in
    let (at, begins, is) = cut_is (is_reverse bam) n (packed_seq bam) before before-reverse start (fields_in bam) differs (mm_tagged bam text) (not_removed made MM text kept (omega arith)) in
    let (ls, then) = mm_listed made (cut_edit at old (read_seq bam)) (cut_tidy at old (read_seq bam)) old (cut_reads at old (read_seq bam)) 3
    (cond (eqb (length before) n) None (Some n)) (λ b. lengths_some (eqb (length before) n) b n) is text kept in
    let (lo, known, after) = edited-lists.cut_lists bam before before-reverse start room r ls e kept then differs in
    (lo, known, record { listed = ls; before = then; after = after })

-- ---- am and bm, without ML

module _ (k : ℕ) (alone : is_alone k ≡ true) (bam : List ℕ) (room : ℕ) (r : Finished) (text : is_text (first_named k (fields_in bam)) ≡ true)
    (kept : keeps k bam r.bytes ≡ true) where
  -- A drop with places kept am or bm, a text.
  pub drop_alone_accepted : (places : List ℕ) → drop_record bam places room ≡ Ok r → is_empty places ≡ false
      → AloneRewritten (read_seq bam) k bam r.bytes (without_calls_at (read_places bam places))
  drop_alone_accepted places e some-place =
      let made = drop_made bam places room r e in
      let ps = read_places bam places in
      let is = drop_is (is_reverse bam) (seq_length bam) (packed_seq bam) places (fields_in bam) some-place (alone_tagged (fields_in bam) k alone text)
      (not_removed made k text kept (alone_low k alone)) in
      let (ls, before) = alone_listed made (drop_edit (read_seq bam) ps) (drop_tidy (read_seq bam) ps) (read_seq bam) (drop_reads (read_seq bam) ps) 0 None (lengths_none 0) is
      k alone text kept in
      record { listed = ls; before = before; after = edited-lists.drop_alone_lists k alone bam room r ls kept places e before }

  -- A mask that changed SEQ, by N only, kept am or bm, a text.
  pub mask_alone_accepted : (before : List ℕ) → mask_record bam before room ≡ Ok r → same_bytes_of before (stored_seq bam) ≡ false
      → differs_by_n (turned_letters (is_reverse bam) before) (read_seq bam) ≡ true
      → AloneRewritten (turned_letters (is_reverse bam) before) k bam r.bytes (unmasked_calls (read_seq bam))
  mask_alone_accepted before e differs by_n =
      let made = mask_made bam before room r e in
      let old = turned_letters (is_reverse bam) before in
      let is = mask_is (is_reverse bam) (seq_length bam) (packed_seq bam) before (fields_in bam) differs (alone_tagged (fields_in bam) k alone text)
      (not_removed made k text kept (alone_low k alone)) in
      let (ls, then) = alone_listed made (mask_edit old (read_seq bam)) (mask_tidy old (read_seq bam)) old (mask_reads old (read_seq bam)) 0 None (lengths_none 0) is k alone text kept in
      record { listed = ls; before = then; after = edited-lists.mask_alone_lists k alone bam room r ls kept before e then differs by_n }

  -- A cut that changed SEQ kept am or bm, a text.
  pub cut_alone_accepted : (before : List ℕ) (before-reverse : Bool) (start : Option ℕ) → cut_record bam before before-reverse start room ≡ Ok r
      → same_bytes_of (turned_letters before-reverse before) (read_seq bam) ≡ false
      → (lo : ℕ) × (begins_at bam before before-reverse start ≡ Some lo)
      × AloneRewritten (turned_letters before-reverse before) k bam r.bytes (calls_held_in lo (read_seq bam))
  cut_alone_accepted before before-reverse start e differs =
      let made = cut_made bam before before-reverse start room r e in
      let n = seq_length bam in
      let old = turned_letters before-reverse before in
      let (at, begins, is) = cut_is (is_reverse bam) n (packed_seq bam) before before-reverse start (fields_in bam) differs (alone_tagged (fields_in bam) k alone text)
      (not_removed made k text kept (alone_low k alone)) in
      let (ls, then) = alone_listed made (cut_edit at old (read_seq bam)) (cut_tidy at old (read_seq bam)) old (cut_reads at old (read_seq bam)) 3
      (cond (eqb (length before) n) None (Some n)) (λ b. lengths_some (eqb (length before) n) b n) is k alone text kept in
      let (lo, known, after) = edited-lists.cut_alone_lists k alone bam room r ls kept before before-reverse start e then differs in
      (lo, known, record { listed = ls; before = then; after = after })
