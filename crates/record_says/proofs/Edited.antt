-- Where MM was edited, the new record holds a tag that the reader accepts over SEQ as it is now. It lists the calls that the old tag listed over SEQ as it
-- was, without those that were dropped, masked or cut off, and every other call has its values and is on its base. So do am and bm, which are read without
-- ML.
-- Assumes nothing.
use Rattle.std.specs.Prelude.{Ok, Option, Some}
use mathlib.Core.Path.{◌≡◌}
use Prim.Native.Nat.{ℕ, ◌+◌, ◌≤◌, ◌<◌}
use mathlib.Core.Bool.{Bool, true, false}
use mathlib.Core.List.{List, map}
use lib.ListN.{length}
use Rattle.record_fields.specs.Bam.{is_reverse, seq_length}
use Rattle.record_fields.specs.Fields.{MM}
use Rattle.record_rows.specs.Letters.{turned_letters}
use Rattle.record_says.proofs.Listed as listed
use Rattle.record_says.specs.Says.{AloneListsOver, ListsOver, begins_at, is_alone, keeps, read_places, read_seq, stored_seq}
use Rattle.record_tags.specs.Records.{Finished, cut_record, drop_record, mask_record, start_of}
use Rattle.samtags.proofs.Kept.{calls_held_in, calls_in_window, without_calls_at}
use Rattle.samtags.proofs.Masking.{differs_by_n, unmasked_calls}
use Rattle.samtags.specs.Edits.{same_bytes_of}
use Rattle.samtags.specs.Session.{window}
use Rattle.samtags.specs.Spots.{Listing}

-- ---- MM with its ML

-- After a drop that kept MM, the tag lists what it listed, without the calls at the places.
pub drop_lists : (bam places : List ℕ) (room : ℕ) (r : Finished) (ls : List Listing)
    → drop_record bam places room ≡ Ok r → keeps MM bam r.bytes ≡ true → ListsOver (read_seq bam) bam ls
    → ListsOver (read_seq r.bytes) r.bytes (map (without_calls_at (read_places bam places)) ls)
drop_lists = listed.drop_lists

-- After a mask that changed SEQ only by N and kept MM, the tag lists what it listed over SEQ before, without the calls whose base is masked.
pub mask_lists : (bam before : List ℕ) (room : ℕ) (r : Finished) (ls : List Listing)
    → mask_record bam before room ≡ Ok r → keeps MM bam r.bytes ≡ true → ListsOver (turned_letters (is_reverse bam) before) bam ls
    → same_bytes_of before (stored_seq bam) ≡ false → differs_by_n (turned_letters (is_reverse bam) before) (read_seq bam) ≡ true
    → ListsOver (read_seq r.bytes) r.bytes (map (unmasked_calls (read_seq bam)) ls)
mask_lists = listed.mask_lists

-- After a cut that changed SEQ and kept MM, SEQ begins at a known place of SEQ before. The tag lists what it listed there, without the calls whose base is
-- no longer in SEQ, and every other call is as many places nearer to the front as were cut off before it.
pub cut_lists : (bam before : List ℕ) (before-reverse : Bool) (start : Option ℕ) (room : ℕ) (r : Finished) (ls : List Listing)
    → cut_record bam before before-reverse start room ≡ Ok r → keeps MM bam r.bytes ≡ true → ListsOver (turned_letters before-reverse before) bam ls
    → same_bytes_of (turned_letters before-reverse before) (read_seq bam) ≡ false
    → (lo : ℕ) × (begins_at bam before before-reverse start ≡ Some lo) × ListsOver (read_seq r.bytes) r.bytes (map (calls_held_in lo (read_seq bam)) ls)
cut_lists = listed.cut_lists

-- If SEQ is then the k bases from place a of SEQ before, unmasked and fewer than before, and the start is known to be there, the tag lists every call inside.
pub clean_cut_lists : (bam before : List ℕ) (before-reverse : Bool) (start : Option ℕ) (room : ℕ) (r : Finished) (ls : List Listing)
    → cut_record bam before before-reverse start room ≡ Ok r → keeps MM bam r.bytes ≡ true → ListsOver (turned_letters before-reverse before) bam ls
    → same_bytes_of (turned_letters before-reverse before) (read_seq bam) ≡ false
    → (a k : ℕ) → start_of (is_reverse bam) before-reverse (length before) (seq_length bam) start ≡ Some a
    → read_seq bam ≡ window a k (turned_letters before-reverse before) → a + k ≤ length (turned_letters before-reverse before)
    → length (read_seq bam) < length (turned_letters before-reverse before)
    → ListsOver (read_seq r.bytes) r.bytes (map (calls_in_window a k) ls)
clean_cut_lists = listed.clean_cut_lists

-- ---- am and bm, without ML

-- After a drop that kept it, am or bm lists what it listed, without the calls at the places.
pub drop_alone_lists : (k : ℕ) → is_alone k ≡ true → (bam : List ℕ) (room : ℕ) (r : Finished) (ls : List Listing) → keeps k bam r.bytes ≡ true
    → (places : List ℕ) → drop_record bam places room ≡ Ok r → AloneListsOver (read_seq bam) k bam ls
    → AloneListsOver (read_seq r.bytes) k r.bytes (map (without_calls_at (read_places bam places)) ls)
drop_alone_lists = listed.drop_alone_lists

-- After a mask that changed SEQ only by N and kept it, am or bm lists what it listed over SEQ before, without the calls whose base is masked.
pub mask_alone_lists : (k : ℕ) → is_alone k ≡ true → (bam : List ℕ) (room : ℕ) (r : Finished) (ls : List Listing) → keeps k bam r.bytes ≡ true
    → (before : List ℕ) → mask_record bam before room ≡ Ok r → AloneListsOver (turned_letters (is_reverse bam) before) k bam ls
    → same_bytes_of before (stored_seq bam) ≡ false → differs_by_n (turned_letters (is_reverse bam) before) (read_seq bam) ≡ true
    → AloneListsOver (read_seq r.bytes) k r.bytes (map (unmasked_calls (read_seq bam)) ls)
mask_alone_lists = listed.mask_alone_lists

-- After a cut that changed SEQ and kept it, am or bm lists what it listed over SEQ before, without the calls whose base is no longer in SEQ, and every other
-- call is as many places nearer to the front as were cut off before it.
pub cut_alone_lists : (k : ℕ) → is_alone k ≡ true → (bam : List ℕ) (room : ℕ) (r : Finished) (ls : List Listing) → keeps k bam r.bytes ≡ true
    → (before : List ℕ) (before-reverse : Bool) (start : Option ℕ) → cut_record bam before before-reverse start room ≡ Ok r
    → AloneListsOver (turned_letters before-reverse before) k bam ls → same_bytes_of (turned_letters before-reverse before) (read_seq bam) ≡ false
    → (lo : ℕ) × (begins_at bam before before-reverse start ≡ Some lo) × AloneListsOver (read_seq r.bytes) k r.bytes (map (calls_held_in lo (read_seq bam)) ls)
cut_alone_lists = listed.cut_alone_lists
