-- The three calls on a record: which fields it has afterwards, and the refusals: 14, 15, 1, last 12.
-- Assumes nothing.
use Rattle.std.specs.Prelude.{ℕ, Bool, cond, not, ◌&&◌, ◌||◌, List, ◌++◌, leb, ltb, eqb, length, take, drop, Ok, Option, None, Some}
use Rattle.lent.specs.Lists.{is_empty}
use Rattle.lent.specs.Outcome.{Outcome, need, and_then}
use Rattle.packed.specs.Packed.{unpack}
use Rattle.packed.specs.Stored.{in_read, places_in_read, start_in_read}
use Rattle.record_fields.specs.Bam.{head_size, is_reverse, is_whole, packed_seq, seq_length}
use Rattle.record_fields.specs.Fields.{Field, MM, ML, MN, am, bm, fields, first_named, joined}
use Rattle.record_rows.specs.Letters.{turned_letters}
use Rattle.record_tags.specs.Changes.{TagEdit, changed, editing, is_tagged, removal}
use Rattle.record_tags.specs.Values.{disagrees, is_byte_array, is_text, text_of, values_of}
use Rattle.samtags.specs.Edits.{cut_to, dropping_at, edited, lies_in, masked_to, same_bytes_of, window_start}

-- ---- the fields afterwards, for a record whose SEQ has n bases and is stored reverse or not

-- SEQ was masked: the edits of `drop_masked_modifications`, on bases in read orientation
unfoldable pub mask_edit : List ℕ → List ℕ → TagEdit
unfolding edited masked_to
mask_edit before seq ml? text ml = need (eqb (length before) (length seq)) 2 (edited (masked_to seq) ml? before text ml)

-- without a tag, and if SEQ is the same as it was, the fields stay; if MN disagrees with SEQ's length, all five go
unfoldable pub mask_fields : Bool → ℕ → List ℕ → List ℕ → List Field → List Field
unfolding changed editing in_read is_tagged mask_edit removal turned_letters unpack
mask_fields reverse n packed before fs =
    cond (not (is_tagged fs)) fs
    (cond (disagrees n (first_named MN fs)) (changed removal fs)
    (cond (same_bytes_of before (unpack n packed)) fs
    (changed (editing (mask_edit (turned_letters reverse before) (in_read reverse n packed)) None fs) fs)))

-- the calls at places are dropped: the edits of `drop_modifications_at`, the old way
unfoldable pub drop_edit : List ℕ → List ℕ → TagEdit
unfolding edited dropping_at
drop_edit seq places ml? text ml = edited (dropping_at places) ml? seq text ml

-- without a place or a tag the fields stay; if MN disagrees with SEQ's length, all five go
unfoldable pub drop_fields : Bool → ℕ → List ℕ → List ℕ → List Field → List Field
unfolding changed editing drop_edit in_read is_tagged removal
drop_fields reverse n packed places fs =
    cond (is_empty places || not (is_tagged fs)) fs
    (cond (disagrees n (first_named MN fs)) (changed removal fs)
    (changed (editing (drop_edit (in_read reverse n packed) (places_in_read reverse n places)) None fs) fs))

-- SEQ was cut: the edits of `trim_clipped_modifications`
unfoldable pub cut_edit : ℕ → List ℕ → List ℕ → TagEdit
unfolding edited cut_to
cut_edit lo before seq ml? text ml = edited (cut_to lo seq) ml? before text ml

-- SEQ begins at this place of `before`; none if the start is unknown or SEQ is no window of `before` there
abbrev pub window_in : Option ℕ → List ℕ → List ℕ → Option ℕ
window_in None before seq = None
window_in (Some lo) before seq = cond (leb lo (length before) && lies_in seq (drop lo before)) (Some lo) None

-- the read is stored in the same direction as before
abbrev pub same_direction : Bool → Bool → Bool
same_direction reverse before-reverse = cond reverse before-reverse (not before-reverse)

-- the start in read orientation; it is known only if the read was stored in the same direction before
abbrev pub start_of : Bool → Bool → ℕ → ℕ → Option ℕ → Option ℕ
start_of reverse before-reverse n k start = cond (same_direction reverse before-reverse) (start_in_read reverse n k start) None

-- all five go if there is no window
abbrev pub or_removal : Option ℕ → List Field → (ℕ → List Field) → List Field
or_removal None fs f = changed removal fs
or_removal (Some lo) fs f = f lo

-- without a tag, from no bases to no bases, and if SEQ is the same in read orientation, the fields stay; if MN disagrees with the length before, or SEQ is no
-- window, all five go
unfoldable pub cut_fields : Bool → ℕ → List ℕ → List ℕ → Bool → Option ℕ → List Field → List Field
unfolding changed cut_edit editing in_read is_tagged removal turned_letters
cut_fields reverse n packed before before-reverse start fs =
    let old = turned_letters before-reverse before in
    let new = in_read reverse n packed in
    cond (not (is_tagged fs) || is_empty before && eqb n 0) fs
    (cond (disagrees (length before) (first_named MN fs)) (changed removal fs)
    (cond (same_bytes_of old new) fs
    (or_removal (window_in (window_start (start_of reverse before-reverse (length before) n start) old new) old new) fs (λ lo.
    changed (editing (cut_edit lo old new) (cond (eqb (length before) n) None (Some n)) fs) fs))))

-- ---- the calls

-- the lengths that the scope bounds: of a text, and of an array of bytes
abbrev pub text_fits : Field → Bool
text_fits f = not (is_text f) || leb (length (text_of f)) 65536

abbrev pub array_fits : Field → Bool
array_fits f = not (is_byte_array f) || leb (length (values_of f)) 65536

-- SEQ of n bases, SEQ before with k letters, and the fields are within the domain
unfoldable pub in_domain : ℕ → ℕ → List Field → Bool
unfolding first_named
in_domain n k fs =
    leb n 16000 && leb k 16000 && text_fits (first_named MM fs) && array_fits (first_named ML fs) && text_fits (first_named am fs) && text_fits (first_named bm fs)

-- a finished record, and whether a field went
pub record Finished : Type 0 where
  pub went : Bool
  pub bytes : List ℕ

abbrev pub finished_with : Bool → List ℕ → Finished
finished_with went bytes = record { went = went; bytes = bytes }

-- everything before the fields stays as it came
abbrev pub finished : List ℕ → List Field → List Field → Finished
finished bam fs new = finished_with (ltb (length new) (length fs)) (take (head_size bam) bam ++ joined new)

-- 12 if the record is longer than its room
abbrev pub in_room : ℕ → Finished → Outcome Finished
in_room room r = need (leb (length r.bytes) room) 12 (Ok r)

-- the record with new fields: 14, 15, 1, last 12; k is the number of letters of SEQ before
unfoldable pub remade : List ℕ → ℕ → ℕ → (List Field → List Field) → Outcome Finished
unfolding fields in_domain
remade bam k room new =
    need (is_whole bam) 14
    (and_then (fields (drop (head_size bam) bam)) (λ fs. need (in_domain (seq_length bam) k fs) 1 (in_room room (finished bam fs (new fs)))))

-- the three calls; `room` is how long the row for the new record is
unfoldable pub mask_record : List ℕ → List ℕ → ℕ → Outcome Finished
unfolding remade mask_fields
mask_record bam before room = remade bam (length before) room (mask_fields (is_reverse bam) (seq_length bam) (packed_seq bam) before)

unfoldable pub drop_record : List ℕ → List ℕ → ℕ → Outcome Finished
unfolding remade drop_fields
drop_record bam places room = remade bam 0 room (drop_fields (is_reverse bam) (seq_length bam) (packed_seq bam) places)

unfoldable pub cut_record : List ℕ → List ℕ → Bool → Option ℕ → ℕ → Outcome Finished
unfolding remade cut_fields
cut_record bam before before-reverse start room =
    remade bam (length before) room (cut_fields (is_reverse bam) (seq_length bam) (packed_seq bam) before before-reverse start)
