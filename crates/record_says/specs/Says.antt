-- What the theorems about the three calls on a record say.
-- Assumes nothing.
use Rattle.std.specs.Prelude.{◌≡◌, ℕ, Bool, true, false, not, ◌&&◌, ◌||◌, List, [], ◌∷◌, map, leb, eqb, length, take, drop, Ok, Option}
use Rattle.lent.specs.Lists.{every, filter, is_empty}
use Rattle.lent.specs.Outcome.{Outcome, and_then}
use Rattle.packed.specs.Packed.{unpack}
use Rattle.packed.specs.Stored.{in_read, places_in_read}
use Rattle.record_fields.specs.Bam.{head_size, is_reverse, is_whole, packed_seq, seq_length}
use Rattle.record_fields.specs.Fields.{Field, ML, MM, MN, am, any_other, bm, fields, fields_of, first_named, name_of}
use Rattle.record_rows.specs.Letters.{turned_letters}
use Rattle.record_tags.specs.Records.{Finished, cut_fields, cut_record, drop_fields, drop_record, in_room, mask_fields, mask_record, start_of}
use Rattle.record_tags.specs.Values.{is_byte_array, is_text, text_of, values_of}
use Rattle.samtags.specs.Edits.{window_start}
use Rattle.samtags.specs.Reading.{lists}
use Rattle.samtags.specs.Spots.{Listing}

-- the bytes of a record behind its qualities: its fields
abbrev pub tail : List ℕ → List ℕ
tail bam = drop (head_size bam) bam

-- the fields of a record
abbrev pub fields_in : List ℕ → List Field
fields_in bam = fields_of (tail bam)

-- SEQ, as it is stored and in read orientation
abbrev pub stored_seq : List ℕ → List ℕ
stored_seq bam = unpack (seq_length bam) (packed_seq bam)

abbrev pub read_seq : List ℕ → List ℕ
read_seq bam = in_read (is_reverse bam) (seq_length bam) (packed_seq bam)

-- the places of a drop, in read orientation
abbrev pub read_places : List ℕ → List ℕ → List ℕ
read_places bam places = places_in_read (is_reverse bam) (seq_length bam) places

-- where SEQ begins in SEQ before a cut, in read orientation, if this is known
abbrev pub begins_at : List ℕ → List ℕ → Bool → Option ℕ → Option ℕ
begins_at bam before before-reverse start =
    window_start (start_of (is_reverse bam) before-reverse (length before) (seq_length bam) start) (turned_letters before-reverse before) (read_seq bam)

-- the name is none of MM, ML, MN, am and bm
abbrev pub is_other : Field → Bool
is_other f = eqb (name_of f) any_other

-- the fields after each of the three calls, as its definition says
abbrev pub masked_fields : List ℕ → List ℕ → List Field
masked_fields bam before = mask_fields (is_reverse bam) (seq_length bam) (packed_seq bam) before (fields_in bam)

abbrev pub dropped_fields : List ℕ → List ℕ → List Field
dropped_fields bam places = drop_fields (is_reverse bam) (seq_length bam) (packed_seq bam) places (fields_in bam)

abbrev pub cut_fields_of : List ℕ → List ℕ → Bool → Option ℕ → List Field
cut_fields_of bam before before-reverse start = cut_fields (is_reverse bam) (seq_length bam) (packed_seq bam) before before-reverse start (fields_in bam)

-- One of the three calls on the record was done, and this is the new record.
pub data Remade (bam : List ℕ) (r : Finished) : Type 0 where
  masked : (before : List ℕ) (room : ℕ) → mask_record bam before room ≡ Ok r → Remade bam r
  dropped : (places : List ℕ) (room : ℕ) → drop_record bam places room ≡ Ok r → Remade bam r
  cut : (before : List ℕ) (before-reverse : Bool) (start : Option ℕ) (room : ℕ) → cut_record bam before before-reverse start room ≡ Ok r → Remade bam r

-- Everything before the fields is as it was, and so are the fields of every other name, in the same order.
pub record Untouched (old new : List ℕ) : Type 0 where
  pub front : take (head_size old) new ≡ take (head_size old) old
  pub head_size_lem : head_size new ≡ head_size old
  pub length_of_seq : seq_length new ≡ seq_length old
  pub strand : is_reverse new ≡ is_reverse old
  pub seq : packed_seq new ≡ packed_seq old
  pub others : filter is_other (fields_in new) ≡ filter is_other (fields_in old)

-- The record is whole, and its fields parse to these.
pub record ParsesTo (bam : List ℕ) (fs : List Field) : Type 0 where
  pub whole : is_whole bam ≡ true
  pub parsed : fields (tail bam) ≡ Ok fs

-- how many fields have the name
abbrev pub times : ℕ → List Field → ℕ
times k fs = length (filter (λ (f : Field). eqb (name_of f) k) fs)

abbrev pub five_names : List ℕ
five_names = MM ∷ ML ∷ MN ∷ am ∷ bm ∷ []

-- none of the five names is there twice
abbrev pub none_twice : List Field → Bool
none_twice fs = every (λ k. leb (times k fs) 1) five_names

-- the name was there, and is there no more
abbrev pub is_gone : List Field → List Field → ℕ → Bool
is_gone old new k = not (is_empty (first_named k old)) && is_empty (first_named k new)

-- ---- the tag: MM with its ML

abbrev pub mm_of : List ℕ → Field
mm_of bam = first_named MM (fields_in bam)

abbrev pub ml_of : List ℕ → Field
ml_of bam = first_named ML (fields_in bam)

abbrev pub mn_of : List ℕ → Field
mn_of bam = first_named MN (fields_in bam)

abbrev pub has_ml : List ℕ → Bool
has_ml bam = not (is_empty (ml_of bam))

-- the record has a tag that can be edited: MM is a text, and its ML an array of bytes, if there is one
abbrev pub has_tag : List ℕ → Bool
has_tag bam = is_text (mm_of bam) && (is_empty (ml_of bam) || is_byte_array (ml_of bam))

-- what the record's tag lists over a SEQ in read orientation
abbrev pub tag_lists : List ℕ → List ℕ → Outcome (List Listing)
tag_lists seq bam = lists (has_ml bam) seq (text_of (mm_of bam)) (values_of (ml_of bam))

-- The record has a tag, which the reader accepts over a SEQ in read orientation, and which lists this.
pub record ListsOver (seq bam : List ℕ) (ls : List Listing) : Type 0 where
  pub tagged : has_tag bam ≡ true
  pub listed : tag_lists seq bam ≡ Ok ls

-- A tag was edited: the reader accepted the old one over SEQ as it was, and accepts the new one over SEQ as it is now. What a group lists now is f of what it
-- listed.
pub record Rewritten (seq old new : List ℕ) (f : Listing → Listing) : Type 0 where
  pub listed : List Listing
  pub before : ListsOver seq old listed
  pub after : ListsOver (read_seq new) new (map f listed)

-- am or bm is a text, which the reader accepts without ML over a SEQ in read orientation, and which lists this.
pub record AloneListsOver (seq : List ℕ) (k : ℕ) (bam : List ℕ) (ls : List Listing) : Type 0 where
  pub is_text_lem : is_text (first_named k (fields_in bam)) ≡ true
  pub listed : lists false seq (text_of (first_named k (fields_in bam))) [] ≡ Ok ls

-- am or bm was edited, as MM above
pub record AloneRewritten (seq : List ℕ) (k : ℕ) (old new : List ℕ) (f : Listing → Listing) : Type 0 where
  pub listed : List Listing
  pub before : AloneListsOver seq k old listed
  pub after : AloneListsOver (read_seq new) k new (map f listed)

-- the names of the tags that are edited without ML
abbrev pub is_alone : ℕ → Bool
is_alone k = eqb k am || eqb k bm

-- there are as many fields of the name as there were: the first was edited, or stayed
abbrev pub keeps : ℕ → List ℕ → List ℕ → Bool
keeps k old new = eqb (times k (fields_in new)) (times k (fields_in old))

-- every byte as it came, and no field went
pub record AsItCame (bam : List ℕ) (r : Finished) : Type 0 where
  pub bytes_same : r.bytes ≡ bam
  pub none_went : r.went ≡ false

-- a finished record asked for room: 12 if it is longer, else the record
abbrev pub with_room : ℕ → Outcome Finished → Outcome Finished
with_room room o = and_then o (in_room room)
