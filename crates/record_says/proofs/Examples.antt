-- Small records by their bytes, through the three calls.
-- Assumes nothing.
use Rattle.std.specs.Prelude.{Ok, None, Some}
use mathlib.Core.Path.{refl, sym, ◌≡◌}
use Prim.Native.Nat.{ℕ, ◌+◌, ◌≤◌, ◌<◌}
use native.Mathlib.Omega.{arith}
use mathlib.Core.Bool.{true, false}
use mathlib.Core.List.{List, [], map, ◌++◌, ◌∷◌}
use lib.ListN.{length, replicate}
use Rattle.lent.specs.Lists.{any}
use Rattle.lent.specs.Outcome.{refuse}
use Rattle.packed.specs.Packed.{pack, unpack}
use Rattle.packed.specs.Stored.{in_read}
use Rattle.record_fields.specs.Bam.{is_reverse, seq_length}
use Rattle.record_fields.specs.Fields.{Field, MM, fields_of, first_named, joined, name_of, am}
use Rattle.record_rows.specs.Letters.{turned_letters}
use Rattle.record_says.proofs.Accepted.{cut_accepted, drop_accepted, drop_alone_accepted, mask_accepted}
use Rattle.record_says.proofs.Edited.{cut_lists, drop_lists, mask_lists, clean_cut_lists, drop_alone_lists}
use Rattle.record_says.proofs.KeepsMM.{mask_keeps, cut_keeps}
use Rattle.record_says.proofs.LengthAgrees.{cut_length}
use Rattle.record_says.proofs.Went.{went_is_gone}
use Rattle.record_says.specs.Says.{AloneListsOver, AloneRewritten, ListsOver, Rewritten, begins_at, dropped, fields_in, five_names, is_gone, keeps, mm_of, mn_of, none_twice, read_places, read_seq, stored_seq}
use Rattle.record_tags.specs.Records.{cut_record, drop_record, finished_with, mask_record, window_in, start_of}
use Rattle.record_tags.specs.Values.{disagrees, is_text}
use Rattle.samtags.proofs.Kept.{calls_held_in, without_calls_at}
use Rattle.samtags.proofs.Masking.{differs_by_n, unmasked_calls}
use Rattle.samtags.specs.Bytes.{ascii}
use Rattle.samtags.specs.Edits.{same_bytes_of}
use Rattle.samtags.specs.Reading.{lists}
use Rattle.samtags.specs.Session.{window}
use Rattle.samtags.specs.Spots.{Call, Listing}

-- a record with the name `r`, no CIGAR, a flag of one byte, SEQ and its fields
abbrev bam_of : ℕ → List ℕ → List Field → List ℕ
bam_of flag seq fs =
    replicate 8 0 ++ 2 ∷ replicate 5 0 ++ flag ∷ 0 ∷ length seq ∷ replicate 15 0 ++ ascii "r" ++ 0 ∷ pack seq ++ replicate (length seq) 30 ++ joined fs

-- a text, an array of bytes and a number of one byte
abbrev text : List ℕ → List ℕ → Field
text name t = name ++ ascii "Z" ++ t ++ 0 ∷ []

abbrev bytes : List ℕ → List ℕ → Field
bytes name vs = name ++ ascii "BC" ++ length vs ∷ 0 ∷ 0 ∷ 0 ∷ vs

abbrev byte : List ℕ → ℕ → Field
byte name n = name ++ ascii "C" ++ n ∷ []

-- ---- refusals

-- l_seq of FFFFFFFF in a record of 40 bytes: 14
huge_seq : mask_record (replicate 16 0 ++ 255 ∷ 255 ∷ 255 ∷ 255 ∷ replicate 20 0) [] 100 ≡ refuse 14
unfolding mask_record
huge_seq = refl

-- 31 bytes
too_short : mask_record (replicate 31 0) [] 100 ≡ refuse 14
unfolding mask_record
too_short = refl

-- an array with a count of FFFFFFFF: 15
huge_array : drop_record (bam_of 0 (ascii "ACC") ((ascii "XXBI" ++ 255 ∷ 255 ∷ 255 ∷ 255 ∷ []) ∷ [])) (1 ∷ []) 100 ≡ refuse 15
unfolding drop_record pack
huge_array = refl

-- an array of A: 15
array_of_A : drop_record (bam_of 0 (ascii "ACC") ((ascii "XXBA" ++ 1 ∷ 0 ∷ 0 ∷ 0 ∷ 33 ∷ []) ∷ [])) (1 ∷ []) 100 ≡ refuse 15
unfolding drop_record pack
array_of_A = refl

-- ---- a drop

abbrev drops_from : List Field → List ℕ
drops_from fs = bam_of 0 (ascii "ACCA") fs

-- the call at place 2 goes; what is before, between and behind the edited fields stays
one_dropped :
    drop_record
    (drops_from (byte (ascii "NM") 1 ∷ text (ascii "MM") (ascii "C+m?,0,0;") ∷ text (ascii "XX") (ascii "x") ∷ bytes (ascii "ML") (7 ∷ 8 ∷ []) ∷ byte (ascii "MN") 4 ∷ []))
    (2 ∷ []) 200
    ≡ Ok (finished_with false
    (drops_from (byte (ascii "NM") 1 ∷ text (ascii "MM") (ascii "C+m?,0;") ∷ text (ascii "XX") (ascii "x") ∷ bytes (ascii "ML") (7 ∷ []) ∷ byte (ascii "MN") 4 ∷ [])))
unfolding drop_record pack
one_dropped = refl

-- a drop at a place where a header without '?' lists a call: MM, ML and MN go, and am, which is edited without ML, stays
unmarked_goes :
    drop_record
    (drops_from (byte (ascii "NM") 1 ∷ text (ascii "MM") (ascii "C+m,0,0;") ∷ bytes (ascii "ML") (7 ∷ 8 ∷ []) ∷ byte (ascii "MN") 4 ∷ text (ascii "am") (ascii "C+m?,0,0;") ∷ []))
    (2 ∷ []) 200
    ≡ Ok (finished_with true (drops_from (byte (ascii "NM") 1 ∷ text (ascii "am") (ascii "C+m?,0;") ∷ [])))
unfolding drop_record pack
unmarked_goes = refl

-- an MN of -1 disagrees with SEQ: all five go
negative_length :
    drop_record (drops_from (text (ascii "MM") (ascii "C+m?,0;") ∷ (ascii "MNc" ++ 255 ∷ []) ∷ text (ascii "bm") (ascii "C+m?,0;") ∷ byte (ascii "NM") 1 ∷ [])) (9 ∷ []) 200
    ≡ Ok (finished_with true (drops_from (byte (ascii "NM") 1 ∷ [])))
unfolding drop_record pack
negative_length = refl

-- no bases, and an MM that lists nothing
no_bases : drop_record (bam_of 0 [] (text (ascii "MM") (ascii "C+m;") ∷ [])) (0 ∷ []) 200 ≡ Ok (finished_with false (bam_of 0 [] (text (ascii "MM") (ascii "C+m;") ∷ [])))
unfolding drop_record pack
no_bases = refl

-- of two MM the first is edited, and the second stays as it came
first_of_two :
    drop_record (drops_from (text (ascii "MM") (ascii "C+m?,0,0;") ∷ text (ascii "MM") (ascii "C+m?,1;") ∷ [])) (2 ∷ []) 200
    ≡ Ok (finished_with false (drops_from (text (ascii "MM") (ascii "C+m?,0;") ∷ text (ascii "MM") (ascii "C+m?,1;") ∷ [])))
unfolding drop_record pack
first_of_two = refl

-- no MM, am or bm: the record as it came, with its ML and a stale MN
no_tag :
    drop_record (drops_from (bytes (ascii "ML") (7 ∷ []) ∷ byte (ascii "MN") 9 ∷ [])) (2 ∷ []) 200
    ≡ Ok (finished_with false (drops_from (bytes (ascii "ML") (7 ∷ []) ∷ byte (ascii "MN") 9 ∷ [])))
unfolding drop_record pack
no_tag = refl

-- ---- a mask

-- place 2 became N
one_masked :
    mask_record (bam_of 0 (ascii "ACNA") (text (ascii "MM") (ascii "C+m,0,0;") ∷ bytes (ascii "ML") (7 ∷ 8 ∷ []) ∷ [])) (ascii "ACCA") 200
    ≡ Ok (finished_with false (bam_of 0 (ascii "ACNA") (text (ascii "MM") (ascii "C+m,0;") ∷ bytes (ascii "ML") (7 ∷ []) ∷ [])))
unfolding mask_record pack
one_masked = refl

-- SEQ before has another length: what can't be edited goes
other_length :
    mask_record (bam_of 0 (ascii "ACNA") (text (ascii "MM") (ascii "C+m,0;") ∷ bytes (ascii "ML") (7 ∷ []) ∷ byte (ascii "NM") 1 ∷ [])) (ascii "ACC") 200
    ≡ Ok (finished_with true (bam_of 0 (ascii "ACNA") (byte (ascii "NM") 1 ∷ [])))
unfolding mask_record pack
other_length = refl

-- ---- a cut

-- the last base was cut off; MN of one byte stands before a tag that keeps all its calls
abbrev cut_read : Field → List ℕ
cut_read mn = bam_of 0 (ascii "ACC") (mn ∷ text (ascii "MM") (ascii "C+m,0,0;") ∷ bytes (ascii "ML") (7 ∷ 8 ∷ []) ∷ [])

-- MN becomes 3, in four bytes: the record is three bytes longer
grows :
    cut_record (cut_read (byte (ascii "MN") 4)) (ascii "ACCA") false (Some 0) (length (cut_read (byte (ascii "MN") 4)) + 3)
    ≡ Ok (finished_with false (cut_read (ascii "MNi" ++ 3 ∷ 0 ∷ 0 ∷ 0 ∷ [])))
unfolding cut_record pack
grows = refl

-- with as much room as the record takes: 12
grows_too_far : cut_record (cut_read (byte (ascii "MN") 4)) (ascii "ACCA") false (Some 0) (length (cut_read (byte (ascii "MN") 4))) ≡ refuse 12
unfolding cut_record pack
grows_too_far = refl

-- MN says the length of SEQ now, but a cut compares it with SEQ before: all go
length_of_now :
    cut_record (cut_read (byte (ascii "MN") 3)) (ascii "ACCA") false (Some 0) 200 ≡ Ok (finished_with true (bam_of 0 (ascii "ACC") []))
unfolding cut_record pack
length_of_now = refl

-- the record was stored reverse and is so no more, with as many bases: it is edited in read orientation
turned :
    cut_record (bam_of 0 (ascii "ACN") (text (ascii "MM") (ascii "C+m,0,0;") ∷ bytes (ascii "ML") (7 ∷ 8 ∷ []) ∷ [])) (ascii "GGT") true None 200
    ≡ Ok (finished_with false (bam_of 0 (ascii "ACN") (text (ascii "MM") (ascii "C+m,0;") ∷ bytes (ascii "ML") (7 ∷ []) ∷ [])))
unfolding cut_record pack
turned = refl

-- the same with fewer bases: the start is not known, and all go
turned_and_shorter :
    cut_record (bam_of 0 (ascii "AC") (text (ascii "MM") (ascii "C+m,0,0;") ∷ bytes (ascii "ML") (7 ∷ 8 ∷ []) ∷ [])) (ascii "GGT") true (Some 1) 200
    ≡ Ok (finished_with true (bam_of 0 (ascii "AC") []))
unfolding cut_record pack
turned_and_shorter = refl

-- a reverse read that lost its first stored base, which is its last base in read orientation
reverse_cut :
    cut_record (bam_of 16 (ascii "GT") (text (ascii "MM") (ascii "C+m,0,0;") ∷ bytes (ascii "ML") (7 ∷ 8 ∷ []) ∷ [])) (ascii "GGT") true (Some 1) 200
    ≡ Ok (finished_with false (bam_of 16 (ascii "GT") (text (ascii "MM") (ascii "C+m,0;") ∷ bytes (ascii "ML") (7 ∷ []) ∷ [])))
unfolding cut_record pack
reverse_cut = refl

-- ---- the promises about what a tag lists, on these records

abbrev call_at : ℕ → ℕ → Call
call_at p v = record { place = p; values = v ∷ [] }

abbrev two_calls : List ℕ → List Listing
two_calls header = record { header = header; calls = call_at 1 7 ∷ call_at 2 8 ∷ [] } ∷ []

abbrev one_call : List ℕ → List Listing
one_call header = record { header = header; calls = call_at 1 7 ∷ [] } ∷ []

abbrev dropped_from : List ℕ
dropped_from = drops_from (text (ascii "MM") (ascii "C+m?,0,0;") ∷ bytes (ascii "ML") (7 ∷ 8 ∷ []) ∷ [])

abbrev dropped_to : List ℕ
dropped_to = drops_from (text (ascii "MM") (ascii "C+m?,0;") ∷ bytes (ascii "ML") (7 ∷ []) ∷ [])

drop_met : (drop_record dropped_from (2 ∷ []) 200 ≡ Ok (finished_with false dropped_to)) × (keeps MM dropped_from dropped_to ≡ true)
unfolding drop_record pack fields_of name_of
drop_met = (refl, refl)

drop_listed : ListsOver (read_seq dropped_from) dropped_from (two_calls (ascii "C+m?"))
unfolding fields_of first_named in_read lists pack
drop_listed = record { tagged = refl; listed = refl }

drop_promise : ListsOver (read_seq dropped_to) dropped_to (one_call (ascii "C+m?"))
drop_promise = drop_lists dropped_from (2 ∷ []) 200 (finished_with false dropped_to) (two_calls (ascii "C+m?")) drop_met.0 drop_met.1 drop_listed

abbrev masked_from : List ℕ
masked_from = bam_of 0 (ascii "ACNA") (text (ascii "MM") (ascii "C+m,0,0;") ∷ bytes (ascii "ML") (7 ∷ 8 ∷ []) ∷ byte (ascii "MN") 4 ∷ [])

abbrev masked_into : List ℕ
masked_into = bam_of 0 (ascii "ACNA") (text (ascii "MM") (ascii "C+m,0;") ∷ bytes (ascii "ML") (7 ∷ []) ∷ byte (ascii "MN") 4 ∷ [])

mask_met :
    (mask_record masked_from (ascii "ACCA") 200 ≡ Ok (finished_with false masked_into))
    × (disagrees (seq_length masked_from) (mn_of masked_from) ≡ false)
    × (same_bytes_of (ascii "ACCA") (stored_seq masked_from) ≡ false)
    × (differs_by_n (turned_letters (is_reverse masked_from) (ascii "ACCA")) (read_seq masked_from) ≡ true)
unfolding mask_record fields_of first_named in_read pack turned_letters unpack
mask_met = (refl, refl, refl, refl)

mask_listed : ListsOver (turned_letters (is_reverse masked_from) (ascii "ACCA")) masked_from (two_calls (ascii "C+m"))
unfolding fields_of first_named lists pack turned_letters
mask_listed = record { tagged = refl; listed = refl }

mask_kept : keeps MM masked_from masked_into ≡ true
mask_kept = mask_keeps masked_from (ascii "ACCA") 200 (finished_with false masked_into) (two_calls (ascii "C+m")) mask_met.0 mask_listed mask_met.1 mask_met.3

mask_promise : ListsOver (read_seq masked_into) masked_into (map (unmasked_calls (read_seq masked_from)) (two_calls (ascii "C+m")))
mask_promise =
    mask_lists masked_from (ascii "ACCA") 200 (finished_with false masked_into) (two_calls (ascii "C+m")) mask_met.0 mask_kept mask_listed mask_met.2 mask_met.3

-- a reverse read that lost its first stored base: the last base in read orientation
abbrev cut_from : List ℕ
cut_from = bam_of 16 (ascii "GGT") (text (ascii "MM") (ascii "C+m,0,0;") ∷ bytes (ascii "ML") (7 ∷ 8 ∷ []) ∷ byte (ascii "MN") 4 ∷ [])

abbrev cut_into : List ℕ
cut_into = bam_of 16 (ascii "GGT") (text (ascii "MM") (ascii "C+m,0,0;") ∷ bytes (ascii "ML") (7 ∷ 8 ∷ []) ∷ (ascii "MNi" ++ 3 ∷ 0 ∷ 0 ∷ 0 ∷ []) ∷ [])

cut_met :
    (cut_record cut_from (ascii "TGGT") true (Some 1) 200 ≡ Ok (finished_with false cut_into))
    × (disagrees 4 (mn_of cut_from) ≡ false)
    × (same_bytes_of (turned_letters true (ascii "TGGT")) (read_seq cut_from) ≡ false)
    × (window_in (begins_at cut_from (ascii "TGGT") true (Some 1)) (turned_letters true (ascii "TGGT")) (read_seq cut_from) ≡ Some 0)
unfolding cut_record fields_of first_named in_read pack turned_letters
cut_met = (refl, refl, refl, refl)

cut_listed : ListsOver (turned_letters true (ascii "TGGT")) cut_from (two_calls (ascii "C+m"))
unfolding fields_of first_named lists pack turned_letters
cut_listed = record { tagged = refl; listed = refl }

cut_kept : keeps MM cut_from cut_into ≡ true
cut_kept =
    cut_keeps cut_from (ascii "TGGT") true (Some 1) 200 (finished_with false cut_into) (two_calls (ascii "C+m")) 0 cut_met.0 cut_listed cut_met.1 cut_met.3

cut_promise : (lo : ℕ) × (begins_at cut_from (ascii "TGGT") true (Some 1) ≡ Some lo)
    × ListsOver (read_seq cut_into) cut_into (map (calls_held_in lo (read_seq cut_from)) (two_calls (ascii "C+m")))
cut_promise =
    cut_lists cut_from (ascii "TGGT") true (Some 1) 200 (finished_with false cut_into) (two_calls (ascii "C+m")) cut_met.0 cut_kept cut_listed cut_met.2

clean_met :
    (start_of (is_reverse cut_from) true 4 (seq_length cut_from) (Some 1) ≡ Some 0)
    × (read_seq cut_from ≡ window 0 3 (turned_letters true (ascii "TGGT")))
    × (0 + 3 ≤ length (turned_letters true (ascii "TGGT")))
    × (length (read_seq cut_from) < length (turned_letters true (ascii "TGGT")))
unfolding in_read pack turned_letters
clean_met = (refl, refl, omega arith, omega arith)

clean_cut_promise : ListsOver (read_seq cut_into) cut_into (two_calls (ascii "C+m"))
clean_cut_promise =
    clean_cut_lists cut_from (ascii "TGGT") true (Some 1) 200 (finished_with false cut_into) (two_calls (ascii "C+m")) cut_met.0 cut_kept cut_listed cut_met.2
    0 3 clean_met.0 clean_met.1 clean_met.2 clean_met.3

cut_length_promise : disagrees (seq_length cut_into) (mn_of cut_into) ≡ false
cut_length_promise = cut_length cut_from (ascii "TGGT") true (Some 1) 200 (finished_with false cut_into) cut_met.0 cut_listed.tagged cut_kept cut_met.2

-- with no name twice, a tag went exactly where a name is gone
went_met : none_twice (fields_in dropped_from) ≡ true
unfolding fields_of name_of pack
went_met = refl

went_promise : any (is_gone (fields_in dropped_from) (fields_in dropped_to)) five_names ≡ false
went_promise = sym (went_is_gone {r = finished_with false dropped_to} (dropped (2 ∷ []) 200 drop_met.0) went_met)

-- am, which is read without ML
abbrev alone_from : List ℕ
alone_from = drops_from (text (ascii "am") (ascii "C+m?,0,0;") ∷ [])

abbrev alone_to : List ℕ
alone_to = drops_from (text (ascii "am") (ascii "C+m?,0;") ∷ [])

abbrev bare_call_at : ℕ → Call
bare_call_at p = record { place = p; values = [] }

abbrev bare_calls : List Call → List Listing
bare_calls cs = record { header = ascii "C+m?"; calls = cs } ∷ []

alone_met : (drop_record alone_from (2 ∷ []) 200 ≡ Ok (finished_with false alone_to)) × (keeps am alone_from alone_to ≡ true)
unfolding drop_record fields_of name_of pack
alone_met = (refl, refl)

alone_listed : AloneListsOver (read_seq alone_from) am alone_from (bare_calls (bare_call_at 1 ∷ bare_call_at 2 ∷ []))
unfolding fields_of first_named in_read lists pack
alone_listed = record { is_text_lem = refl; listed = refl }

alone_promise : AloneListsOver (read_seq alone_to) am alone_to (bare_calls (bare_call_at 1 ∷ []))
alone_promise =
    drop_alone_lists am refl alone_from 200 (finished_with false alone_to) (bare_calls (bare_call_at 1 ∷ bare_call_at 2 ∷ [])) alone_met.1 (2 ∷ []) alone_met.0
    alone_listed

-- the same tags, of which only the type is known before: the reader accepted each of them
texts_met : (is_text (mm_of dropped_from) ≡ true) × (is_text (mm_of masked_from) ≡ true) × (is_text (mm_of cut_from) ≡ true)
unfolding fields_of first_named pack
texts_met = (refl, refl, refl)

drop_rewritten : Rewritten (read_seq dropped_from) dropped_from dropped_to (without_calls_at (read_places dropped_from (2 ∷ [])))
drop_rewritten = drop_accepted dropped_from (2 ∷ []) 200 (finished_with false dropped_to) drop_met.0 texts_met.0 drop_met.1 refl

mask_rewritten : Rewritten (turned_letters (is_reverse masked_from) (ascii "ACCA")) masked_from masked_into (unmasked_calls (read_seq masked_from))
mask_rewritten = mask_accepted masked_from (ascii "ACCA") 200 (finished_with false masked_into) mask_met.0 texts_met.1 mask_kept mask_met.2 mask_met.3

cut_rewritten : (lo : ℕ) × (begins_at cut_from (ascii "TGGT") true (Some 1) ≡ Some lo)
    × Rewritten (turned_letters true (ascii "TGGT")) cut_from cut_into (calls_held_in lo (read_seq cut_from))
cut_rewritten = cut_accepted cut_from (ascii "TGGT") true (Some 1) 200 (finished_with false cut_into) cut_met.0 texts_met.2 cut_kept cut_met.2

alone_rewritten : AloneRewritten (read_seq alone_from) am alone_from alone_to (without_calls_at (read_places alone_from (2 ∷ [])))
alone_rewritten = drop_alone_accepted am refl alone_from 200 (finished_with false alone_to) alone_listed.is_text_lem alone_met.1 (2 ∷ []) alone_met.0 refl
