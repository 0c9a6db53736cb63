-- The three calls on a record that was opened, case by case.
-- Assumes nothing.
use Rattle.std.specs.Prelude.{Option, None}
use mathlib.Core.Path.{◌≡◌, sym, ap, ◌∙◌}
use Prim.Native.Nat.{ℕ}
use mathlib.Core.Bool.{Bool, true, false, ◌&&◌}
use mathlib.Core.List.{List}
use lib.Dec.{eqb}
use lib.ListN.{length, drop}
use Rattle.lent.specs.Answers.{is_done}
use Rattle.lent.specs.Lists.{is_empty}
use Rattle.lent.specs.Outcome.{Outcome}
use Rattle.packed.specs.Packed.{unpack}
use Rattle.packed.specs.Stored.{in_read, places_in_read}
use Rattle.record_fields.specs.Bam.{head_size, is_reverse, is_whole, packed_seq, seq_length}
use Rattle.record_fields.specs.Fields.{Field, MN, fields, fields_of, first_named}
use Rattle.record_rows.specs.Letters.{turned_letters}
use Rattle.record_steps.proofs.StepLaws.{as_it_came, opened_is}
use Rattle.record_steps.specs.Cuts.{cut_turned}
use Rattle.record_tags.specs.Changes.{changed, editing, is_tagged, removal}
use Rattle.record_tags.specs.Records.{Finished, cut_fields, cut_record, drop_edit, drop_fields, drop_record, finished, finished_with, in_domain, in_room, mask_edit, mask_fields, mask_record, remade, start_of}
use Rattle.record_tags.specs.Values.{disagrees}
use Rattle.samtags.specs.Edits.{same_bytes_of, window_start}

module _ (bam : List ℕ) (k : ℕ) (whole : is_whole bam ≡ true) (parsed : is_done (fields (drop (head_size bam) bam)) ≡ true)
    (inside : in_domain (seq_length bam) k (fields_of (drop (head_size bam) bam)) ≡ true) (room : ℕ) where
  abbrev fs : List Field
  fs = fields_of (drop (head_size bam) bam)

  abbrev n : ℕ
  n = seq_length bam

  abbrev stays : Outcome Finished
  stays = in_room room (finished_with false bam)

  abbrev becomes : List Field → Outcome Finished
  becomes new = in_room room (finished bam fs new)

  became : (x y : List Field) → x ≡ y → becomes x ≡ becomes y
  became x y e = ap becomes e

  came : (new : List Field) → new ≡ fs → becomes new ≡ stays
  came new e = ap becomes e ∙ ap (in_room room) (as_it_came bam k whole parsed inside)

  -- ---- masking

  module _ (before : List ℕ) (letters : k ≡ length before) where
    mask_opened : mask_record bam before room ≡ becomes (mask_fields (is_reverse bam) n (packed_seq bam) before fs)
    unfolding mask_record
    mask_opened = ap (λ (j : ℕ). remade bam j room (mask_fields (is_reverse bam) n (packed_seq bam) before)) (sym letters) ∙ (opened_is bam k whole parsed inside room (mask_fields (is_reverse bam) n (packed_seq bam) before))

    pub mask_untagged : is_tagged fs ≡ false → mask_record bam before room ≡ stays
    unfolding mask_fields
    mask_untagged t = mask_opened ∙ came (mask_fields (is_reverse bam) n (packed_seq bam) before fs) (rw t)

    module _ (tagged : is_tagged fs ≡ true) where
      pub mask_stale : disagrees n (first_named MN fs) ≡ true → mask_record bam before room ≡ becomes (changed removal fs)
      unfolding mask_fields
      mask_stale s = mask_opened ∙ became (mask_fields (is_reverse bam) n (packed_seq bam) before fs) (changed removal fs) (rw (tagged, s))

      module _ (fresh : disagrees n (first_named MN fs) ≡ false) where
        pub mask_same : same_bytes_of before (unpack n (packed_seq bam)) ≡ true → mask_record bam before room ≡ stays
        unfolding mask_fields
        mask_same e = mask_opened ∙ came (mask_fields (is_reverse bam) n (packed_seq bam) before fs) (rw (tagged, fresh, e))

        pub mask_edited : same_bytes_of before (unpack n (packed_seq bam)) ≡ false
            → mask_record bam before room
            ≡ becomes (changed (editing (mask_edit (turned_letters (is_reverse bam) before) (in_read (is_reverse bam) n (packed_seq bam))) None fs) fs)
        unfolding mask_fields
        mask_edited e = mask_opened ∙ became (mask_fields (is_reverse bam) n (packed_seq bam) before fs) (changed (editing (mask_edit (turned_letters (is_reverse bam) before) (in_read (is_reverse bam) n (packed_seq bam))) None fs) fs) (rw (tagged, fresh, e))

  -- ---- dropping

  module _ (places : List ℕ) (letters : k ≡ 0) where
    drop_opened : drop_record bam places room ≡ becomes (drop_fields (is_reverse bam) n (packed_seq bam) places fs)
    unfolding drop_record
    drop_opened = ap (λ (j : ℕ). remade bam j room (drop_fields (is_reverse bam) n (packed_seq bam) places)) (sym letters) ∙ (opened_is bam k whole parsed inside room (drop_fields (is_reverse bam) n (packed_seq bam) places))

    pub drop_none : is_empty places ≡ true → drop_record bam places room ≡ stays
    unfolding drop_fields
    drop_none e = drop_opened ∙ came (drop_fields (is_reverse bam) n (packed_seq bam) places fs) (rw e)

    module _ (some-place : is_empty places ≡ false) where
      pub drop_untagged : is_tagged fs ≡ false → drop_record bam places room ≡ stays
      unfolding drop_fields
      drop_untagged t = drop_opened ∙ came (drop_fields (is_reverse bam) n (packed_seq bam) places fs) (rw (some-place, t))

      module _ (tagged : is_tagged fs ≡ true) where
        pub drop_stale : disagrees n (first_named MN fs) ≡ true → drop_record bam places room ≡ becomes (changed removal fs)
        unfolding drop_fields
        drop_stale s = drop_opened ∙ became (drop_fields (is_reverse bam) n (packed_seq bam) places fs) (changed removal fs) (rw (some-place, tagged, s))

        pub drop_edited : disagrees n (first_named MN fs) ≡ false
            → drop_record bam places room
            ≡ becomes (changed (editing (drop_edit (in_read (is_reverse bam) n (packed_seq bam)) (places_in_read (is_reverse bam) n places)) None fs) fs)
        unfolding drop_fields
        drop_edited s = drop_opened ∙ became (drop_fields (is_reverse bam) n (packed_seq bam) places fs) (changed (editing (drop_edit (in_read (is_reverse bam) n (packed_seq bam)) (places_in_read (is_reverse bam) n places)) None fs) fs) (rw (some-place, tagged, s))

  -- ---- cutting

  module _ (before : List ℕ) (letters : k ≡ length before) (before-reverse : Bool) (start : Option ℕ) where
    abbrev old : List ℕ
    old = turned_letters before-reverse before

    abbrev new : List ℕ
    new = in_read (is_reverse bam) n (packed_seq bam)

    cut_opened : cut_record bam before before-reverse start room ≡ becomes (cut_fields (is_reverse bam) n (packed_seq bam) before before-reverse start fs)
    unfolding cut_record
    cut_opened = ap (λ (j : ℕ). remade bam j room (cut_fields (is_reverse bam) n (packed_seq bam) before before-reverse start)) (sym letters) ∙ (opened_is bam k whole parsed inside room (cut_fields (is_reverse bam) n (packed_seq bam) before before-reverse start))

    pub cut_untagged : is_tagged fs ≡ false → cut_record bam before before-reverse start room ≡ stays
    unfolding cut_fields
    cut_untagged t = cut_opened ∙ came (cut_fields (is_reverse bam) n (packed_seq bam) before before-reverse start fs) (rw t)

    module _ (tagged : is_tagged fs ≡ true) where
      pub cut_nothing : is_empty before && eqb n 0 ≡ true → cut_record bam before before-reverse start room ≡ stays
      unfolding cut_fields
      cut_nothing e = cut_opened ∙ came (cut_fields (is_reverse bam) n (packed_seq bam) before before-reverse start fs) (rw (tagged, e))

      module _ (some-base : is_empty before && eqb n 0 ≡ false) where
        pub cut_stale : disagrees (length before) (first_named MN fs) ≡ true → cut_record bam before before-reverse start room ≡ becomes (changed removal fs)
        unfolding cut_fields
        cut_stale s = cut_opened ∙ became (cut_fields (is_reverse bam) n (packed_seq bam) before before-reverse start fs) (changed removal fs) (rw (tagged, some-base, s))

        module _ (fresh : disagrees (length before) (first_named MN fs) ≡ false) where
          pub cut_same : same_bytes_of old new ≡ true → cut_record bam before before-reverse start room ≡ stays
          unfolding cut_fields
          cut_same e = cut_opened ∙ came (cut_fields (is_reverse bam) n (packed_seq bam) before before-reverse start fs) (rw (tagged, some-base, fresh, e))

          pub cut_turned_is : same_bytes_of old new ≡ false → length old ≡ length before
              → cut_record bam before before-reverse start room
              ≡ becomes (cut_turned bam old new (window_start (start_of (is_reverse bam) before-reverse (length before) n start) old new) fs)
          unfolding cut_fields
          cut_turned_is e l = cut_opened ∙ became (cut_fields (is_reverse bam) n (packed_seq bam) before before-reverse start fs) (cut_turned bam old new (window_start (start_of (is_reverse bam) before-reverse (length before) n start) old new) fs) (rw (tagged, some-base, fresh, e, l))
