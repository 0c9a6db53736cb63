-- From the definitions of the three calls to what the code does with an opened record: which edit it is, and when the record stays as it came.
-- Assumes nothing.
use mathlib.Core.Path.{◌≡◌, sym, ap, ◌∙◌}
use Prim.Native.Nat.{ℕ, ◌≤◌}
use native.Mathlib.Omega.{arith}
use mathlib.Core.Bool.{Bool, true, false}
use mathlib.Core.List.{List, [], ◌++◌}
use lib.Dec.{ltb, eqb}
use lib.ListN.{length, take, drop, take-append-drop}
use borrow.Author.Tests.{eqb-true, le-ltb}
use Rattle.changing.proofs.WindowLaws.{cut_is, drop_is, mask_is}
use Rattle.changing.specs.Windows.{is_marked, marked_at}
use Rattle.lent.proofs.Tests.{by-test}
use Rattle.lent.specs.Answers.{is_done}
use Rattle.record_fates.specs.Fates.{guarded}
use Rattle.record_fields.proofs.FieldsLaws.{fields_done}
use Rattle.record_fields.proofs.Inverse.{joined_fields}
use Rattle.record_fields.specs.Bam.{head_size, is_whole, seq_length}
use Rattle.record_fields.specs.Fields.{Field, fields, fields_of, joined}
use Rattle.record_tags.specs.Plans.{by_window}
use Rattle.record_tags.specs.Records.{cut_edit, drop_edit, finished, finished_with, in_domain, in_room, mask_edit, remade}

-- ---- an opened record

module _ (bam : List ℕ) (k : ℕ) (whole : is_whole bam ≡ true) (parsed : is_done (fields (drop (head_size bam) bam)) ≡ true)
    (inside : in_domain (seq_length bam) k (fields_of (drop (head_size bam) bam)) ≡ true) where
  pub opened_is : (room : ℕ) (new : List Field → List Field)
      → remade bam k room new ≡ in_room room (finished bam (fields_of (drop (head_size bam) bam)) (new (fields_of (drop (head_size bam) bam))))
  unfolding remade
  opened_is room new = rw (whole, fields_done (drop (head_size bam) bam) parsed, inside)

  -- the record as it came
  pub as_it_came : finished bam (fields_of (drop (head_size bam) bam)) (fields_of (drop (head_size bam) bam)) ≡ finished_with false bam
  as_it_came =
      let fs = fields_of (drop (head_size bam) bam) in
      let went : ltb (length fs) (length fs) ≡ false = le-ltb (length fs) (length fs) (omega arith) in
      let bytes : take (head_size bam) bam ++ joined fs ≡ bam =
      ap (λ (l : List ℕ). take (head_size bam) bam ++ l) (joined_fields (drop (head_size bam) bam) fs (fields_done (drop (head_size bam) bam) parsed))
      ∙ take-append-drop (head_size bam) bam in
      λ j. finished_with (went j) (bytes j)

-- ---- the edits

pub mask_edit_lem : (before seq : List ℕ) → guarded (eqb (length before) (length seq)) (by_window 0 seq [] before) ≡ mask_edit before seq
unfolding mask_edit
mask_edit_lem before seq = λ j ml? text ml. at ml? text ml j
  where
    at : (ml? : Bool) (text ml : List ℕ)
        → guarded (eqb (length before) (length seq)) (by_window 0 seq [] before) ml? text ml ≡ mask_edit before seq ml? text ml
    at ml? text ml =
        by-test (eqb (length before) (length seq))
        (λ e. rw e (sym (mask_is ml? before text ml seq (eqb-true (length before) (length seq) e))))
        (λ e. rw e)

pub drop_edit_lem : (seq places marks : List ℕ) → length seq ≤ length marks → ((p : ℕ) → is_marked marks p ≡ false)
    → guarded true (by_window 0 seq (marked_at places marks) seq) ≡ drop_edit seq places
unfolding drop_edit
drop_edit_lem seq places marks l u = λ j ml? text ml. sym (drop_is ml? seq text ml places marks l u) j

pub cut_edit_lem : (lo : ℕ) (before seq : List ℕ) → guarded true (by_window lo seq [] before) ≡ cut_edit lo before seq
unfolding cut_edit
cut_edit_lem lo before seq = λ j ml? text ml. sym (cut_is ml? before text ml lo seq) j
