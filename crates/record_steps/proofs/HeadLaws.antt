-- What the code works with, which it reads off the head and finds in its rows, is what the definitions say.
-- Assumes nothing.
use Rattle.std.specs.Prelude.{Ok, Option, None, Some}
use mathlib.Core.Path.{◌≡◌, refl, sym, ap, ◌∙◌, subst}
use Prim.Native.Nat.{ℕ, ◌+◌, ◌≤◌, ◌<◌}
use native.Mathlib.Omega.{arith}
use mathlib.Core.Bool.{Bool, true, false, cond, not, ◌&&◌, ◌||◌}
use mathlib.Core.List.{List, [], ◌∷◌}
use lib.Dec.{leb, eqb}
use lib.ListN.{length, get_or, take, drop}
use borrow.Author.Tests.{ne_eqb}
use Rattle.changing.specs.Windows.{is_marked, marked_at, stored_at}
use Rattle.lent.proofs.Filled.{over_front}
use Rattle.lent.specs.Filled.{over}
use Rattle.lent.specs.Lists.{is_empty}
use Rattle.lent.specs.Outcome.{Outcome}
use Rattle.packed.proofs.Turning.{length_in_read}
use Rattle.packed.specs.Packed.{bytes_for, unpack}
use Rattle.packed.specs.Stored.{in_read, places_in_read}
use Rattle.record_edits.specs.Finish.{finished_from}
use Rattle.record_fates.proofs.OpeningLaws.{whole_fits}
use Rattle.lent.specs.Answers.{is_done}
use Rattle.record_fates.proofs.FateLaws.{opened_inside}
use Rattle.record_fates.specs.Fates.{HeadRead, OpenedAs, guarded}
use Rattle.record_fields.proofs.SpotLaws.{spot_size}
use Rattle.record_fields.specs.Bam.{head_size, is_reverse, is_whole, packed_seq, seq_length}
use Rattle.record_fields.specs.Fields.{Field, fields, fields_of, first_named}
use Rattle.record_fields.specs.Spots.{Spots, part}
use Rattle.record_fields.specs.declared.Head.{Head}
use Rattle.record_rows.proofs.LetterLaws.{length_turned}
use Rattle.record_rows.specs.Letters.{turned_letters}
use Rattle.record_steps.proofs.StepLaws.{cut_edit_lem, drop_edit_lem, mask_edit_lem}
use Rattle.record_steps.specs.Cuts.{cut_turned}
use Rattle.record_tags.specs.Changes.{TagEdit, changed, editing, is_tagged, removal}
use Rattle.record_tags.specs.Plans.{by_window}
use Rattle.record_tags.specs.Records.{Finished, cut_edit, drop_edit, finished, in_domain, in_room, mask_edit}
use Rattle.record_writing.specs.Answers.{leaves_record}
use Rattle.samtags.specs.Edits.{lies_in}

-- the front of a row of letters
pub letters_front : (reverse : Bool) (letters row row₀ : List ℕ) (k : ℕ) → k ≡ length letters → row ≡ over (turned_letters reverse letters) row₀
    → take k row ≡ turned_letters reverse letters
letters_front reverse letters row row₀ k e f =
    let long : k ≡ length (turned_letters reverse letters) = e ∙ sym (length_turned reverse letters) in
    ap (take k) f ∙ ap (λ (i : ℕ). take i (over (turned_letters reverse letters) row₀)) long ∙ over_front (turned_letters reverse letters) row₀

module _ (bam : List ℕ) (h : Head) (r : HeadRead bam h) where
  -- SEQ's bytes are within the record
  pub seq_fits : is_whole bam ≡ true → h.seq_at + bytes_for h.bases ≤ length bam
  seq_fits w =
      let all = (whole_fits bam w).1 in
      let n = r.1 in
      let at = r.2 in
      let bytes : bytes_for h.bases ≡ bytes_for (seq_length bam) = ap bytes_for n in
      omega (arith, all, at, bytes)

  pub seq_is : (turned : Bool) → in_read turned h.bases (part bam h.seq_at (bytes_for h.bases)) ≡ in_read turned (seq_length bam) (packed_seq bam)
  seq_is turned = λ j. in_read turned (r.1 j) (part bam (r.2 j) (bytes_for (r.1 j)))

  pub seq_read : in_read h.reverse h.bases (part bam h.seq_at (bytes_for h.bases)) ≡ in_read (is_reverse bam) (seq_length bam) (packed_seq bam)
  seq_read = ap (λ (t : Bool). in_read t h.bases (part bam h.seq_at (bytes_for h.bases))) r.0 ∙ seq_is (is_reverse bam)

  -- a record finished from where the code found its fields
  abbrev made : ℕ → ℕ → TagEdit → Option ℕ → Outcome Finished
  made room from edit new =
      in_room room (finished_from from bam (fields_of (drop from bam)) (changed (editing edit new (fields_of (drop from bam))) (fields_of (drop from bam))))

  pub removed_from : (room : ℕ)
      → in_room room (finished_from h.fields_at bam (fields_of (drop h.fields_at bam)) (changed removal (fields_of (drop h.fields_at bam))))
      ≡ in_room room (finished bam (fields_of (drop (head_size bam) bam)) (changed removal (fields_of (drop (head_size bam) bam))))
  removed_from room =
      ap (λ (i : ℕ). in_room room (finished_from i bam (fields_of (drop i bam)) (changed removal (fields_of (drop i bam))))) r.3

  -- ---- masking

  pub masked_is : (room : ℕ) (before p q : List ℕ) → p ≡ turned_letters h.reverse before
      → q ≡ in_read h.reverse h.bases (part bam h.seq_at (bytes_for h.bases))
      → made room h.fields_at (guarded (eqb (length before) h.bases) (by_window 0 q [] p)) None
      ≡ made room (head_size bam) (mask_edit (turned_letters (is_reverse bam) before) (in_read (is_reverse bam) (seq_length bam) (packed_seq bam))) None
  masked_is room before p q e f =
      let old = turned_letters (is_reverse bam) before in
      let new = in_read (is_reverse bam) (seq_length bam) (packed_seq bam) in
      let possible : eqb (length before) h.bases ≡ eqb (length old) (length new) =
      (λ j. eqb (sym (length_turned (is_reverse bam) before) j) ((r.1 ∙ sym (length_in_read (is_reverse bam) (seq_length bam) (packed_seq bam))) j)) in
      let first : p ≡ old = e ∙ ap (λ (t : Bool). turned_letters t before) r.0 in
      let edit : guarded (eqb (length before) h.bases) (by_window 0 q [] p) ≡ mask_edit old new =
      (λ j. guarded (possible j) (by_window 0 ((f ∙ seq_read) j) [] (first j))) ∙ mask_edit_lem old new in
      λ j. made room (r.3 j) (edit j) None

  -- ---- dropping

  pub dropped_is : (room : ℕ) (places marks marks' q : List ℕ) → q ≡ in_read h.reverse h.bases (part bam h.seq_at (bytes_for h.bases))
      → marks' ≡ stored_at 1 (places_in_read h.reverse h.bases places) marks → seq_length bam ≤ length marks → ((p : ℕ) → is_marked marks p ≡ false)
      → made room h.fields_at (guarded true (by_window 0 q marks' q)) None
      ≡ made room (head_size bam) (drop_edit (in_read (is_reverse bam) (seq_length bam) (packed_seq bam)) (places_in_read (is_reverse bam) (seq_length bam) places)) None
  dropped_is room places marks marks' q f g l u =
      let new = in_read (is_reverse bam) (seq_length bam) (packed_seq bam) in
      let there = places_in_read (is_reverse bam) (seq_length bam) places in
      let marked : marks' ≡ marked_at there marks = g ∙ (λ j. stored_at 1 (places_in_read (r.0 j) (r.1 j) places) marks) in
      let seq : q ≡ new = f ∙ seq_read in
      let long : length new ≤ length marks = omega (arith, l, length_in_read (is_reverse bam) (seq_length bam) (packed_seq bam)) in
      let edit : guarded true (by_window 0 q marks' q) ≡ drop_edit new there =
      (λ j. guarded true (by_window 0 (seq j) (marked j) (seq j))) ∙ drop_edit_lem new there marks long u in
      λ j. made room (r.3 j) (edit j) None

  -- ---- cutting

  set_is : (a b : ℕ) (t : Bool) → t ≡ not (eqb a b) → (x : ℕ) → cond t (Some x) None ≡ cond (eqb a b) None (Some x)
  set_is a b t e x = rw e (go (eqb a b))
    where
      go : (u : Bool) → cond (not u) (Some x) None ≡ cond u None (Some x)
      go true = refl
      go false = refl

  pub cut_is_made : (room lo : ℕ) (old new : List ℕ) (t : Bool) → t ≡ not (eqb (length old) (length new)) → length new ≡ seq_length bam
      → made room h.fields_at (guarded true (by_window lo new [] old)) (cond t (Some h.bases) None)
      ≡ made room (head_size bam) (cut_edit lo old new) (cond (eqb (length old) (seq_length bam)) None (Some (seq_length bam)))
  cut_is_made room lo old new t e l =
      let length-set : cond t (Some h.bases) None ≡ cond (eqb (length old) (seq_length bam)) None (Some (seq_length bam)) =
      ap (λ (x : ℕ). cond t (Some x) None) r.1 ∙ set_is (length old) (length new) t e (seq_length bam)
      ∙ ap (λ (x : ℕ). cond (eqb (length old) x) None (Some (seq_length bam))) l in
      λ j. made room (r.3 j) (cut_edit_lem lo old new j) (length-set j)

-- ---- what the calls on an opened record need

module _ (bam : List ℕ) (k : ℕ) (ats sizes : List ℕ) (h : Head) (o : OpenedAs bam k ats sizes (Ok h)) where
  pub begins : h.fields_at ≤ length bam
  begins = let all = (whole_fits bam o.0).1 in let at = o.1.3 in omega (arith, all, at)

  pub removal_needs : is_tagged (fields_of (drop (head_size bam) bam)) ≡ true
      → (h.fields_at ≤ length bam) × (is_done (fields (drop h.fields_at bam)) ≡ true) × (is_tagged (fields_of (drop h.fields_at bam)) ≡ true)
  removal_needs t = (
    begins,
    subst (λ (i : ℕ). is_done (fields (drop i bam)) ≡ true) (sym o.1.3) o.2,
    subst (λ (i : ℕ). is_tagged (fields_of (drop i bam)) ≡ true) (sym o.1.3) t,
  )

  pub edit_needs : (seq : List ℕ) → length seq ≤ 16000
      → ((h.fields_at ≤ length bam) × (is_done (fields (drop h.fields_at bam)) ≡ true) × Spots bam (fields_of (drop h.fields_at bam)) ats sizes
      × (length seq ≤ 16000)) × ((j : ℕ) × (in_domain h.bases j (fields_of (drop h.fields_at bam)) ≡ true))
  edit_needs seq l = (
    (
      begins,
      subst (λ (i : ℕ). is_done (fields (drop i bam)) ≡ true) (sym o.1.3) o.2,
      subst (λ (i : ℕ). Spots bam (fields_of (drop i bam)) ats sizes) (sym o.1.3) o.3,
      l,
    ),
    (k, (λ j. in_domain (o.1.1 j) k (fields_of (drop (o.1.3 j) bam))) ∙ o.4),
  )

  pub bases_short : h.bases ≤ 16000
  bases_short = let few = (opened_inside bam k ats sizes h o).bases_fit in let n = o.1.1 in omega (arith, few, n)

-- ---- the fields after a cut, case by case

module _ (bam old new : List ℕ) (fs : List Field) where
  pub cut_unknown : (start : Option ℕ) → None ≡ start → cut_turned bam old new start fs ≡ changed removal fs
  cut_unknown start e = rw (← e)

  pub cut_unlike : (start : Option ℕ) (lo : ℕ) → Some lo ≡ start → leb lo (length old) && lies_in new (drop lo old) ≡ false
      → cut_turned bam old new start fs ≡ changed removal fs
  cut_unlike start lo e w = rw (← e, w)

  pub cut_to : (start : Option ℕ) (lo : ℕ) → Some lo ≡ start → leb lo (length old) && lies_in new (drop lo old) ≡ true
      → cut_turned bam old new start fs
      ≡ changed (editing (cut_edit lo old new) (cond (eqb (length old) (seq_length bam)) None (Some (seq_length bam))) fs) fs
  cut_to start lo e w = rw (← e, w)

-- ---- the answer and the row, by the outcome; the outcome, by the new fields

pub left_by : (out : List ℕ) {o p : Outcome Finished} → o ≡ p → leaves_record o out ≡ leaves_record p out
left_by out e = ap (λ (o : Outcome Finished). leaves_record o out) e

pub fields_by : (bam : List ℕ) (room : ℕ) (fs : List Field) {new new' : List Field} → new ≡ new' → in_room room (finished bam fs new) ≡ in_room room (finished bam fs new')
fields_by bam room fs e = ap (λ (new : List Field). in_room room (finished bam fs new)) e

-- SEQ as it is stored
pub read_plain : (n : ℕ) (packed : List ℕ) → in_read false n packed ≡ unpack n packed
unfolding in_read
read_plain n packed = refl

-- ---- whether there is a tag, by the sizes of the first fields

by_length : (f : Field) → not (is_empty f) ≡ not (eqb (length f) 0)
by_length [] = refl
by_length (x ∷ xs) = rw (ne_eqb (length (x ∷ xs)) 0 (λ e. omega (arith, e)))

pub tagged_by : (bam : List ℕ) (fs : List Field) (ats sizes : List ℕ) → Spots bam fs ats sizes
    → (not (eqb (get_or sizes 0 0) 0) || not (eqb (get_or sizes 3 0) 0) || not (eqb (get_or sizes 4 0) 0)) ≡ is_tagged fs
unfolding is_tagged
tagged_by bam fs ats sizes s =
    let there : (k : ℕ) → k < 6 → not (eqb (get_or sizes k 0) 0) ≡ not (is_empty (first_named k fs)) =
    λ k h. ap (λ (n : ℕ). not (eqb n 0)) (spot_size bam fs ats sizes s k h) ∙ sym (by_length (first_named k fs)) in
    λ j. there 0 (omega arith) j || there 3 (omega arith) j || there 4 (omega arith) j
