-- Under the three calls each field stays, goes or becomes one field of its name. Support for the theorems of this crate.
-- Assumes nothing.
use Rattle.std.specs.Prelude.{Ok, Err, Option, None, Some}
use mathlib.Core.Path.{◌≡◌, refl, sym, subst}
use Prim.Native.Nat.{ℕ, ◌≤◌, ◌<◌}
use native.Mathlib.Omega.{arith}
use mathlib.Core.Bool.{Bool, true, false, cond, not, ◌&&◌, ◌||◌}
use mathlib.Core.List.{List, [], ◌∷◌, ◌++◌, append_assoc}
use lib.Dec.{ltb, eqb}
use lib.ListN.{length, get_or, length-drop, take}
use borrow.Author.Tests.{eqb-false, eqb-true, leb-true, ltb-true, ne_eqb}
use Rattle.lent.proofs.Outcome.{need_rest, need_test}
use Rattle.lent.proofs.Tests.{and_true_l, and_true_r, by-test}
use Rattle.lent.specs.Lists.{among, every, is_empty}
use Rattle.lent.specs.Outcome.{Outcome, need}
use Rattle.packed.specs.Packed.{unpack}
use Rattle.packed.specs.Stored.{in_read, places_in_read}
use Rattle.record_fields.proofs.Kept.{bytes_field, bytes_made, name_kept, text_made}
use Rattle.record_fields.specs.Bam.{word_bytes}
use Rattle.record_fields.specs.Fields.{Field, ML, MM, MN, am, bm, first_named, is_field, name_of}
use Rattle.record_rows.specs.Letters.{turned_letters}
use Rattle.record_says.proofs.Pieces.{Each, Lengths, Piece, Sound, all_stay, becomes, each_changed, field_long, goes, gone, gone_sets, idle, sets, stays}
use Rattle.record_says.proofs.Texts.{edited_lacks, field_text_lacks}
use Rattle.record_tags.proofs.GrowthLaws.{Shrinks, length_text, length_with_text, length_with_values}
use Rattle.record_tags.specs.Changes.{TagEdit, alone_edited, applied, changed, editing, is_tagged, length_sets, or_goes, refuses, removal, rest, with_ml}
use Rattle.record_tags.specs.Changes as changes
use Rattle.record_tags.specs.Records.{array_fits, cut_edit, cut_fields, drop_edit, drop_fields, mask_edit, mask_fields, or_removal, start_of, window_in}
use Rattle.record_tags.specs.Values.{disagrees, is_byte_array, is_text, text_of, values_of, with_text, with_values}
use Rattle.samtags.proofs.Length.{never_longer}
use Rattle.samtags.proofs.Text.{lacks}
use Rattle.samtags.specs.Edits.{cut_to, dropping_at, masked_to, same_bytes_of, window_start}
use Rattle.samtags.specs.Writing.{Tag}

-- ---- the first field of a name

pub first_is : (k : ℕ) (fs : List Field) → every is_field fs ≡ true → is_empty (first_named k fs) ≡ false
    → (is_field (first_named k fs) ≡ true) × (name_of (first_named k fs) ≡ k)
unfolding first_named
first_is k [] h e = let z : ◌≡◌ {A = ℕ} 0 1 = cc in absurd (omega arith)
first_is k (f ∷ fs) h e =
    by-test (eqb (name_of f) k)
    (λ q. rw q (and_true_l (is_field f) (every is_field fs) h, eqb-true (name_of f) k q))
    (λ q. rw q (first_is k fs (and_true_r (is_field f) (every is_field fs) h) (rw q at e)))

-- what holds of each of the five names, and of every number from 5 on
by_name : (P : ℕ → Type 0) → P MM → P ML → P MN → P am → P bm → ((k : ℕ) → 5 ≤ k → P k) → (k : ℕ) → P k
by_name P a b c d e f k =
    by-test (eqb k 0) (λ q. subst P (sym (eqb-true k 0 q)) a)
    (λ q0. by-test (eqb k 1) (λ q. subst P (sym (eqb-true k 1 q)) b)
    (λ q1. by-test (eqb k 2) (λ q. subst P (sym (eqb-true k 2 q)) c)
    (λ q2. by-test (eqb k 3) (λ q. subst P (sym (eqb-true k 3 q)) d)
    (λ q3. by-test (eqb k 4) (λ q. subst P (sym (eqb-true k 4 q)) e)
    (λ q4. f k (omega (arith, eqb-false k 0 q0, eqb-false k 1 q1, eqb-false k 2 q2, eqb-false k 3 q3, eqb-false k 4 q4)))))))

-- ---- edits

-- the edit's tags are no longer than they were, and a text without a NUL stays one
pub record Tidy (edit : TagEdit) : Type 0 where
  pub shrinks : Shrinks edit
  pub no_nul : (ml? : Bool) (text ml : List ℕ) (t : Tag) → edit ml? text ml ≡ Ok t → lacks 0 text ≡ true → among t.text 0 ≡ false

pub mask_tidy : (before seq : List ℕ) → Tidy (mask_edit before seq)
unfolding mask_edit
mask_tidy before seq = record {
  shrinks = λ ml? text ml t e. never_longer (masked_to seq) ml? before text ml t (need_rest (eqb (length before) (length seq)) 2 _ t e);
  no_nul = λ ml? text ml t e h. edited_lacks (masked_to seq) ml? before text ml t (need_rest (eqb (length before) (length seq)) 2 _ t e) h;
}

pub drop_tidy : (seq places : List ℕ) → Tidy (drop_edit seq places)
unfolding drop_edit
drop_tidy seq places = record {
  shrinks = λ ml? text ml t e. never_longer (dropping_at places) ml? seq text ml t e;
  no_nul = λ ml? text ml t e h. edited_lacks (dropping_at places) ml? seq text ml t e h;
}

pub cut_tidy : (lo : ℕ) (before seq : List ℕ) → Tidy (cut_edit lo before seq)
unfolding cut_edit
cut_tidy lo before seq = record {
  shrinks = λ ml? text ml t e. never_longer (cut_to lo seq) ml? before text ml t e;
  no_nul = λ ml? text ml t e h. edited_lacks (cut_to lo seq) ml? before text ml t e h;
}

-- a text that is edited
text_piece : (f : Field) (o : Outcome Tag) → is_field f ≡ true → is_text f ≡ true → name_of f < 5
    → ((t : Tag) → o ≡ Ok t → (length t.text ≤ length (text_of f)) × (among t.text 0 ≡ false)) → Piece f (or_goes (λ t. with_text t.text f) o)
text_piece f (Err r) i t l h = goes l
text_piece f (Ok w) i t l h =
    let long = field_long f i in
    let is = h w refl in
    becomes l (name_kept f (w.text ++ 0 ∷ []) 3 (omega arith) (omega (arith, long)))
    (rw (← append_assoc (take 3 f) w.text (0 ∷ [])) (text_made f w.text (omega (arith, long)) (eqb-true (get_or f 2 0) 90 t) is.1))
    (omega (arith, long, is.0, length_with_text w.text f long, length_text f long))

-- values that are edited
values_piece : (f : Field) (o : Outcome Tag) → is_field f ≡ true → name_of f < 5
    → ((t : Tag) → o ≡ Ok t → (is_byte_array f ≡ true) × (length t.ml ≤ length (values_of f)) × (length t.ml ≤ 65536))
    → Piece f (or_goes (λ t. with_values t.ml f) o)
values_piece f (Err r) i l h = goes l
values_piece f (Ok w) i l h =
    let long = field_long f i in
    let is = h w refl in
    let b = eqb-true (get_or f 2 0) 66 (and_true_l (eqb (get_or f 2 0) 66) (eqb (get_or f 3 0) 67) is.0) in
    let c = eqb-true (get_or f 3 0) 67 (and_true_r (eqb (get_or f 2 0) 66) (eqb (get_or f 3 0) 67) is.0) in
    let eight = bytes_field f i b c in
    becomes l (name_kept f (word_bytes (length w.ml) ++ w.ml) 4 (omega arith) (omega (arith, long)))
    (rw (← append_assoc (take 4 f) (word_bytes (length w.ml)) w.ml) (bytes_made f w.ml long b c (omega (arith, is.2))))
    (omega (arith, long, is.1, eight.0, length_with_values w.ml f long, length-drop 8 f))

module _ (edit : TagEdit) (tidy : Tidy edit) where
  alone_piece : (f : Field) → is_field f ≡ true → name_of f < 5 → Piece f (alone_edited edit f)
  alone_piece f i l =
      by-test (is_text f)
      (λ t. rw t (text_piece f (edit false (text_of f) []) i t l
      (λ w e. ((tidy.shrinks false (text_of f) [] w e).0, tidy.no_nul false (text_of f) [] w e (field_text_lacks f i t)))))
      (λ t. rw t stays)

  -- what MM's edit gives
  with_ml_lem : (mm ml : Field) (t : Tag) → with_ml edit mm ml ≡ Ok t
      → (length t.text ≤ length (text_of mm)) × (lacks 0 (text_of mm) ≡ true → among t.text 0 ≡ false)
  unfolding with_ml
  with_ml_lem mm ml t e =
      by-test (is_empty ml)
      (λ q. let e' : edit false (text_of mm) [] ≡ Ok t = rw q at e in ((tidy.shrinks false (text_of mm) [] t e').0, tidy.no_nul false (text_of mm) [] t e'))
      (λ q.
      let e' : need (is_byte_array ml) 8 (edit true (text_of mm) (values_of ml)) ≡ Ok t = rw q at e in
      let e'' = need_rest (is_byte_array ml) 8 (edit true (text_of mm) (values_of ml)) t e' in
      ((tidy.shrinks true (text_of mm) (values_of ml) t e'').0, tidy.no_nul true (text_of mm) (values_of ml) t e''))

  with_ml_values : (mm ml : Field) (t : Tag) → is_empty ml ≡ false → with_ml edit mm ml ≡ Ok t
      → (is_byte_array ml ≡ true) × (length t.ml ≤ length (values_of ml))
  unfolding with_ml
  with_ml_values mm ml t q e =
      let e' : need (is_byte_array ml) 8 (edit true (text_of mm) (values_of ml)) ≡ Ok t = rw q at e in
      (need_test (is_byte_array ml) 8 _ t e', (tidy.shrinks true (text_of mm) (values_of ml) t (need_rest (is_byte_array ml) 8 (edit true (text_of mm) (values_of ml)) t e')).1)

  module _ (fs : List Field) (are : every is_field fs ≡ true) (fits : array_fits (first_named ML fs) ≡ true) where
    abbrev mm : Field
    mm = first_named MM fs

    abbrev ml : Field
    ml = first_named ML fs

    abbrev o : Outcome Tag
    o = with_ml edit mm ml

    mm_piece : is_empty mm ≡ false → Piece mm (cond (is_text mm) (or_goes (λ (t : Tag). with_text t.text mm) o) (mm ∷ []))
    mm_piece e =
        let is = first_is MM fs are e in
        by-test (is_text mm)
        (λ t. rw t (text_piece mm o is.0 t (omega (arith, is.1))
        (λ w q. let h = with_ml_lem mm ml w q in (h.0, h.1 (field_text_lacks mm is.0 t)))))
        (λ t. rw t stays)

    ml_piece : is_empty ml ≡ false → Piece ml (cond (is_text mm) (or_goes (λ (t : Tag). with_values t.ml ml) o) (ml ∷ []))
    ml_piece e =
        let is = first_is ML fs are e in
        by-test (is_text mm)
        (λ t. rw t (values_piece ml o is.0 (omega (arith, is.1))
        (λ w q.
        let h = with_ml_values mm ml w e q in
        let few = leb-true (length (values_of ml)) 65536 (rw h.0 at fits) in
        (h.0, h.1, omega (arith, few, h.1)))))
        (λ t. rw t stays)

    pub editing_sound : (n : ℕ) (len : Option ℕ) → ((b : Bool) → Lengths n (cond b (changes.goes ∷ []) [] ++ length_sets len)) → Sound n (editing edit len fs) fs
    unfolding editing
    editing_sound n len lengths = record {
      lengths = lengths (is_text mm && refuses o);
      first =
          by_name (λ (k : ℕ). (k ≡ MN → ⊥) → is_empty (first_named k fs) ≡ false → Piece (first_named k fs) (applied (editing edit len fs k) (first_named k fs)))
          (λ z e. mm_piece e) (λ z e. ml_piece e) (λ z e. absurd (z refl))
          (λ z e. let is = first_is am fs are e in alone_piece (first_named am fs) is.0 (omega (arith, is.1)))
          (λ z e. let is = first_is bm fs are e in alone_piece (first_named bm fs) is.0 (omega (arith, is.1)))
          (λ k h z e. rw (unasked k h) stays);
      later = by_name (λ (k : ℕ). (k ≡ MN → ⊥) → rest (editing edit len fs k) ≡ []) (λ z. refl) (λ z. refl) (λ z. absurd (z refl)) (λ z. refl) (λ z. refl)
          (λ k h z. rw (unasked k h));
    }
      where
        unasked : (k : ℕ) → 5 ≤ k → editing edit len fs k ≡ []
        unasked k h =
            rw (ne_eqb k 0 (λ e. omega (arith, e)), ne_eqb k 1 (λ e. omega (arith, e)), ne_eqb k 2 (λ e. omega (arith, e)), ne_eqb k 3 (λ e. omega (arith, e)), ne_eqb k 4 (λ e. omega (arith, e)))

pub lengths_none : (n : ℕ) (b : Bool) → Lengths n (cond b (changes.goes ∷ []) [] ++ length_sets None)
lengths_none n true = gone
lengths_none n false = idle

pub lengths_some : (len b : Bool) (n : ℕ) → Lengths 3 (cond b (changes.goes ∷ []) [] ++ length_sets (cond len None (Some n)))
lengths_some true b n = lengths_none 3 b
lengths_some false true n = gone_sets n
lengths_some false false n = sets n

-- ---- removal

pub removal_sound : (n : ℕ) (fs : List Field) → every is_field fs ≡ true → Sound n removal fs
unfolding removal
removal_sound n fs are = record {
  lengths = gone;
  first = λ k z e.
      let is = first_is k fs are e in
      by-test (ltb k 5)
      (λ q. rw q (goes (omega (arith, is.1, ltb-true k 5 q))))
      (λ q. rw q stays);
  later = λ k z. by-test (ltb k 5) (λ q. rw q) (λ q. rw q);
}

-- ---- the three calls

module _ (fs : List Field) (are : every is_field fs ≡ true) where
  removed : (n : ℕ) → Each n fs (changed removal fs)
  removed n = each_changed n removal fs are (removal_sound n fs are)

  module _ (fits : array_fits (first_named ML fs) ≡ true) where
    pub mask_each : (reverse : Bool) (n : ℕ) (packed before : List ℕ) → Each 0 fs (mask_fields reverse n packed before fs)
    unfolding mask_fields
    mask_each reverse n packed before =
        let edit = mask_edit (turned_letters reverse before) (in_read reverse n packed) in
        let made = each_changed 0 (editing edit None fs) fs are
        (editing_sound edit (mask_tidy (turned_letters reverse before) (in_read reverse n packed)) fs are fits 0 None (lengths_none 0)) in
        by-test (is_tagged fs)
        (λ t. rw t
        (by-test (disagrees n (first_named MN fs))
        (λ d. rw d (removed 0))
        (λ d. rw d (by-test (same_bytes_of before (unpack n packed)) (λ s. rw s (all_stay fs)) (λ s. rw s made)))))
        (λ t. rw t (all_stay fs))

    pub drop_each : (reverse : Bool) (n : ℕ) (packed places : List ℕ) → Each 0 fs (drop_fields reverse n packed places fs)
    unfolding drop_fields
    drop_each reverse n packed places =
        let edit = drop_edit (in_read reverse n packed) (places_in_read reverse n places) in
        let made = each_changed 0 (editing edit None fs) fs are
        (editing_sound edit (drop_tidy (in_read reverse n packed) (places_in_read reverse n places)) fs are fits 0 None (lengths_none 0)) in
        by-test (is_empty places || not (is_tagged fs))
        (λ t. rw t (all_stay fs))
        (λ t. rw t (by-test (disagrees n (first_named MN fs)) (λ d. rw d (removed 0)) (λ d. rw d made)))

    windowed : (w : Option ℕ) (f : ℕ → List Field) → ((lo : ℕ) → Each 3 fs (f lo)) → Each 3 fs (or_removal w fs f)
    windowed None f h = removed 3
    windowed (Some lo) f h = h lo

    pub cut_each : (reverse : Bool) (n : ℕ) (packed before : List ℕ) (before-reverse : Bool) (start : Option ℕ)
        → Each 3 fs (cut_fields reverse n packed before before-reverse start fs)
    unfolding cut_fields
    cut_each reverse n packed before before-reverse start =
        let old = turned_letters before-reverse before in
        let new = in_read reverse n packed in
        let made : (lo : ℕ) → Each 3 fs (changed (editing (cut_edit lo old new) (cond (eqb (length before) n) None (Some n)) fs) fs) =
        λ lo. each_changed 3 (editing (cut_edit lo old new) (cond (eqb (length before) n) None (Some n)) fs) fs are
        (editing_sound (cut_edit lo old new) (cut_tidy lo old new) fs are fits 3 (cond (eqb (length before) n) None (Some n)) (λ b. lengths_some (eqb (length before) n) b n)) in
        by-test (not (is_tagged fs) || is_empty before && eqb n 0)
        (λ t. rw t (all_stay fs))
        (λ t. rw t
        (by-test (disagrees (length before) (first_named MN fs))
        (λ d. rw d (removed 3))
        (λ d. rw d
        (by-test (same_bytes_of old new)
        (λ s. rw s (all_stay fs))
        (λ s. rw s (windowed (window_in (window_start (start_of reverse before-reverse (length before) n start) old new) old new) _ made))))))
