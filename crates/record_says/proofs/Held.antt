-- What an edited field holds, and what an edit of MM leaves in a record. Support for the theorems of this crate.
-- Assumes nothing.
use Rattle.std.specs.Prelude.{Ok, Err, Option}
use mathlib.Core.Path.{◌≡◌, refl, sym, ap, ◌∙◌, subst}
use Prim.Native.Nat.{ℕ, ◌+◌, ◌-◌, ◌≤◌, ◌<◌}
use native.Mathlib.Omega.{arith}
use mathlib.Core.Bool.{Bool, true, false, cond, not, ◌||◌, or-true}
use mathlib.Core.List.{List, [], ◌∷◌, ◌++◌, append_assoc}
use lib.Dec.{eqb}
use lib.ListN.{get_or-append, length, take, drop, length-append}
use lib.Seq.{drop_at, get_or-take, length-take-le, take-append_seam}
use borrow.Author.Tests.{eq-eqb, eqb-true, lt-ltb, not-true}
use Rattle.lent.proofs.Outcome.{need_rest, need_test}
use Rattle.lent.proofs.Tests.{and_true, and_true_l, and_true_r, by-test}
use Rattle.lent.specs.Lists.{is_empty}
use Rattle.lent.specs.Outcome.{Outcome, need}
use Rattle.lent.specs.declared.Refusal.{Refusal}
use Rattle.record_fields.proofs.Kept.{name_kept}
use Rattle.record_fields.specs.Bam.{word_bytes}
use Rattle.record_fields.specs.Fields.{Field, ML, MM, am, bm, first_named}
use Rattle.record_says.proofs.Edits.{Tidy, editing_sound, first_is, removal_sound}
use Rattle.record_says.proofs.Firsts.{first_gone, first_kept}
use Rattle.record_says.proofs.Made.{Made, fields_are, old_fields}
use Rattle.record_says.proofs.Pieces.{Lengths, Sound, each_fewer, each_fields, field_long, there_times}
use Rattle.record_says.specs.Says.{fields_in, has_ml, has_tag, is_alone, keeps, ml_of, mm_of, times}
use Rattle.record_tags.proofs.GrowthLaws.{length_with_text}
use Rattle.record_tags.specs.Changes.{Changes, TagEdit, alone_edited, applied, changed, editing, is_tagged, length_sets, removal, with_ml}
use Rattle.record_tags.specs.Changes as changes
use Rattle.record_tags.specs.Records.{Finished}
use Rattle.record_tags.specs.Values.{is_byte_array, is_text, text_of, values_of, with_text, with_values}
use Rattle.samtags.specs.Writing.{Tag}

-- ---- a field with a new text or new values

module _ (f : Field) (long : 4 ≤ length f) where
  pub text_type : (text : List ℕ) → is_text f ≡ true → is_text (with_text text f) ≡ true
  text_type text t =
      rw (get_or-append (take 3 f) (text ++ 0 ∷ []) 0 2 (omega (arith, length-take-le 3 f (omega arith))), get_or-take 3 f 2 0 (omega arith)) t

  pub text_held : (text : List ℕ) → text_of (with_text text f) ≡ text
  text_held text =
      let size : length (with_text text f) - 4 ≡ length text = omega (arith, length_with_text text f long) in
      let rest : drop 3 (with_text text f) ≡ text ++ 0 ∷ [] = drop_at (take 3 f) (text ++ 0 ∷ []) 3 (length-take-le 3 f (omega arith)) in
      (λ j. take (size j) (rest j)) ∙ take-append_seam text (0 ∷ [])

  pub array_type : (vs : List ℕ) → is_byte_array f ≡ true → is_byte_array (with_values vs f) ≡ true
  array_type vs t =
      let four = length-take-le 4 f long in
      rw (
        get_or-append (take 4 f) (word_bytes (length vs) ++ vs) 0 2 (omega (arith, four)),
        get_or-append (take 4 f) (word_bytes (length vs) ++ vs) 0 3 (omega (arith, four)),
        get_or-take 4 f 2 0 (omega arith),
        get_or-take 4 f 3 0 (omega arith),
      ) t

  pub values_held : (vs : List ℕ) → values_of (with_values vs f) ≡ vs
  values_held vs =
      let front = take 4 f ++ word_bytes (length vs) in
      let eight : length front ≡ 8 = length-append (take 4 f) (word_bytes (length vs)) ∙ ap (λ (k : ℕ). k + 4) (length-take-le 4 f long) in
      ap (drop 8) (sym (append_assoc (take 4 f) (word_bytes (length vs)) vs)) ∙ drop_at front vs 8 eight

-- the new record holds this tag where the old one held its tag
pub record Holds (old new : List ℕ) (t : Tag) : Type 0 where
  pub tagged : has_tag new ≡ true
  pub text : text_of (mm_of new) ≡ t.text
  pub ml_there : has_ml new ≡ has_ml old
  pub ml : has_ml old ≡ true → values_of (ml_of new) ≡ t.ml

pub text_there : (f : Field) → is_text f ≡ true → is_empty f ≡ false
text_there [] t = let z : ◌≡◌ {A = ℕ} 0 1 = cc in absurd (omega arith)
text_there (x ∷ xs) t = refl

array_there : (f : Field) → is_byte_array f ≡ true → is_empty f ≡ false
array_there [] t = let z : ◌≡◌ {A = ℕ} 0 1 = cc in absurd (omega arith)
array_there (x ∷ xs) t = refl

pub empty_is : (f : Field) → is_empty f ≡ true → f ≡ []
empty_is [] e = refl
empty_is (x ∷ xs) e = let z : ◌≡◌ {A = ℕ} 0 1 = cc in absurd (omega arith)

-- ---- a name that did not go

module _ {n : ℕ} {bam : List ℕ} {new : List Field} {r : Finished} (made : Made n bam new r) (k : ℕ) (text : is_text (first_named k (fields_in bam)) ≡ true)
    (kept : keeps k bam r.bytes ≡ true) where
  named_there : is_empty (first_named k (fields_in bam)) ≡ false
  named_there = text_there (first_named k (fields_in bam)) text

  named_stays : (m : ℕ) (c : Changes) → Sound m c (fields_in bam) → new ≡ changed c (fields_in bam) → applied (c k) (first_named k (fields_in bam)) ≡ [] → ⊥
  named_stays m c s is a =
      let less = first_gone k m c (fields_in bam) (old_fields made) s named_there a in
      let many = eqb-true (times k (fields_in r.bytes)) (times k (fields_in bam)) kept in
      omega (arith, less, many, ap (times k) (sym is), ap (times k) (fields_are made))

  -- the tags were not removed
  pub not_removed : k < 5 → new ≡ changed removal (fields_in bam) → ⊥
  unfolding removal
  not_removed h is = named_stays 0 removal (removal_sound 0 (fields_in bam) (old_fields made)) is (rw (lt-ltb k 5 h))

  -- ---- an edit of am or bm

  module _ (edit : TagEdit) (tidy : Tidy edit) (m : ℕ) (len : Option ℕ) (lengths : (b : Bool) → Lengths m (cond b (changes.goes ∷ []) [] ++ length_sets len))
      (is : new ≡ changed (editing edit len (fields_in bam)) (fields_in bam)) (alone : is_alone k ≡ true) where
    abbrev old : Field
    old = first_named k (fields_in bam)

    abbrev now : Field
    now = first_named k (fields_in r.bytes)

    alone_change : editing edit len (fields_in bam) k ≡ alone_edited edit ∷ []
    unfolding editing
    alone_change =
        by-test (eqb k am)
        (λ e. rw (eqb-true k am e))
        (λ e. let b : eqb k bm ≡ true = rw e at alone in rw (eqb-true k bm b))

    alone_by : (o : Outcome Tag) → edit false (text_of old) [] ≡ o
        → (t : Tag) × (edit false (text_of old) [] ≡ Ok t) × (is_text now ≡ true) × (text_of now ≡ t.text)
    alone_by (Err q) e =
        absurd (named_stays m (editing edit len (fields_in bam)) (editing_sound edit tidy (fields_in bam) (old_fields made) made.fits m len lengths) is
        (rw (alone_change, text, e)))
    alone_by (Ok t) e =
        let first = first_is k (fields_in bam) (old_fields made) named_there in
        let long = field_long old first.0 in
        let new_is : now ≡ with_text t.text old =
        ap (first_named k) (fields_are made ∙ is)
        ∙ first_kept k m (editing edit len (fields_in bam)) (fields_in bam) (with_text t.text old) (old_fields made)
        (editing_sound edit tidy (fields_in bam) (old_fields made) made.fits m len lengths) named_there (rw (alone_change, text, e))
        (name_kept old (t.text ++ 0 ∷ []) 3 (omega arith) (omega (arith, long)) ∙ first.1) in
        (t, e, ap is_text new_is ∙ text_type old long t.text text, ap text_of new_is ∙ text_held old long t.text)

    -- the field was edited, and holds the edited text
    pub alone_held : (t : Tag) × (edit false (text_of old) [] ≡ Ok t) × (is_text now ≡ true) × (text_of now ≡ t.text)
    alone_held = alone_by (edit false (text_of old) []) refl

-- a record with a text of one of these names is tagged
pub alone_tagged : (fs : List Field) (k : ℕ) → is_alone k ≡ true → is_text (first_named k fs) ≡ true → is_tagged fs ≡ true
unfolding is_tagged
alone_tagged fs k a t =
    let there = text_there (first_named k fs) t in
    by-test (eqb k am)
    (λ e.
    let here : is_empty (first_named am fs) ≡ false = ap (λ (j : ℕ). is_empty (first_named j fs)) (sym (eqb-true k am e)) ∙ there in
    rw (here, or-true (not (is_empty (first_named MM fs)))))
    (λ e.
    let b : eqb k bm ≡ true = rw e at a in
    let here : is_empty (first_named bm fs) ≡ false = ap (λ (j : ℕ). is_empty (first_named j fs)) (sym (eqb-true k bm b)) ∙ there in
    rw (here) (or-true (not (is_empty (first_named MM fs)) || not (is_empty (first_named am fs)))))

-- ---- an edit of MM, with its ML

-- MM of a tag is a text
pub tag_text : (bam : List ℕ) → has_tag bam ≡ true → is_text (mm_of bam) ≡ true
tag_text bam tag = and_true_l (is_text (mm_of bam)) (is_empty (ml_of bam) || is_byte_array (ml_of bam)) tag

-- a record whose MM is a text is tagged
pub mm_tagged : (bam : List ℕ) → is_text (mm_of bam) ≡ true → is_tagged (fields_in bam) ≡ true
unfolding is_tagged
mm_tagged bam text = rw (text_there (mm_of bam) text)

module _ {n : ℕ} {bam : List ℕ} {new : List Field} {r : Finished} (made : Made n bam new r) (text : is_text (mm_of bam) ≡ true)
    (kept : keeps MM bam r.bytes ≡ true) (edit : TagEdit) (tidy : Tidy edit) (m : ℕ) (len : Option ℕ)
    (lengths : (b : Bool) → Lengths m (cond b (changes.goes ∷ []) [] ++ length_sets len)) (is : new ≡ changed (editing edit len (fields_in bam)) (fields_in bam)) where
  mm_goes : (q : Refusal) → with_ml edit (mm_of bam) (ml_of bam) ≡ Err q → applied (editing edit len (fields_in bam) MM) (mm_of bam) ≡ []
  unfolding editing
  mm_goes q e = rw (text, e)

  -- MM was not removed, so its edit was done
  pub was_done : (t : Tag) × (with_ml edit (mm_of bam) (ml_of bam) ≡ Ok t)
  was_done = by (with_ml edit (mm_of bam) (ml_of bam)) refl
    where
      by : (o : Outcome Tag) → with_ml edit (mm_of bam) (ml_of bam) ≡ o → (t : Tag) × (with_ml edit (mm_of bam) (ml_of bam) ≡ Ok t)
      by (Err q) e =
          absurd (named_stays made MM text kept m (editing edit len (fields_in bam))
          (editing_sound edit tidy (fields_in bam) (old_fields made) made.fits m len lengths) is (mm_goes q e))
      by (Ok t) e = (t, e)

  -- and its ML, if there is one, is an array of bytes
  pub was_a_tag : has_tag bam ≡ true
  unfolding with_ml
  was_a_tag =
      let (t, e) = was_done in
      and_true (is_text (mm_of bam)) (is_empty (ml_of bam) || is_byte_array (ml_of bam)) text
      (by-test (is_empty (ml_of bam))
      (λ q. rw q)
      (λ q.
      let e' : need (is_byte_array (ml_of bam)) 8 (edit true (text_of (mm_of bam)) (values_of (ml_of bam))) ≡ Ok t = rw q at e in
      rw (need_test (is_byte_array (ml_of bam)) 8 (edit true (text_of (mm_of bam)) (values_of (ml_of bam))) t e') (or-true (is_empty (ml_of bam)))))

module _ {n : ℕ} {bam : List ℕ} {new : List Field} {r : Finished} (made : Made n bam new r) (tag : has_tag bam ≡ true)
    (kept : keeps MM bam r.bytes ≡ true) where
  abbrev fs : List Field
  fs = fields_in bam

  pub mm_text : is_text (mm_of bam) ≡ true
  mm_text = tag_text bam tag

  mm_there : is_empty (mm_of bam) ≡ false
  mm_there = text_there (mm_of bam) mm_text

  module _ (edit : TagEdit) (tidy : Tidy edit) (m : ℕ) (len : Option ℕ) (lengths : (b : Bool) → Lengths m (cond b (changes.goes ∷ []) [] ++ length_sets len))
      (is : new ≡ changed (editing edit len fs) fs) where
    sound : Sound m (editing edit len fs) fs
    sound = editing_sound edit tidy fs (old_fields made) made.fits m len lengths

    -- the edit of MM with its ML, if there is one
    edit_is : (t : Tag) → with_ml edit (mm_of bam) (ml_of bam) ≡ Ok t → edit (has_ml bam) (text_of (mm_of bam)) (values_of (ml_of bam)) ≡ Ok t
    unfolding with_ml
    edit_is t e =
        by-test (is_empty (ml_of bam))
        (λ q.
        let e' : edit false (text_of (mm_of bam)) [] ≡ Ok t = rw q at e in
        let none = empty_is (ml_of bam) q in
        (λ j. edit (not (is_empty (none j))) (text_of (mm_of bam)) (values_of (none j))) ∙ e')
        (λ q.
        let e' : need (is_byte_array (ml_of bam)) 8 (edit true (text_of (mm_of bam)) (values_of (ml_of bam))) ≡ Ok t = rw q at e in
        rw q (need_rest (is_byte_array (ml_of bam)) 8 (edit true (text_of (mm_of bam)) (values_of (ml_of bam))) t e'))

    module _ (t : Tag) (e : with_ml edit (mm_of bam) (ml_of bam) ≡ Ok t) where
      mm_long : 4 ≤ length (mm_of bam)
      mm_long = field_long (mm_of bam) (first_is MM fs (old_fields made) mm_there).0

      mm_new : mm_of r.bytes ≡ with_text t.text (mm_of bam)
      unfolding editing
      mm_new =
          ap (first_named MM) (fields_are made ∙ is)
          ∙ first_kept MM m (editing edit len fs) fs (with_text t.text (mm_of bam)) (old_fields made) sound mm_there (rw (mm_text, e))
          (name_kept (mm_of bam) (t.text ++ 0 ∷ []) 3 (omega arith) (omega (arith, mm_long)) ∙ (first_is MM fs (old_fields made) mm_there).1)

      -- no ML, before and after
      ml_none : is_empty (ml_of bam) ≡ true → is_empty (ml_of r.bytes) ≡ true
      ml_none q =
          let old = eqb-true (times ML fs) 0 (sym (there_times ML fs (old_fields made)) ∙ q) in
          let few = (each_fewer made.each).1 ML in
          ap (λ (l : List Field). is_empty (first_named ML l)) (fields_are made)
          ∙ there_times ML new (each_fields made.each (old_fields made)) ∙ eq-eqb (times ML new) 0 (omega (arith, old, few))

      module _ (q : is_empty (ml_of bam) ≡ false) where
        ml_array : is_byte_array (ml_of bam) ≡ true
        ml_array = subst (λ (b : Bool). b || is_byte_array (ml_of bam) ≡ true) q (and_true_r (is_text (mm_of bam)) (is_empty (ml_of bam) || is_byte_array (ml_of bam)) tag)

        ml_long : 4 ≤ length (ml_of bam)
        ml_long = field_long (ml_of bam) (first_is ML fs (old_fields made) q).0

        ml_new : ml_of r.bytes ≡ with_values t.ml (ml_of bam)
        unfolding editing
        ml_new =
            ap (first_named ML) (fields_are made ∙ is)
            ∙ first_kept ML m (editing edit len fs) fs (with_values t.ml (ml_of bam)) (old_fields made) sound q (rw (mm_text, e))
            (name_kept (ml_of bam) (word_bytes (length t.ml) ++ t.ml) 4 (omega arith) (omega (arith, ml_long)) ∙ (first_is ML fs (old_fields made) q).1)

        ml_new_array : is_byte_array (ml_of r.bytes) ≡ true
        ml_new_array = ap is_byte_array ml_new ∙ array_type (ml_of bam) ml_long t.ml ml_array

      holds : Holds bam r.bytes t
      holds = record {
        tagged =
            and_true (is_text (mm_of r.bytes)) (is_empty (ml_of r.bytes) || is_byte_array (ml_of r.bytes))
            (ap is_text mm_new ∙ text_type (mm_of bam) mm_long t.text mm_text)
            (by-test (is_empty (ml_of bam)) (λ q. rw (ml_none q)) (λ q. rw (ml_new_array q) (or-true (is_empty (ml_of r.bytes)))));
        text = ap text_of mm_new ∙ text_held (mm_of bam) mm_long t.text;
        ml_there =
            by-test (is_empty (ml_of bam))
            (λ q. rw (q, ml_none q))
            (λ q. rw (q, array_there (ml_of r.bytes) (ml_new_array q)));
        ml = λ h. let q = not-true (is_empty (ml_of bam)) h in ap values_of (ml_new q) ∙ values_held (ml_of bam) (ml_long q) t.ml;
      }

    -- MM was edited, and the new record holds the edited tag
    pub held : (t : Tag) × (edit (has_ml bam) (text_of (mm_of bam)) (values_of (ml_of bam)) ≡ Ok t) × Holds bam r.bytes t
    held = let (t, e) = was_done made mm_text kept edit tidy m len lengths is in (t, edit_is t e, holds t e)

  -- there is a tag
  pub is_tagged_lem : is_tagged fs ≡ true
  is_tagged_lem = mm_tagged bam mm_text
