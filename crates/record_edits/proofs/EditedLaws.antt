-- What an edit of an opened record needs and gives: the fields that were noted are those of the definition, the plan can be carried out, and the record that
-- it writes is the one that the definition says.
-- Assumes nothing.
use Rattle.std.specs.Prelude.{None, Some}
use mathlib.Core.Path.{◌≡◌, sym, ap, ◌∙◌, subst}
use Prim.Native.Nat.{ℕ, ◌+◌, ◌≤◌, ◌<◌}
use native.Mathlib.Omega.{arith}
use mathlib.Core.Bool.{Bool, true, false, cond, ◌&&◌, ◌||◌}
use mathlib.Core.List.{List, [], ◌∷◌, ◌++◌}
use lib.Dec.{leb, ltb, eqb}
use lib.ListN.{length, length-drop, get_or, take, drop}
use borrow.Author.Tests.{eqb-true, leb-true, le-leb}
use Rattle.lent.proofs.Lists.{every_imp}
use Rattle.lent.proofs.Tests.{and_true_l, and_true_r, by-test}
use Rattle.lent.specs.Answers.{is_done}
use Rattle.lent.specs.Lists.{every, is_empty}
use Rattle.record_edits.proofs.Agreement.{plan_ready, plan_went, planned_is}
use Rattle.record_edits.proofs.Removal.{all_go, removal_is, removal_went}
use Rattle.record_edits.specs.Finish.{finished_from}
use Rattle.record_fates.proofs.FateLaws.{field_least, first_sound, part_length}
use Rattle.record_fates.specs.Fates.{alone_fate, guarded, is_sound, pair_fate, plan_of}
use Rattle.record_fields.proofs.FieldsLaws.{fields_done}
use Rattle.record_fields.proofs.Inverse.{fields_each}
use Rattle.record_fields.proofs.Kept.{bytes_field}
use Rattle.record_fields.specs.Fields.{Field, fields, fields_of, first_named, is_field, joined}
use Rattle.record_fields.specs.Spots.{Spots, part}
use Rattle.record_tags.proofs.GrowthLaws.{length_text}
use Rattle.record_tags.specs.Changes.{TagEdit, changed, editing, is_tagged, removal}
use Rattle.record_tags.specs.Plans.{Means, Ready, means, planned}
use Rattle.record_tags.specs.Records.{array_fits, finished_with, in_domain, text_fits}
use Rattle.record_tags.specs.Values.{is_byte_array, is_text, text_of, values_of}

pub each_long : (bytes : List ℕ) → is_done (fields bytes) ≡ true → every (λ (f : Field). leb 4 (length f)) (fields_of bytes) ≡ true
each_long bytes d =
    every_imp is_field (λ (f : Field). leb 4 (length f)) (λ f h. le-leb 4 (length f) (field_least f h)) (fields_of bytes)
    (fields_each bytes (fields_of bytes) (fields_done bytes d))

-- ---- removal

pub removed : (m : Means) (bam : List ℕ) (from : ℕ) → is_tagged (fields_of (drop from bam)) ≡ true
    → finished_with true (take from bam ++ joined (changed (planned m all_go) (fields_of (drop from bam))))
    ≡ finished_from from bam (fields_of (drop from bam)) (changed removal (fields_of (drop from bam)))
removed m bam from t =
    let fs = fields_of (drop from bam) in
    let went : true ≡ ltb (length (changed removal fs)) (length fs) =
    sym (removal_went m fs t) ∙ ap (λ (l : List Field). ltb (length l) (length fs)) (removal_is m fs) in
    λ j. finished_with (went j) (take from bam ++ joined (removal_is m fs j))

-- ---- the fields that an edit looks at

module _ (bam : List ℕ) (from : ℕ) (ats sizes : List ℕ) (bases k : ℕ) (d : is_done (fields (drop from bam)) ≡ true)
    (s : Spots bam (fields_of (drop from bam)) ats sizes) (i : in_domain bases k (fields_of (drop from bam)) ≡ true) where
  abbrev fs : List Field
  fs = fields_of (drop from bam)

  abbrev at : ℕ → Field
  at j = part bam (get_or ats j 0) (get_or sizes j 0)

  abbrev n? : Bool
  n? = leb bases 16000

  abbrev k? : Bool
  k? = leb k 16000

  pub sound : (j : ℕ) → j < 6 → is_sound (at j) ≡ true
  sound j h = ap is_sound (s j h).0 ∙ first_sound j fs (fields_each (drop from bam) fs (fields_done (drop from bam) d))

  first_two : n? && k? && text_fits (first_named 0 fs) && array_fits (first_named 1 fs) ≡ true
  unfolding in_domain
  first_two =
      and_true_l (n? && k? && text_fits (first_named 0 fs) && array_fits (first_named 1 fs)) (text_fits (first_named 3 fs))
      (and_true_l (n? && k? && text_fits (first_named 0 fs) && array_fits (first_named 1 fs) && text_fits (first_named 3 fs)) (text_fits (first_named 4 fs)) i)

  pub mm_fits : text_fits (first_named 0 fs) ≡ true
  mm_fits = and_true_r (n? && k?) (text_fits (first_named 0 fs)) (and_true_l (n? && k? && text_fits (first_named 0 fs)) (array_fits (first_named 1 fs)) first_two)

  pub ml_fits : array_fits (first_named 1 fs) ≡ true
  ml_fits = and_true_r (n? && k? && text_fits (first_named 0 fs)) (array_fits (first_named 1 fs)) first_two

  pub am_fits : text_fits (first_named 3 fs) ≡ true
  unfolding in_domain
  am_fits =
      and_true_r (n? && k? && text_fits (first_named 0 fs) && array_fits (first_named 1 fs)) (text_fits (first_named 3 fs))
      (and_true_l (n? && k? && text_fits (first_named 0 fs) && array_fits (first_named 1 fs) && text_fits (first_named 3 fs)) (text_fits (first_named 4 fs)) i)

  pub bm_fits : text_fits (first_named 4 fs) ≡ true
  unfolding in_domain
  bm_fits = and_true_r (n? && k? && text_fits (first_named 0 fs) && array_fits (first_named 1 fs) && text_fits (first_named 3 fs)) (text_fits (first_named 4 fs)) i

  pub bases_fit : bases ≤ 16000
  bases_fit =
      leb-true bases 16000 (and_true_l n? k? (and_true_l (n? && k?) (text_fits (first_named 0 fs))
      (and_true_l (n? && k? && text_fits (first_named 0 fs)) (array_fits (first_named 1 fs)) first_two)))

  -- what the fields' types say of their lengths
  text_short : (f : Field) → text_fits f ≡ true → is_text f ≡ true → length (text_of f) ≤ 65536
  text_short f h t = leb-true (length (text_of f)) 65536 (rw t at h)

  text_long : (f : Field) → is_sound f ≡ true → is_text f ≡ true → 4 ≤ length f
  text_long [] h t = let z : ◌≡◌ {A = ℕ} 0 1 = cc in absurd (omega arith)
  text_long (x ∷ xs) h t = field_least (x ∷ xs) h

  array_long : (f : Field) → is_sound f ≡ true → is_byte_array f ≡ true → 8 ≤ length f
  array_long [] h t = let z : ◌≡◌ {A = ℕ} 0 1 = cc in absurd (omega arith)
  array_long (x ∷ xs) h t =
      (bytes_field (x ∷ xs) h
      (eqb-true (get_or (x ∷ xs) 2 0) 66 (and_true_l (eqb (get_or (x ∷ xs) 2 0) 66) (eqb (get_or (x ∷ xs) 3 0) 67) t))
      (eqb-true (get_or (x ∷ xs) 3 0) 67 (and_true_r (eqb (get_or (x ∷ xs) 2 0) 66) (eqb (get_or (x ∷ xs) 3 0) 67) t))).0

  -- ---- MM that is edited with its ML

  three : (edit : TagEdit) (mm ml : Field) → pair_fate edit mm ml ≡ 3 → (is_text mm ≡ true) × (is_byte_array ml ≡ true)
  three edit mm ml e =
      by-test (is_empty ml)
      (λ q. by-test (is_text mm)
      (λ t. by-test (is_done (edit false (text_of mm) []))
      (λ x. let z : ◌≡◌ {A = ℕ} (pair_fate edit mm ml) 2 = rw (q, t, x) in absurd (omega (arith, z, e)))
      (λ x. let z : ◌≡◌ {A = ℕ} (pair_fate edit mm ml) 1 = rw (q, t, x) in absurd (omega (arith, z, e))))
      (λ t. let z : ◌≡◌ {A = ℕ} (pair_fate edit mm ml) 0 = rw (q, t) in absurd (omega (arith, z, e))))
      (λ q. by-test (is_text mm)
      (λ t. by-test (is_byte_array ml)
      (λ b. (t, b))
      (λ b. let z : ◌≡◌ {A = ℕ} (pair_fate edit mm ml) 1 = rw (q, t, b) in absurd (omega (arith, z, e))))
      (λ t. let z : ◌≡◌ {A = ℕ} (pair_fate edit mm ml) 0 = rw (q, t) in absurd (omega (arith, z, e))))

  module _ (edit : TagEdit) (mm : ℕ) (is : mm ≡ pair_fate edit (at 0) (at 1)) where
    pub text_slice : mm ≡ 3 → (4 ≤ get_or sizes 0 0) × (get_or sizes 0 0 ≤ 65540)
    text_slice e =
        let both = three edit (at 0) (at 1) (sym is ∙ e) in
        let bound : get_or ats 0 0 + get_or sizes 0 0 ≤ length bam = (s 0 (omega arith)).1 in
        let size = part_length bam (get_or ats 0 0) (get_or sizes 0 0) bound in
        let long = text_long (at 0) (sound 0 (omega arith)) both.0 in
        let short = text_short (at 0) (ap text_fits (s 0 (omega arith)).0 ∙ mm_fits) both.0 in
        (omega (arith, long, size), omega (arith, long, size, short, length_text (at 0) long))

    pub values_slice : mm ≡ 3 → (8 ≤ get_or sizes 1 0) × (get_or sizes 1 0 ≤ 65544)
    values_slice e =
        let both = three edit (at 0) (at 1) (sym is ∙ e) in
        let bound : get_or ats 1 0 + get_or sizes 1 0 ≤ length bam = (s 1 (omega arith)).1 in
        let size = part_length bam (get_or ats 1 0) (get_or sizes 1 0) bound in
        let long = array_long (at 1) (sound 1 (omega arith)) both.1 in
        let fits : array_fits (at 1) ≡ true = ap array_fits (s 1 (omega arith)).0 ∙ ml_fits in
        let short = leb-true (length (values_of (at 1))) 65536 (rw both.1 at fits) in
        (omega (arith, long, size), omega (arith, long, size, short, length-drop 8 (at 1)))

  -- ---- the plan is that of the definition

  module _ (possible : Bool) (edit : TagEdit) (set : Bool) (mm a b : ℕ) (plan : List ℕ) (went : Bool) (text values : List ℕ)
      (mm-is : mm ≡ pair_fate (guarded possible edit) (at 0) (at 1)) (a-is : a ≡ alone_fate (guarded possible edit) (at 3))
      (b-is : b ≡ alone_fate (guarded possible edit) (at 4)) (plan-is : plan ≡ plan_of mm a b set)
      (went_is : went ≡ (eqb mm 1 || eqb a 1 || eqb b 1))
      (text_is : mm ≡ 3 → text ≡ text_of (at 0)) (values-is : mm ≡ 3 → values ≡ values_of (at 1)) where
    abbrev g : TagEdit
    g = guarded possible edit

    abbrev m : Means
    m = means edit text values bases

    mm_first : mm ≡ pair_fate g (first_named 0 fs) (first_named 1 fs)
    mm_first = mm-is ∙ (λ j. pair_fate g ((s 0 (omega arith)).0 j) ((s 1 (omega arith)).0 j))

    a_first : a ≡ alone_fate g (first_named 3 fs)
    a_first = a-is ∙ ap (alone_fate g) (s 3 (omega arith)).0

    b_first : b ≡ alone_fate g (first_named 4 fs)
    b_first = b-is ∙ ap (alone_fate g) (s 4 (omega arith)).0

    abbrev asked : List ℕ
    asked = plan_of (pair_fate g (first_named 0 fs) (first_named 1 fs)) (alone_fate g (first_named 3 fs)) (alone_fate g (first_named 4 fs)) set

    plan_asked : plan ≡ asked
    plan_asked = plan-is ∙ (λ j. plan_of (mm_first j) (a_first j) (b_first j) set)

    known : pair_fate g (first_named 0 fs) (first_named 1 fs) ≡ 3 → (text ≡ text_of (first_named 0 fs)) × (values ≡ values_of (first_named 1 fs))
    known e =
        (text_is (mm_first ∙ e) ∙ ap text_of (s 0 (omega arith)).0, values-is (mm_first ∙ e) ∙ ap values_of (s 1 (omega arith)).0)

    first_is_sound : (j : ℕ) → j < 6 → is_sound (first_named j fs) ≡ true
    first_is_sound j h = ap is_sound (sym (s j h).0) ∙ sound j h

    asked_ready : Ready m asked fs
    asked_ready =
        plan_ready possible edit text values bases set fs known
        (text_long (first_named 0 fs) (first_is_sound 0 (omega arith))) (text_short (first_named 0 fs) mm_fits)
        (array_long (first_named 1 fs) (first_is_sound 1 (omega arith))) (text_short (first_named 3 fs) am_fits) (text_short (first_named 4 fs) bm_fits)

    pub edit_ready : Ready m plan fs
    edit_ready = subst (λ (l : List ℕ). Ready m l fs) (sym plan_asked) asked_ready

    abbrev new : List Field
    new = changed (editing g (cond set (Some bases) None) fs) fs

    new_is : changed (planned m plan) fs ≡ new
    new_is =
        ap (λ (l : List ℕ). changed (planned m l) fs) plan_asked
        ∙ planned_is possible edit text values bases set fs known (each_long (drop from bam) d)

    went_asked : went ≡ ltb (length new) (length fs)
    went_asked =
        went_is ∙ (λ j. eqb (mm_first j) 1 || eqb (a_first j) 1 || eqb (b_first j) 1)
        ∙ sym (plan_went possible edit text values bases set fs known
        (text_long (first_named 0 fs) (first_is_sound 0 (omega arith))) (text_short (first_named 0 fs) mm_fits)
        (array_long (first_named 1 fs) (first_is_sound 1 (omega arith))) (text_short (first_named 3 fs) am_fits) (text_short (first_named 4 fs) bm_fits))
        ∙ ap (λ (l : List ℕ). ltb (length (changed (planned m l) fs)) (length fs)) (sym plan_asked)
        ∙ ap (λ (l : List Field). ltb (length l) (length fs)) new_is

    pub edit_finished : finished_with went (take from bam ++ joined (changed (planned m plan) fs)) ≡ finished_from from bam fs new
    edit_finished = λ j. finished_with (went_asked j) (take from bam ++ joined (new_is j))
