-- The plan that the fates give is what the definition of the edit says, field by field.
-- Assumes nothing.
use Rattle.std.specs.Prelude.{Ok, Err, None, Some}
use mathlib.Core.Path.{◌≡◌, refl, sym, ap, ◌∙◌}
use Prim.Native.Nat.{ℕ}
use native.Mathlib.Omega.{arith}
use mathlib.Core.Bool.{Bool, true, false, cond, ◌&&◌}
use mathlib.Core.List.{List, [], ◌∷◌, ◌++◌}
use Rattle.lent.proofs.Tests.{by-test}
use Rattle.lent.specs.Answers.{is_done}
use Rattle.lent.specs.Lists.{is_empty}
use Rattle.lent.specs.Outcome.{Outcome, need}
use Rattle.record_fates.specs.Fates.{alone_fate, array_fate, guarded, length_fate, pair_fate}
use Rattle.record_fields.specs.Fields.{Field}
use Rattle.record_tags.specs.Changes.{TagEdit, alone_edited, applied, goes, length_sets, or_goes, refuses, rest, with_ml}
use Rattle.record_tags.specs.Plans.{Means, means, queue_by}
use Rattle.record_tags.specs.Values.{is_byte_array, is_text, text_of, values_of, with_text, with_values}
use Rattle.samtags.specs.Writing.{Tag}

-- an edit that succeeds was possible
pub guarded_done : (possible : Bool) (o : Outcome Tag) → is_done (need possible 2 o) ≡ true → need possible 2 o ≡ o
guarded_done true o h = refl
guarded_done false o h = let z : ◌≡◌ {A = ℕ} 0 1 = cc in absurd (omega arith)

-- an edit that does not succeed leaves no field
gone : (g : Tag → Field) (o : Outcome Tag) → is_done o ≡ false → or_goes g o ≡ []
gone g (Err r) h = refl
gone g (Ok t) h = let z : ◌≡◌ {A = ℕ} 0 1 = cc in absurd (omega arith)

refuses_not : (o : Outcome Tag) (b : Bool) → is_done o ≡ b → refuses o ≡ cond b false true
refuses_not (Err r) false h = refl
refuses_not (Err r) true h = let z : ◌≡◌ {A = ℕ} 0 1 = cc in absurd (omega arith)
refuses_not (Ok t) true h = refl
refuses_not (Ok t) false h = let z : ◌≡◌ {A = ℕ} 0 1 = cc in absurd (omega arith)

module _ (possible : Bool) (edit : TagEdit) (mm_text ml_values : List ℕ) (n : ℕ) where
  abbrev m : Means
  m = means edit mm_text ml_values n

  -- ---- a text that is edited without ML

  pub alone_agrees : (f : Field) → applied (queue_by m (alone_fate (guarded possible edit) f)) f ≡ alone_edited (guarded possible edit) f
  unfolding queue_by
  alone_agrees f =
      by-test (is_text f)
      (λ e. by-test (is_done (guarded possible edit false (text_of f) []))
      (λ d. rw (e, d) (ap (λ (o : Outcome Tag). or_goes (λ (t : Tag). with_text t.text f) o) (sym (guarded_done possible (edit false (text_of f) []) d))))
      (λ d. rw (e, d) (sym (gone (λ (t : Tag). with_text t.text f) (guarded possible edit false (text_of f) []) d))))
      (λ e. rw e)

  pub alone_later : (f : Field) → rest (queue_by m (alone_fate (guarded possible edit) f)) ≡ []
  unfolding queue_by
  alone_later f =
      by-test (is_text f)
      (λ e. by-test (is_done (guarded possible edit false (text_of f) [])) (λ d. rw (e, d)) (λ d. rw (e, d)))
      (λ e. rw e)

  -- ---- MM and ML

  module _ (mm ml : Field) (known : pair_fate (guarded possible edit) mm ml ≡ 3 → (mm_text ≡ text_of mm) × (ml_values ≡ values_of ml)) where
    abbrev fate : ℕ
    fate = pair_fate (guarded possible edit) mm ml

    abbrev o : Outcome Tag
    o = with_ml (guarded possible edit) mm ml

    -- the four fates: no text; it goes, since the edit refuses; it is edited alone; it is edited with its ML
    pub data FateIs : ℕ → Type 0 where
      untouched : is_text mm ≡ false → FateIs 0
      refused_it : is_text mm ≡ true → is_done o ≡ false → FateIs 1
      alone_it : is_text mm ≡ true → is_empty ml ≡ true → o ≡ edit false (text_of mm) [] → is_done o ≡ true → FateIs 2
      paired_it : is_text mm ≡ true → is_empty ml ≡ false → is_byte_array ml ≡ true → o ≡ edit true mm_text ml_values → is_done o ≡ true → FateIs 3

    -- what MM's edit is, without ML and with it
    without : is_empty ml ≡ true → o ≡ guarded possible edit false (text_of mm) []
    unfolding with_ml
    without e = rw e

    no_array : is_empty ml ≡ false → is_byte_array ml ≡ false → is_done o ≡ false
    unfolding with_ml
    no_array e b = rw (e, b)

    with_array : is_empty ml ≡ false → is_byte_array ml ≡ true → o ≡ guarded possible edit true (text_of mm) (values_of ml)
    unfolding with_ml
    with_array e b = rw (e, b)

    -- the values are those of the plan's meaning
    meant : is_empty ml ≡ false → is_text mm ≡ true → is_byte_array ml ≡ true → is_done (guarded possible edit true (text_of mm) (values_of ml)) ≡ true
        → o ≡ edit true mm_text ml_values
    meant e t b d =
        let three : fate ≡ 3 = rw (e, t, b, d) in
        with_array e b ∙ guarded_done possible (edit true (text_of mm) (values_of ml)) d ∙ (λ j. edit true (sym (known three).0 j) (sym (known three).1 j))

    pub fate_is : FateIs fate
    fate_is =
        by-test (is_empty ml)
        (λ e. by-test (is_text mm)
        (λ t. by-test (is_done (guarded possible edit false (text_of mm) []))
        (λ d. rw (e, t, d) (alone_it t e (without e ∙ guarded_done possible (edit false (text_of mm) []) d) (ap is_done (without e) ∙ d)))
        (λ d. rw (e, t, d) (refused_it t (ap is_done (without e) ∙ d))))
        (λ t. rw (e, t) (untouched t)))
        (λ e. by-test (is_text mm)
        (λ t. by-test (is_byte_array ml)
        (λ b. by-test (is_done (guarded possible edit true (text_of mm) (values_of ml)))
        (λ d. rw (e, t, b, d) (paired_it t e b (meant e t b d) (ap is_done (with_array e b) ∙ d)))
        (λ d. rw (e, t, b, d) (refused_it t (ap is_done (with_array e b) ∙ d))))
        (λ b. rw (e, t, b) (refused_it t (no_array e b))))
        (λ t. rw (e, t) (untouched t)))

    pub mm_agrees : {k : ℕ} → FateIs k → applied (queue_by m k) mm ≡ cond (is_text mm) (or_goes (λ (t : Tag). with_text t.text mm) o) (mm ∷ [])
    unfolding queue_by
    mm_agrees (untouched t) = rw t
    mm_agrees (refused_it t d) = rw t (sym (gone (λ (t : Tag). with_text t.text mm) o d))
    mm_agrees (alone_it t e q d) = rw (t, q)
    mm_agrees (paired_it t e b q d) = rw (t, q)

    pub ml_agrees : {k : ℕ} → FateIs k → is_empty ml ≡ false
        → applied (queue_by m (array_fate k)) ml ≡ cond (is_text mm) (or_goes (λ (t : Tag). with_values t.ml ml) o) (ml ∷ [])
    unfolding queue_by
    ml_agrees (untouched t) h = rw t
    ml_agrees (refused_it t d) h = rw t (sym (gone (λ (t : Tag). with_values t.ml ml) o d))
    ml_agrees (alone_it t e q d) h = let z : ◌≡◌ {A = ℕ} 0 1 = cc in absurd (omega arith)
    ml_agrees (paired_it t e b q d) h = rw (t, q)

    pub mn_same : {k : ℕ} → FateIs k → (set : Bool)
        → queue_by m (length_fate k set) ≡ cond (is_text mm && refuses o) (goes ∷ []) [] ++ length_sets (cond set (Some n) None)
    unfolding queue_by
    mn_same (untouched t) true = rw t
    mn_same (untouched t) false = rw t
    mn_same (refused_it t d) true = rw (t, refuses_not o false d)
    mn_same (refused_it t d) false = rw (t, refuses_not o false d)
    mn_same (alone_it t e q d) true = rw (t, refuses_not o true d)
    mn_same (alone_it t e q d) false = rw (t, refuses_not o true d)
    mn_same (paired_it t e b q d) true = rw (t, refuses_not o true d)
    mn_same (paired_it t e b q d) false = rw (t, refuses_not o true d)

    pub later_none : {k : ℕ} → FateIs k → (rest (queue_by m k) ≡ []) × (rest (queue_by m (array_fate k)) ≡ [])
    unfolding queue_by
    later_none (untouched t) = (refl, refl)
    later_none (refused_it t d) = (refl, refl)
    later_none (alone_it t e q d) = (refl, refl)
    later_none (paired_it t e b q d) = (refl, refl)
