-- The plan is carried out as the definition of the edit says: for the first field of each name, and for those after it.
-- Assumes nothing.
use Rattle.std.specs.Prelude.{None, Some}
use mathlib.Core.Path.{◌≡◌, refl, sym, ap, ◌∙◌, subst}
use Prim.Native.Nat.{ℕ, zero, suc, ◌+◌, ◌≤◌}
use native.Mathlib.Omega.{arith}
use mathlib.Core.Bool.{Bool, true, false, cond, ◌||◌}
use mathlib.Core.List.{List, [], ◌∷◌}
use lib.Dec.{leb, ltb, eqb}
use lib.ListN.{length, length-drop, get_or}
use borrow.Author.Tests.{eqb-true, eqb-false, leb-true, le-leb, le-ltb, lt-ltb, ne_eqb}
use Rattle.lent.proofs.Tests.{and_true, by-test}
use Rattle.lent.specs.Answers.{is_done}
use Rattle.lent.specs.Lists.{every, is_empty}
use Rattle.record_edits.proofs.PlanIs.{FateIs, alone_it, guarded_done, paired_it, refused_it, untouched, alone_agrees, alone_later, fate_is, later_none, ml_agrees, mm_agrees, mn_same}
use Rattle.record_fates.specs.Fates.{alone_fate, array_fate, guarded, length_fate, pair_fate, plan_of}
use Rattle.record_fields.specs.Fields.{Field, first_named}
use Rattle.record_tags.proofs.GoneLaws.{lets_go, none_go, some_go}
use Rattle.record_tags.proofs.GrowthLaws.{length_text}
use Rattle.record_tags.proofs.PlanLaws.{same_changed}
use Rattle.record_tags.specs.Changes.{Change, Changes, TagEdit, applied, changed, editing, rest}
use Rattle.record_tags.specs.Plans.{Means, Ready, is_ready, means, planned, queue_by}
use Rattle.record_tags.specs.Values.{is_byte_array, is_text, text_of, values_of}

pub past_plan : (a b c d e : ℕ) (k : ℕ) → 5 ≤ k → ◌≡◌ {A = ℕ} (get_or (a ∷ b ∷ c ∷ d ∷ e ∷ 0 ∷ []) k 0) 0
past_plan a b c d e zero h = absurd (omega arith)
past_plan a b c d e (suc zero) h = absurd (omega arith)
past_plan a b c d e (suc (suc zero)) h = absurd (omega arith)
past_plan a b c d e (suc (suc (suc zero))) h = absurd (omega arith)
past_plan a b c d e (suc (suc (suc (suc zero)))) h = absurd (omega arith)
past_plan a b c d e (suc (suc (suc (suc (suc zero))))) h = refl
past_plan a b c d e (suc (suc (suc (suc (suc (suc k)))))) h = refl

-- what holds of each of the five names, and of every number from 5 on
pub by_name : (P : ℕ → Type 0) → P 0 → P 1 → P 2 → P 3 → P 4 → ((k : ℕ) → 5 ≤ k → P k) → (k : ℕ) → P k
by_name P a b c d e f k =
    by-test (eqb k 0) (λ q. subst P (sym (eqb-true k 0 q)) a)
    (λ q0. by-test (eqb k 1) (λ q. subst P (sym (eqb-true k 1 q)) b)
    (λ q1. by-test (eqb k 2) (λ q. subst P (sym (eqb-true k 2 q)) c)
    (λ q2. by-test (eqb k 3) (λ q. subst P (sym (eqb-true k 3 q)) d)
    (λ q3. by-test (eqb k 4) (λ q. subst P (sym (eqb-true k 4 q)) e)
    (λ q4. f k (omega (arith, eqb-false k 0 q0, eqb-false k 1 q1, eqb-false k 2 q2, eqb-false k 3 q3, eqb-false k 4 q4)))))))

small_stays : (a : ℕ) → leb a 4 ≡ true → eqb a 1 ≡ false → lets_go a ≡ false
small_stays a l e = let few = leb-true a 4 l in rw (e, ne_eqb a 6 (λ q. omega (arith, few, q)))

array_stays : (k : ℕ) → eqb k 1 ≡ false → lets_go (array_fate k) ≡ false
array_stays k e = by-test (eqb k 3) (λ q. rw (e, q)) (λ q. rw (e, q))

length_stays : (k : ℕ) (set : Bool) → eqb k 1 ≡ false → lets_go (length_fate k set) ≡ false
length_stays k true e = rw e
length_stays k false e = rw e

text_there : (f : Field) → is_text f ≡ true → is_empty f ≡ false
text_there [] t = let z : ◌≡◌ {A = ℕ} 0 1 = cc in absurd (omega arith)
text_there (x ∷ xs) t = refl

module _ (possible : Bool) (edit : TagEdit) (mm_text ml_values : List ℕ) (n : ℕ) (set : Bool) (fs : List Field)
    (known : pair_fate (guarded possible edit) (first_named 0 fs) (first_named 1 fs) ≡ 3
    → (mm_text ≡ text_of (first_named 0 fs)) × (ml_values ≡ values_of (first_named 1 fs))) where
  abbrev m : Means
  m = means edit mm_text ml_values n

  abbrev g : TagEdit
  g = guarded possible edit

  abbrev plan : List ℕ
  plan = plan_of (pair_fate g (first_named 0 fs) (first_named 1 fs)) (alone_fate g (first_named 3 fs)) (alone_fate g (first_named 4 fs)) set

  abbrev asked : Changes
  asked = editing g (cond set (Some n) None) fs

  fate : FateIs possible edit mm_text ml_values n (first_named 0 fs) (first_named 1 fs) known (pair_fate g (first_named 0 fs) (first_named 1 fs))
  fate = fate_is possible edit mm_text ml_values n (first_named 0 fs) (first_named 1 fs) known

  unplanned : (k : ℕ) → 5 ≤ k → planned m plan k ≡ []
  unfolding planned queue_by
  unplanned k h = rw (past_plan (pair_fate g (first_named 0 fs) (first_named 1 fs)) (array_fate (pair_fate g (first_named 0 fs) (first_named 1 fs)))
      (length_fate (pair_fate g (first_named 0 fs) (first_named 1 fs)) set) (alone_fate g (first_named 3 fs)) (alone_fate g (first_named 4 fs)) k h)

  unasked : (k : ℕ) → 5 ≤ k → asked k ≡ []
  unfolding editing
  unasked k h =
      rw (ne_eqb k 0 (λ e. omega (arith, e)), ne_eqb k 1 (λ e. omega (arith, e)), ne_eqb k 2 (λ e. omega (arith, e)), ne_eqb k 3 (λ e. omega (arith, e)), ne_eqb k 4 (λ e. omega (arith, e)))

  agree_first : (k : ℕ) → is_empty (first_named k fs) ≡ false → applied (planned m plan k) (first_named k fs) ≡ applied (asked k) (first_named k fs)
  unfolding planned editing
  agree_first =
      by_name (λ (k : ℕ). is_empty (first_named k fs) ≡ false → applied (planned m plan k) (first_named k fs) ≡ applied (asked k) (first_named k fs))
      (λ h. mm_agrees possible edit mm_text ml_values n (first_named 0 fs) (first_named 1 fs) known fate)
      (λ h. ml_agrees possible edit mm_text ml_values n (first_named 0 fs) (first_named 1 fs) known fate h)
      (λ h. ap (λ (q : List Change). applied q (first_named 2 fs)) (mn_same possible edit mm_text ml_values n (first_named 0 fs) (first_named 1 fs) known fate set))
      (λ h. alone_agrees possible edit mm_text ml_values n (first_named 3 fs))
      (λ h. alone_agrees possible edit mm_text ml_values n (first_named 4 fs))
      (λ k h e. ap (λ (q : List Change). applied q (first_named k fs)) (unplanned k h ∙ sym (unasked k h)))

  agree_later : (k : ℕ) → rest (planned m plan k) ≡ rest (asked k)
  unfolding planned editing
  agree_later =
      by_name (λ (k : ℕ). rest (planned m plan k) ≡ rest (asked k))
      (later_none possible edit mm_text ml_values n (first_named 0 fs) (first_named 1 fs) known fate).0
      (later_none possible edit mm_text ml_values n (first_named 0 fs) (first_named 1 fs) known fate).1
      (ap rest (mn_same possible edit mm_text ml_values n (first_named 0 fs) (first_named 1 fs) known fate set))
      (alone_later possible edit mm_text ml_values n (first_named 3 fs))
      (alone_later possible edit mm_text ml_values n (first_named 4 fs))
      (λ k h. ap rest (unplanned k h ∙ sym (unasked k h)))

  pub planned_is : every (λ (f : Field). leb 4 (length f)) fs ≡ true → changed (planned m plan) fs ≡ changed asked fs
  planned_is long = same_changed (planned m plan) asked fs long (record { first = agree_first; later = agree_later })

  -- ---- the plan can be carried out

  module _ (mm_long : is_text (first_named 0 fs) ≡ true → 4 ≤ length (first_named 0 fs))
      (mm_fits : is_text (first_named 0 fs) ≡ true → length (text_of (first_named 0 fs)) ≤ 65536)
      (ml_long : is_byte_array (first_named 1 fs) ≡ true → 8 ≤ length (first_named 1 fs))
      (am_fits : is_text (first_named 3 fs) ≡ true → length (text_of (first_named 3 fs)) ≤ 65536)
      (bm_fits : is_text (first_named 4 fs) ≡ true → length (text_of (first_named 4 fs)) ≤ 65536) where
    abbrev mm_fate : ℕ
    mm_fate = pair_fate g (first_named 0 fs) (first_named 1 fs)

    mm_ready : {k : ℕ} → FateIs possible edit mm_text ml_values n (first_named 0 fs) (first_named 1 fs) known k → (k ≡ 3 → mm_text ≡ text_of (first_named 0 fs))
        → (is_ready m k (first_named 0 fs) ≡ true) × (leb k 4 ≡ true)
    unfolding is_ready
    mm_ready (untouched t) same = (refl, refl)
    mm_ready (refused_it t d) same = (refl, refl)
    mm_ready (alone_it t e q d) same =
        (and_true (is_done (edit false (text_of (first_named 0 fs)) [])) _ (ap is_done (sym q) ∙ d) (le-leb (length (text_of (first_named 0 fs))) 65536 (mm_fits t)), refl)
    mm_ready (paired_it t e b q d) same =
        let long = mm_long t in
        let room : length mm_text + 4 ≤ length (first_named 0 fs) = omega (arith, long, ap length (same refl), length_text (first_named 0 fs) long) in
        (and_true (is_done (edit true mm_text ml_values)) _ (ap is_done (sym q) ∙ d) (le-leb (length mm_text + 4) (length (first_named 0 fs)) room), refl)

    ml_ready : {k : ℕ} → FateIs possible edit mm_text ml_values n (first_named 0 fs) (first_named 1 fs) known k → (k ≡ 3 → ml_values ≡ values_of (first_named 1 fs))
        → (is_ready m (array_fate k) (first_named 1 fs) ≡ true) × (leb (array_fate k) 4 ≡ true)
    unfolding is_ready
    ml_ready (untouched t) same = (refl, refl)
    ml_ready (refused_it t d) same = (refl, refl)
    ml_ready (alone_it t e q d) same = (refl, refl)
    ml_ready (paired_it t e b q d) same =
        let long = ml_long b in
        let room : length ml_values + 8 ≤ length (first_named 1 fs) = omega (arith, long, ap length (same refl), length-drop 8 (first_named 1 fs)) in
        (and_true (is_done (edit true mm_text ml_values)) _ (ap is_done (sym q) ∙ d) (le-leb (length ml_values + 8) (length (first_named 1 fs)) room), refl)

    alone_ready : (f : Field) → (is_text f ≡ true → length (text_of f) ≤ 65536) → (is_ready m (alone_fate g f) f ≡ true) × (leb (alone_fate g f) 4 ≡ true)
    unfolding is_ready
    alone_ready f fits =
        by-test (is_text f)
        (λ t. by-test (is_done (guarded possible edit false (text_of f) []))
        (λ d. rw (t, d) (
          and_true (is_done (edit false (text_of f) [])) _ (ap is_done (sym (guarded_done possible (edit false (text_of f) []) d)) ∙ d)
              (le-leb (length (text_of f)) 65536 (fits t)),
          refl,
        ))
        (λ d. rw (t, d) (refl, refl)))
        (λ t. rw t (refl, refl))

    mn_ready : (k : ℕ) (b : Bool) → is_ready m (length_fate k b) (first_named 2 fs) ≡ true
    unfolding is_ready
    mn_ready k true = by-test (eqb k 1) (λ e. rw e) (λ e. rw e)
    mn_ready k false = by-test (eqb k 1) (λ e. rw e) (λ e. rw e)

    past_ready : (k : ℕ) → 5 ≤ k → (is_ready m (get_or plan k 0) (first_named k fs) ≡ true) × (eqb k 2 || leb (get_or plan k 0) 4 ≡ true)
    unfolding is_ready
    past_ready k h =
        rw (past_plan mm_fate (array_fate mm_fate) (length_fate mm_fate set) (alone_fate g (first_named 3 fs)) (alone_fate g (first_named 4 fs)) k h, ne_eqb k 2 (λ e. omega (arith, e)))
        (refl, refl)

    pub plan_ready : Ready m plan fs
    plan_ready =
        by_name (λ (k : ℕ). (is_ready m (get_or plan k 0) (first_named k fs) ≡ true) × (eqb k 2 || leb (get_or plan k 0) 4 ≡ true))
        (mm_ready fate (λ e. (known e).0))
        (ml_ready fate (λ e. (known e).1))
        (mn_ready mm_fate set, refl)
        (alone_ready (first_named 3 fs) am_fits)
        (alone_ready (first_named 4 fs) bm_fits)
        past_ready

    -- ---- a field goes if MM, am or bm does

    mm_there : {k : ℕ} → FateIs possible edit mm_text ml_values n (first_named 0 fs) (first_named 1 fs) known k → k ≡ 1 → is_empty (first_named 0 fs) ≡ false
    mm_there (untouched t) e = absurd (omega (arith, e))
    mm_there (refused_it t d) e = text_there (first_named 0 fs) t
    mm_there (alone_it t x q d) e = absurd (omega (arith, e))
    mm_there (paired_it t x b q d) e = absurd (omega (arith, e))

    alone_there : (f : Field) → alone_fate g f ≡ 1 → is_empty f ≡ false
    alone_there f e = by-test (is_text f) (λ t. text_there f t) (λ t. none t)
      where
        none : is_text f ≡ false → is_empty f ≡ false
        none t =
            let z : ◌≡◌ {A = ℕ} (alone_fate g f) 0 = rw t in
            absurd (omega (arith, z, e))

    abbrev am_fate : ℕ
    am_fate = alone_fate g (first_named 3 fs)

    abbrev bm_fate : ℕ
    bm_fate = alone_fate g (first_named 4 fs)

    pub plan_went : ltb (length (changed (planned m plan) fs)) (length fs) ≡ (eqb mm_fate 1 || eqb am_fate 1 || eqb bm_fate 1)
    plan_went =
        by-test (eqb mm_fate 1)
        (λ e. fewer 0 (rw e) (mm_there fate (eqb-true mm_fate 1 e)) ∙ rw e)
        (λ e. by-test (eqb am_fate 1)
        (λ a. fewer 3 (rw a) (alone_there (first_named 3 fs) (eqb-true am_fate 1 a)) ∙ rw (e, a))
        (λ a. by-test (eqb bm_fate 1)
        (λ b. fewer 4 (rw b) (alone_there (first_named 4 fs) (eqb-true bm_fate 1 b)) ∙ rw (e, a, b))
        (λ b. all e a b ∙ rw (e, a, b))))
      where
        fewer : (k : ℕ) → lets_go (get_or plan k 0) ≡ true → is_empty (first_named k fs) ≡ false → ltb (length (changed (planned m plan) fs)) (length fs) ≡ true
        fewer k g there = lt-ltb (length (changed (planned m plan) fs)) (length fs) (some_go m plan fs refl plan_ready k g there)

        stays : eqb mm_fate 1 ≡ false → eqb am_fate 1 ≡ false → eqb bm_fate 1 ≡ false → (k : ℕ) → lets_go (get_or plan k 0) ≡ false
        stays e a b =
            by_name (λ (k : ℕ). lets_go (get_or plan k 0) ≡ false)
            (small_stays mm_fate (plan_ready 0).1 e)
            (array_stays mm_fate e)
            (length_stays mm_fate set e)
            (small_stays am_fate (plan_ready 3).1 a)
            (small_stays bm_fate (plan_ready 4).1 b)
            (λ k h. rw (past_plan mm_fate (array_fate mm_fate) (length_fate mm_fate set) am_fate bm_fate k h))

        all : eqb mm_fate 1 ≡ false → eqb am_fate 1 ≡ false → eqb bm_fate 1 ≡ false → ltb (length (changed (planned m plan) fs)) (length fs) ≡ false
        all e a b = le-ltb (length (changed (planned m plan) fs)) (length fs) (omega (arith, none_go m plan fs refl plan_ready (stays e a b)))
