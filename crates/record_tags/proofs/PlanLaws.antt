-- A plan carried out field by field.
-- Assumes nothing.
use mathlib.Core.Path.{◌≡◌, refl, sym, ap, ◌∙◌, subst}
use Prim.Native.Nat.{ℕ, ◌<◌}
use native.Mathlib.Omega.{arith}
use mathlib.Core.Bool.{Bool, true, false, ◌||◌}
use mathlib.Core.List.{List, [], ◌∷◌, ◌++◌}
use lib.Dec.{leb, eqb}
use lib.ListN.{length, get_or, set}
use lib.Seq.{get_or-set_other, get_or-set_same}
use borrow.Author.Tests.{eqb-false, eqb-true, eq-eqb, leb-true, ne_eqb}
use Rattle.lent.proofs.Tests.{and_true_l, and_true_r, by-test}
use Rattle.lent.specs.Lists.{every, is_empty}
use Rattle.record_fields.specs.Fields.{Field, first_named, name_of}
use Rattle.record_tags.specs.Changes.{Change, Changes, after, applied, changed, rest}
use Rattle.record_tags.specs.Plans.{Means, Ready, is_ready, next_of, planned, queue_by}

-- ---- the changes after a field

queue_next : (m : Means) (a : ℕ) → queue_by m (next_of a) ≡ rest (queue_by m a)
unfolding queue_by
queue_next m a =
    by-test (eqb a 1)
    (λ e. rw (eqb-true a 1 e))
    (λ e1. by-test (eqb a 2)
    (λ e. rw (eqb-true a 2 e))
    (λ e2. by-test (eqb a 3)
    (λ e. rw (eqb-true a 3 e))
    (λ e3. by-test (eqb a 4)
    (λ e. rw (eqb-true a 4 e))
    (λ e4. by-test (eqb a 5)
    (λ e. rw (eqb-true a 5 e))
    (λ e5. by-test (eqb a 6)
    (λ e. rw (eqb-true a 6 e))
    (λ e6. rw (e1, e2, e3, e4, e5, e6)))))))

pub planned_next : (m : Means) (plan : List ℕ) (k : ℕ) → k < length plan
    → planned m (set plan k (next_of (get_or plan k 0))) ≡ after k (planned m plan)
unfolding planned
planned_next m plan k h = λ j n. at n j
  where
    here : (n : ℕ) → n ≡ k → queue_by m (get_or (set plan k (next_of (get_or plan k 0))) n 0) ≡ rest (queue_by m (get_or plan n 0))
    here n e = rw e (ap (queue_by m) (get_or-set_same plan k (next_of (get_or plan k 0)) 0 h) ∙ queue_next m (get_or plan k 0))

    at : (n : ℕ) → queue_by m (get_or (set plan k (next_of (get_or plan k 0))) n 0) ≡ after k (planned m plan) n
    at n =
        by-test (eqb n k)
        (λ e. rw e (here n (eqb-true n k e)))
        (λ e. rw e (ap (queue_by m) (get_or-set_other plan k n (next_of (get_or plan k 0)) 0 (eqb-false n k e))))

-- ---- which field is the first of a name

pub first_here : (k : ℕ) (f : Field) (fs : List Field) → name_of f ≡ k → first_named k (f ∷ fs) ≡ f
unfolding first_named
first_here k f fs h = rw (eq-eqb (name_of f) k h)

pub first_later : (k : ℕ) (f : Field) (fs : List Field) → (name_of f ≡ k → ⊥) → first_named k (f ∷ fs) ≡ first_named k fs
unfolding first_named
first_later k f fs h = rw (ne_eqb (name_of f) k h)

-- ---- the number that a field meets can be carried out, and so can those of the fields after it

ready_idle : (m : Means) (f : Field) (a : ℕ) → is_ready m (next_of a) f ≡ true
unfolding is_ready
ready_idle m f a = by-test (eqb a 6) (λ e. rw e) (λ e. rw e)

pub ready_here : (m : Means) (plan : List ℕ) (f : Field) (fs : List Field) → Ready m plan (f ∷ fs) → is_ready m (get_or plan (name_of f) 0) f ≡ true
ready_here m plan f fs r = subst (λ (g : Field). is_ready m (get_or plan (name_of f) 0) g ≡ true) (first_here (name_of f) f fs refl) (r (name_of f)).0

small_next : (b : Bool) (a : ℕ) → b || leb a 4 ≡ true → b || leb (next_of a) 4 ≡ true
small_next true a h = refl
small_next false a h =
    by-test (eqb a 6)
    (λ e. let small = leb-true a 4 h in absurd (omega (arith, small, eqb-true a 6 e)))
    (λ e. rw e)

pub ready_next : (m : Means) (plan : List ℕ) (f : Field) (fs : List Field) → name_of f < length plan → Ready m plan (f ∷ fs)
    → Ready m (set plan (name_of f) (next_of (get_or plan (name_of f) 0))) fs
ready_next m plan f fs h r k =
    by-test (eqb k (name_of f))
    (λ e. here k (eqb-true k (name_of f) e))
    (λ e. other k (eqb-false k (name_of f) e))
  where
    next : List ℕ
    next = set plan (name_of f) (next_of (get_or plan (name_of f) 0))

    here : (k : ℕ) → k ≡ name_of f → (is_ready m (get_or next k 0) (first_named k fs) ≡ true) × (eqb k 2 || leb (get_or next k 0) 4 ≡ true)
    here k e =
        let met : get_or next k 0 ≡ next_of (get_or plan k 0) = rw e (get_or-set_same plan (name_of f) (next_of (get_or plan (name_of f) 0)) 0 h) in
        rw met (ready_idle m (first_named k fs) (get_or plan k 0), small_next (eqb k 2) (get_or plan k 0) (r k).1)

    other : (k : ℕ) → (k ≡ name_of f → ⊥) → (is_ready m (get_or next k 0) (first_named k fs) ≡ true) × (eqb k 2 || leb (get_or next k 0) 4 ≡ true)
    other k e =
        let met : get_or next k 0 ≡ get_or plan k 0 = get_or-set_other plan (name_of f) k (next_of (get_or plan (name_of f) 0)) 0 e in
        rw (met, ← first_later k f fs (λ q. e (sym q))) (r k)

-- ---- two lists of changes that agree on the first field of each name, if there is one, and are the same after it

pub record Agree (c d : Changes) (fs : List Field) : Type 0 where
  pub first : (k : ℕ) → is_empty (first_named k fs) ≡ false → applied (c k) (first_named k fs) ≡ applied (d k) (first_named k fs)
  pub later : (k : ℕ) → rest (c k) ≡ rest (d k)

agree_next : (c d : Changes) (f : Field) (fs : List Field) → Agree c d (f ∷ fs) → Agree (after (name_of f) c) (after (name_of f) d) fs
agree_next c d f fs a = record { first = first; later = later }
  where
    other : (k : ℕ) → (k ≡ name_of f → ⊥) → is_empty (first_named k fs) ≡ false → applied (c k) (first_named k fs) ≡ applied (d k) (first_named k fs)
    other k e =
        subst (λ (g : Field). is_empty g ≡ false → applied (c k) g ≡ applied (d k) g) (first_later k f fs (λ q. e (sym q))) (a.first k)

    first : (k : ℕ) → is_empty (first_named k fs) ≡ false → applied (after (name_of f) c k) (first_named k fs) ≡ applied (after (name_of f) d k) (first_named k fs)
    first k there =
        by-test (eqb k (name_of f))
        (λ e. rw e (ap (λ (q : List Change). applied q (first_named k fs)) (a.later k)))
        (λ e. rw e (other k (eqb-false k (name_of f) e) there))

    later : (k : ℕ) → rest (after (name_of f) c k) ≡ rest (after (name_of f) d k)
    later k = by-test (eqb k (name_of f)) (λ e. rw e (ap rest (a.later k))) (λ e. rw e (a.later k))

pub there : (f : Field) → leb 4 (length f) ≡ true → is_empty f ≡ false
there [] h = absurd (omega (arith, leb-true 4 0 h))
there (x ∷ xs) h = refl

pub same_changed : (c d : Changes) (fs : List Field) → every (λ (f : Field). leb 4 (length f)) fs ≡ true → Agree c d fs → changed c fs ≡ changed d fs
unfolding changed
same_changed c d [] long a = refl
same_changed c d (f ∷ fs) long a =
    let some = there f (and_true_l (leb 4 (length f)) (every (λ (g : Field). leb 4 (length g)) fs) long) in
    let here : applied (c (name_of f)) f ≡ applied (d (name_of f)) f =
    subst (λ (g : Field). is_empty g ≡ false → applied (c (name_of f)) g ≡ applied (d (name_of f)) g) (first_here (name_of f) f fs refl) (a.first (name_of f)) some in
    let later = same_changed (after (name_of f) c) (after (name_of f) d) fs (and_true_r (leb 4 (length f)) (every (λ (g : Field). leb 4 (length g)) fs) long)
    (agree_next c d f fs a) in
    λ j. here j ++ later j
