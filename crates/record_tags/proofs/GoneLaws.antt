-- Whether a field goes: there are fewer fields exactly if the plan lets a field go that is there.
-- Assumes nothing.
use Rattle.std.specs.Prelude.{Ok, Err}
use mathlib.Core.Path.{◌≡◌, refl, sym, ap, ◌∙◌, subst}
use Prim.Native.Nat.{ℕ, suc, ◌+◌, ◌≤◌, ◌<◌}
use native.Mathlib.Omega.{arith}
use mathlib.Core.Bool.{Bool, true, false, cond, ◌&&◌, ◌||◌}
use mathlib.Core.List.{List, [], ◌∷◌}
use lib.Dec.{leb, eqb}
use lib.ListN.{length, length-append, length-set, get_or, set}
use lib.Seq.{get_or-set_other, get_or-set_same}
use borrow.Author.Tests.{eqb-false, eqb-true}
use Rattle.lent.proofs.Tests.{and_true_l, by-test}
use Rattle.lent.specs.Answers.{is_done}
use Rattle.lent.specs.Lists.{is_empty}
use Rattle.lent.specs.Outcome.{Outcome}
use Rattle.record_fields.specs.Fields.{Field, first_named, name_of}
use Rattle.record_tags.proofs.GrowthLaws.{name_small}
use Rattle.record_tags.proofs.PlanLaws.{first_later, planned_next, ready_here, ready_next}
use Rattle.record_tags.specs.Changes.{Changes, after, applied, changed, length_set, or_goes}
use Rattle.record_tags.specs.Plans.{Means, Ready, is_ready, next_of, planned, queue_by}
use Rattle.record_tags.specs.Values.{is_integer, text_of, with_text, with_values}
use Rattle.samtags.specs.Writing.{Tag}

abbrev pub lets_go : ℕ → Bool
lets_go a = eqb a 1 || eqb a 6

one : (g : Tag → Field) (o : Outcome Tag) → is_done o ≡ true → length (or_goes g o) ≡ 1
one g (Err r) h = let z : ◌≡◌ {A = ℕ} 0 1 = cc in absurd (omega arith)
one g (Ok t) h = refl

set_one : (n : ℕ) (f : Field) → length (length_set n f) ≡ 1
set_one n f = by-test (is_integer f) (λ e. rw e) (λ e. rw e)

-- a field goes, or becomes one field
pub piece_count : (m : Means) (a : ℕ) (f : Field) → is_ready m a f ≡ true → length (applied (queue_by m a) f) ≡ cond (lets_go a) 0 1
unfolding queue_by is_ready
piece_count m a f r =
    by-test (eqb a 1)
    (λ e. rw (eqb-true a 1 e))
    (λ e1. by-test (eqb a 2)
    (λ e. second (eqb-true a 2 e))
    (λ e2. by-test (eqb a 3)
    (λ e. third (eqb-true a 3 e))
    (λ e3. by-test (eqb a 4)
    (λ e. fourth (eqb-true a 4 e))
    (λ e4. by-test (eqb a 5)
    (λ e. rw (eqb-true a 5 e) (set_one m.bases f))
    (λ e5. by-test (eqb a 6)
    (λ e. rw (eqb-true a 6 e))
    (λ e6. rw (e1, e2, e3, e4, e5, e6)))))))
  where
    ready : (k : ℕ) → a ≡ k → is_ready m k f ≡ true
    ready k e = subst (λ (n : ℕ). is_ready m n f ≡ true) e r

    second : a ≡ 2 → length (applied (queue_by m a) f) ≡ cond (lets_go a) 0 1
    second e =
        let d : is_done (m.edit false (text_of f) []) && leb (length (text_of f)) 65536 ≡ true = ready 2 e in
        rw e (one (λ (t : Tag). with_text t.text f) (m.edit false (text_of f) []) (and_true_l (is_done (m.edit false (text_of f) [])) (leb (length (text_of f)) 65536) d))

    third : a ≡ 3 → length (applied (queue_by m a) f) ≡ cond (lets_go a) 0 1
    third e =
        let d : is_done (m.edit true m.mm m.ml) && leb (length m.mm + 4) (length f) ≡ true = ready 3 e in
        rw e (one (λ (t : Tag). with_text t.text f) (m.edit true m.mm m.ml) (and_true_l (is_done (m.edit true m.mm m.ml)) (leb (length m.mm + 4) (length f)) d))

    fourth : a ≡ 4 → length (applied (queue_by m a) f) ≡ cond (lets_go a) 0 1
    fourth e =
        let d : is_done (m.edit true m.mm m.ml) && leb (length m.ml + 8) (length f) ≡ true = ready 4 e in
        rw e (one (λ (t : Tag). with_values t.ml f) (m.edit true m.mm m.ml) (and_true_l (is_done (m.edit true m.mm m.ml)) (leb (length m.ml + 8) (length f)) d))

idle : (a : ℕ) → lets_go (next_of a) ≡ false
idle a = by-test (eqb a 6) (λ e. rw e) (λ e. rw e)

module _ (m : Means) where
  -- the fields after one more
  count : (plan : List ℕ) (f : Field) (fs : List Field) → 6 ≡ length plan → Ready m plan (f ∷ fs)
      → length (changed (planned m plan) (f ∷ fs))
      ≡ cond (lets_go (get_or plan (name_of f) 0)) 0 1 + length (changed (planned m (set plan (name_of f) (next_of (get_or plan (name_of f) 0)))) fs)
  unfolding changed planned
  count plan f fs l r =
      let next = set plan (name_of f) (next_of (get_or plan (name_of f) 0)) in
      let same : changed (planned m next) fs ≡ changed (after (name_of f) (planned m plan)) fs =
      ap (λ (c : Changes). changed c fs) (planned_next m plan (name_of f) (omega (arith, name_small f))) in
      let piece : length (applied (queue_by m (get_or plan (name_of f) 0)) f) ≡ cond (lets_go (get_or plan (name_of f) 0)) 0 1 =
      piece_count m (get_or plan (name_of f) 0) f (ready_here m plan f fs r) in
      length-append (applied (queue_by m (get_or plan (name_of f) 0)) f) (changed (after (name_of f) (planned m plan)) fs)
      ∙ (λ j. piece j + length (sym same j))

  next_length : (plan : List ℕ) (k v : ℕ) → 6 ≡ length plan → 6 ≡ length (set plan k v)
  next_length plan k v l = l ∙ sym (length-set plan k v)

  at_most_one : (b : Bool) → cond b 0 1 ≤ 1
  at_most_one true = omega arith
  at_most_one false = omega arith

  never_more : (plan : List ℕ) (fs : List Field) → 6 ≡ length plan → Ready m plan fs → length (changed (planned m plan) fs) ≤ length fs
  unfolding changed
  never_more plan [] l r = omega arith
  never_more plan (f ∷ fs) l r =
      let next = set plan (name_of f) (next_of (get_or plan (name_of f) 0)) in
      let rest = never_more next fs (next_length plan (name_of f) (next_of (get_or plan (name_of f) 0)) l) (ready_next m plan f fs (omega (arith, name_small f)) r) in
      omega (arith, rest, count plan f fs l r, at_most_one (lets_go (get_or plan (name_of f) 0)))

  -- a field that is there is let go
  pub some_go : (plan : List ℕ) (fs : List Field) → 6 ≡ length plan → Ready m plan fs → (k : ℕ) → lets_go (get_or plan k 0) ≡ true → is_empty (first_named k fs) ≡ false
      → length (changed (planned m plan) fs) < length fs
  unfolding first_named
  some_go plan [] l r k g e = let z : ◌≡◌ {A = ℕ} 0 1 = cc in absurd (omega arith)
  some_go plan (f ∷ fs) l r k g e =
      by-test (eqb (name_of f) k)
      (λ q. here (eqb-true (name_of f) k q))
      (λ q. other (eqb-false (name_of f) k q) (some_go (set plan (name_of f) (next_of (get_or plan (name_of f) 0))) fs
      (next_length plan (name_of f) (next_of (get_or plan (name_of f) 0)) l) (ready_next m plan f fs (omega (arith, name_small f)) r) k))
    where
      next : List ℕ
      next = set plan (name_of f) (next_of (get_or plan (name_of f) 0))

      six : 6 ≡ length next
      six = next_length plan (name_of f) (next_of (get_or plan (name_of f) 0)) l

      ready : Ready m next fs
      ready = ready_next m plan f fs (omega (arith, name_small f)) r

      here : name_of f ≡ k → length (changed (planned m plan) (f ∷ fs)) < suc (length fs)
      here q =
          let none : ◌≡◌ {A = ℕ} (cond (lets_go (get_or plan (name_of f) 0)) 0 1) 0 = rw (q, g) in
          omega (arith, count plan f fs l r, never_more next fs six ready, none)

      other : (name_of f ≡ k → ⊥) → (lets_go (get_or next k 0) ≡ true → is_empty (first_named k fs) ≡ false → length (changed (planned m next) fs) < length fs)
          → length (changed (planned m plan) (f ∷ fs)) < suc (length fs)
      other q fewer =
          let still : lets_go (get_or next k 0) ≡ true = rw (get_or-set_other plan (name_of f) k (next_of (get_or plan (name_of f) 0)) 0 (λ p. q (sym p))) g in
          let later : is_empty (first_named k fs) ≡ false = ap is_empty (sym (first_later k f fs q)) ∙ e in
          omega (arith, count plan f fs l r, fewer still later, at_most_one (lets_go (get_or plan (name_of f) 0)))

  -- no field is let go
  pub none_go : (plan : List ℕ) (fs : List Field) → 6 ≡ length plan → Ready m plan fs → ((k : ℕ) → lets_go (get_or plan k 0) ≡ false)
      → length (changed (planned m plan) fs) ≡ length fs
  unfolding changed
  none_go plan [] l r g = refl
  none_go plan (f ∷ fs) l r g =
      let next = set plan (name_of f) (next_of (get_or plan (name_of f) 0)) in
      let one : ◌≡◌ {A = ℕ} (cond (lets_go (get_or plan (name_of f) 0)) 0 1) 1 = rw (g (name_of f)) in
      let rest = none_go next fs (next_length plan (name_of f) (next_of (get_or plan (name_of f) 0)) l) (ready_next m plan f fs (omega (arith, name_small f)) r) still in
      let all = count plan f fs l r in
      omega (arith, all, rest, one)
    where
      still : (k : ℕ) → lets_go (get_or (set plan (name_of f) (next_of (get_or plan (name_of f) 0))) k 0) ≡ false
      still k =
          by-test (eqb k (name_of f))
          (λ q. rw (eqb-true k (name_of f) q, get_or-set_same plan (name_of f) (next_of (get_or plan (name_of f) 0)) 0 (omega (arith, name_small f))) (idle (get_or plan (name_of f) 0)))
          (λ q. rw (get_or-set_other plan (name_of f) k (next_of (get_or plan (name_of f) 0)) 0 (eqb-false k (name_of f) q)) (g k))
