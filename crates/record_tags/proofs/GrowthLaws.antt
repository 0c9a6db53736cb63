-- How much a record can grow: an edited tag is never longer than it was, and MN may take three bytes more.
-- Assumes nothing.
use Rattle.std.specs.Prelude.{Ok, Err}
use mathlib.Core.Path.{◌≡◌, refl, sym, ap, ◌∙◌, subst}
use Prim.Native.Nat.{ℕ, ◌+◌, ◌-◌, ◌≤◌, ◌<◌}
use native.Mathlib.Omega.{arith}
use mathlib.Core.Bool.{Bool, true, false, cond, ◌||◌}
use mathlib.Core.List.{List, [], ◌∷◌, ◌++◌}
use lib.Dec.{leb, eqb}
use mathlib.Core.List.{append_assoc}
use lib.ListN.{length, length-append, length-set, get_or, set, take, drop, length-drop, length-take}
use lib.Seq.{get_or-set_other, get_or-set_same, length-take-le}
use borrow.Author.Tests.{eqb-false, eqb-true, leb-true, lt-leb, ne_eqb}
use Rattle.lent.proofs.Tests.{and_true_l, and_true_r, by-test}
use Rattle.lent.specs.Answers.{is_done}
use Rattle.lent.specs.Lists.{every}
use Rattle.lent.specs.Outcome.{Outcome}
use Rattle.record_fields.specs.Bam.{word_bytes}
use Rattle.record_fields.specs.Fields.{Field, joined, name_of}
use Rattle.record_tags.proofs.PlanLaws.{planned_next, ready_here, ready_next}
use Rattle.record_tags.specs.Changes.{Changes, TagEdit, after, applied, changed, length_set, or_goes}
use Rattle.record_tags.specs.Plans.{Means, Ready, growth, is_ready, next_of, planned, queue_by}
use Rattle.record_tags.specs.Values.{text_of, with_integer, with_text, with_values, is_integer}
use Rattle.samtags.specs.Writing.{Tag}

pub done_inv : {A : Type 0} (o : Outcome A) → is_done o ≡ true → (a : A) × (o ≡ Ok a)
done_inv (Err r) h = let z : ◌≡◌ {A = ℕ} 0 1 = cc in absurd (omega arith)
done_inv (Ok a) h = (a, refl)

-- an edit whose tags are never longer than they were
abbrev pub Shrinks : TagEdit → Type 0
Shrinks edit = (ml? : Bool) (text ml : List ℕ) (t : Tag) → edit ml? text ml ≡ Ok t → (length t.text ≤ length text) × (length t.ml ≤ length (cond ml? ml []))

length_one : (f : Field) → length (joined (f ∷ [])) ≡ length f
length_one f = omega (arith, length-append f [])

pub length_text : (f : Field) → 4 ≤ length f → length (text_of f) ≡ length f - 4
length_text f h = length-take-le (length f - 4) (drop 3 f) (omega (arith, length-drop 3 f))

pub length_with_text : (text : List ℕ) (f : Field) → 4 ≤ length f → length (with_text text f) ≡ length text + 4
length_with_text text f h =
    let name : length (take 3 f) ≡ 3 = length-take-le 3 f (omega arith) in
    let end : length (text ++ 0 ∷ []) ≡ length text + 1 = length-append text (0 ∷ []) in
    let whole : length (with_text text f) ≡ length (take 3 f) + length (text ++ 0 ∷ []) = length-append (take 3 f) (text ++ 0 ∷ []) in
    omega (arith, name, end, whole)

pub length_with_values : (vs : List ℕ) (f : Field) → 4 ≤ length f → length (with_values vs f) ≡ length vs + 8
length_with_values vs f h =
    let name : length (take 4 f) ≡ 4 = length-take-le 4 f h in
    let whole : length (with_values vs f) ≡ length (take 4 f) + length (word_bytes (length vs) ++ vs) = length-append (take 4 f) (word_bytes (length vs) ++ vs) in
    omega (arith, name, whole)

pub length_with_integer : (n : ℕ) (f : Field) → 4 ≤ length f → length (with_integer n f) ≡ 7
length_with_integer n f h =
    let name : length (take 2 f) ≡ 2 = length-take-le 2 f (omega arith) in
    let whole : length (with_integer n f) ≡ length (take 2 f) + 5 = length-append (take 2 f) (105 ∷ word_bytes n) in
    omega (arith, name, whole)

-- what becomes of a field is at most three bytes longer, and only if MN is set
pub name_small : (f : Field) → name_of f < 6
unfolding name_of
name_small f = go (eqb (get_or f 0 0) 77) (eqb (get_or f 1 0) 77) (eqb (get_or f 1 0) 76) (eqb (get_or f 1 0) 78) (eqb (get_or f 1 0) 109) (eqb (get_or f 0 0) 97) (eqb (get_or f 0 0) 98)
  where
    go : (a b c d e g h : Bool) → cond a (cond b 0 (cond c 1 (cond d 2 5))) (cond e (cond g 3 (cond h 4 5)) 5) < 6
    go true true c d e g h = omega arith
    go true false true d e g h = omega arith
    go true false false true e g h = omega arith
    go true false false false e g h = omega arith
    go false b c d true true h = omega arith
    go false b c d true false true = omega arith
    go false b c d true false false = omega arith
    go false b c d false g h = omega arith

module _ (m : Means) (f : Field) (s : Shrinks m.edit) (h : 4 ≤ length f) where
  alone : (o : Outcome Tag) → o ≡ m.edit false (text_of f) [] → length (joined (or_goes (λ (t : Tag). with_text t.text f) o)) ≤ length f
  alone (Err r) e = omega arith
  alone (Ok t) e =
      let less = (s false (text_of f) [] t (sym e)).0 in
      let old : length (text_of f) ≤ length f - 4 = omega (arith, length-take (length f - 4) (drop 3 f)) in
      omega (arith, less, old, length_one (with_text t.text f), length_with_text t.text f h)

  paired : (o : Outcome Tag) → o ≡ m.edit true m.mm m.ml → length m.mm + 4 ≤ length f
      → length (joined (or_goes (λ (t : Tag). with_text t.text f) o)) ≤ length f
  paired (Err r) e l = omega arith
  paired (Ok t) e l =
      let less = (s true m.mm m.ml t (sym e)).0 in
      omega (arith, less, length_one (with_text t.text f), length_with_text t.text f h)

  values : (o : Outcome Tag) → o ≡ m.edit true m.mm m.ml → length m.ml + 8 ≤ length f
      → length (joined (or_goes (λ (t : Tag). with_values t.ml f) o)) ≤ length f
  values (Err r) e l = omega arith
  values (Ok t) e l =
      let less : length t.ml ≤ length m.ml = (s true m.mm m.ml t (sym e)).1 in
      omega (arith, less, length_one (with_values t.ml f), length_with_values t.ml f h)

  lengthened : length (joined (length_set m.bases f)) ≤ length f + 3
  lengthened =
      by-test (is_integer f)
      (λ e. rw e (omega (arith, length_one (with_integer m.bases f), length_with_integer m.bases f h)))
      (λ e. rw e (omega (arith, length_one f)))

  pub piece_fits : (a : ℕ) → is_ready m a f ≡ true → length (joined (applied (queue_by m a) f)) + cond (leb 5 (next_of a)) 3 0 ≤ length f + cond (leb 5 a) 3 0
  unfolding queue_by is_ready
  piece_fits a r =
      by-test (eqb a 1)
      (λ e. rw (eqb-true a 1 e) (omega arith))
      (λ e1. by-test (eqb a 2)
      (λ e. rw (eqb-true a 2 e) (omega (arith, alone (m.edit false (text_of f) []) refl)))
      (λ e2. by-test (eqb a 3)
      (λ e. third (eqb-true a 3 e))
      (λ e3. by-test (eqb a 4)
      (λ e. fourth (eqb-true a 4 e))
      (λ e4. by-test (eqb a 5)
      (λ e. rw (eqb-true a 5 e) (omega (arith, lengthened)))
      (λ e5. by-test (eqb a 6)
      (λ e. rw (eqb-true a 6 e) (omega arith))
      (λ e6. rw (e1, e2, e3, e4, e5, e6) (omega (arith, length_one f))))))))
    where
      done? : Bool
      done? = is_done (m.edit true m.mm m.ml)

      third : a ≡ 3 → length (joined (applied (queue_by m a) f)) + cond (leb 5 (next_of a)) 3 0 ≤ length f + cond (leb 5 a) 3 0
      third e =
          let ready : is_ready m 3 f ≡ true = subst (λ (n : ℕ). is_ready m n f ≡ true) e r in
          let room = leb-true (length m.mm + 4) (length f) (and_true_r done? (leb (length m.mm + 4) (length f)) ready) in
          rw e (omega (arith, paired (m.edit true m.mm m.ml) refl room))

      fourth : a ≡ 4 → length (joined (applied (queue_by m a) f)) + cond (leb 5 (next_of a)) 3 0 ≤ length f + cond (leb 5 a) 3 0
      fourth e =
          let ready : is_ready m 4 f ≡ true = subst (λ (n : ℕ). is_ready m n f ≡ true) e r in
          let room = leb-true (length m.ml + 8) (length f) (and_true_r done? (leb (length m.ml + 8) (length f)) ready) in
          rw e (omega (arith, values (m.edit true m.mm m.ml) refl room))

-- ---- a whole record

growth_next : (plan : List ℕ) (k v : ℕ) → k < length plan → (k ≡ 2 → ⊥) → growth (set plan k v) ≡ growth plan
unfolding growth
growth_next plan k v h e = rw (get_or-set_other plan k 2 v 0 (λ q. e (sym q)))

growth_here : (plan : List ℕ) (v : ℕ) → 2 < length plan → growth (set plan 2 v) ≡ cond (leb 5 v) 3 0
unfolding growth
growth_here plan v h = rw (get_or-set_same plan 2 v 0 h)

small : (k a : ℕ) → (k ≡ 2 → ⊥) → eqb k 2 || leb a 4 ≡ true → a ≤ 4
small k a e h = leb-true a 4 (subst (λ (b : Bool). b || leb a 4 ≡ true) (ne_eqb k 2 e) h)

pub joined_append : (xs ys : List Field) → joined (xs ++ ys) ≡ joined xs ++ joined ys
joined_append [] ys = refl
joined_append (x ∷ xs) ys = ap (λ (l : List ℕ). x ++ l) (joined_append xs ys) ∙ sym (append_assoc x (joined xs) (joined ys))

module _ (m : Means) (s : Shrinks m.edit) where
  -- one field, and the growth that is left for the fields after it
  step : (plan : List ℕ) (f : Field) (fs : List Field) → 6 ≡ length plan → 4 ≤ length f → Ready m plan (f ∷ fs)
      → length (joined (applied (planned m plan (name_of f)) f)) + growth (set plan (name_of f) (next_of (get_or plan (name_of f) 0))) ≤ length f + growth plan
  unfolding planned growth
  step plan f fs l h r =
      by-test (eqb (name_of f) 2)
      (λ e. here (eqb-true (name_of f) 2 e))
      (λ e. other (eqb-false (name_of f) 2 e))
    where
      a : ℕ
      a = get_or plan (name_of f) 0

      piece : length (joined (applied (queue_by m a) f)) + cond (leb 5 (next_of a)) 3 0 ≤ length f + cond (leb 5 a) 3 0
      piece = piece_fits m f s h a (ready_here m plan f fs r)

      here : name_of f ≡ 2 → length (joined (applied (queue_by m a) f)) + growth (set plan (name_of f) (next_of a)) ≤ length f + growth plan
      here e =
          let new : growth (set plan (name_of f) (next_of a)) ≡ cond (leb 5 (next_of a)) 3 0 =
          ap (λ (k : ℕ). growth (set plan k (next_of a))) e ∙ growth_here plan (next_of a) (omega arith) in
          let old : growth plan ≡ cond (leb 5 a) 3 0 = ap (λ (k : ℕ). cond (leb 5 (get_or plan k 0)) 3 0) (sym e) in
          omega (arith, piece, new, old)

      other : (name_of f ≡ 2 → ⊥) → length (joined (applied (queue_by m a) f)) + growth (set plan (name_of f) (next_of a)) ≤ length f + growth plan
      other e =
          let few = small (name_of f) a e (r (name_of f)).1 in
          let same = growth_next plan (name_of f) (next_of a) (omega (arith, name_small f)) e in
          let none : ◌≡◌ {A = ℕ} (cond (leb 5 a) 3 0) 0 = rw (lt-leb 5 a (omega arith)) in
          omega (arith, piece, same, none)

  -- the fields become at most three bytes longer, and only if MN is set
  pub changed_fits : (plan : List ℕ) (fs : List Field) → 6 ≡ length plan → every (λ (f : Field). leb 4 (length f)) fs ≡ true → Ready m plan fs
      → length (joined (changed (planned m plan) fs)) ≤ length (joined fs) + growth plan
  unfolding changed
  changed_fits plan [] l long r = omega arith
  changed_fits plan (f ∷ fs) l long r =
      let next = set plan (name_of f) (next_of (get_or plan (name_of f) 0)) in
      let room : name_of f < length plan = omega (arith, name_small f) in
      let h = leb-true 4 (length f) (and_true_l (leb 4 (length f)) (every (λ (g : Field). leb 4 (length g)) fs) long) in
      let rest = changed_fits next fs (l ∙ sym (length-set plan (name_of f) (next_of (get_or plan (name_of f) 0))))
      (and_true_r (leb 4 (length f)) (every (λ (g : Field). leb 4 (length g)) fs) long) (ready_next m plan f fs room r) in
      let same : changed (planned m next) fs ≡ changed (after (name_of f) (planned m plan)) fs = ap (λ (c : Changes). changed c fs) (planned_next m plan (name_of f) room) in
      let both : length (joined (applied (planned m plan (name_of f)) f ++ changed (after (name_of f) (planned m plan)) fs))
      ≡ length (joined (applied (planned m plan (name_of f)) f)) + length (joined (changed (planned m next) fs)) =
      ap length (joined_append (applied (planned m plan (name_of f)) f) (changed (after (name_of f) (planned m plan)) fs))
      ∙ length-append (joined (applied (planned m plan (name_of f)) f)) (joined (changed (after (name_of f) (planned m plan)) fs))
      ∙ ap (λ (l : List Field). length (joined (applied (planned m plan (name_of f)) f)) + length (joined l)) (sym same) in
      omega (arith, both, rest, step plan f fs l h r, length-append f (joined fs))
