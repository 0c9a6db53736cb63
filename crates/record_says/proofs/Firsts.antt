-- The first field of a name after changes: the change of the first field before them, or one field fewer of that name. Support for the theorems of this
-- crate.
-- Assumes nothing.
use mathlib.Core.Path.{◌≡◌, refl, sym, ap, ◌∙◌, subst}
use Prim.Native.Nat.{ℕ, suc, ◌<◌}
use native.Mathlib.Omega.{arith}
use mathlib.Core.Bool.{Bool, true, false}
use mathlib.Core.List.{List, [], ◌∷◌, ◌++◌}
use lib.Dec.{eqb}
use lib.ListN.{length}
use borrow.Author.Tests.{eq-eqb, eqb-false, eqb-true, le-leb, ne_eqb}
use Rattle.lent.proofs.Tests.{and_true_l, and_true_r, by-test}
use Rattle.lent.specs.Lists.{every, is_empty}
use Rattle.record_fields.proofs.Kept.{name_kept}
use Rattle.record_fields.specs.Bam.{word_bytes}
use Rattle.record_fields.specs.Fields.{Field, MN, first_named, is_field, name_of}
use Rattle.record_says.proofs.Pieces.{Lengths, Piece, Sound, becomes, each_changed, each_fewer, field_long, goes, gone, gone_sets, idle, sets, sound_next, stays}
use Rattle.record_says.specs.Says.{times}
use Rattle.record_tags.proofs.PlanLaws.{first_here, first_later, there}
use Rattle.record_tags.specs.Changes.{Change, Changes, after, applied, changed, rest}
use Rattle.record_tags.specs.Values.{is_integer}

abbrev is_named : ℕ → Field → Bool
is_named k f = eqb (name_of f) k

-- ---- fields of another name

first_past : (k m : ℕ) (p fs : List Field) → every (is_named m) p ≡ true → (m ≡ k → ⊥) → first_named k (p ++ fs) ≡ first_named k fs
unfolding first_named
first_past k m [] fs h e = refl
first_past k m (f ∷ p) fs h e =
    let is : name_of f ≡ m = eqb-true (name_of f) m (and_true_l (is_named m f) (every (is_named m) p) h) in
    rw (ne_eqb (name_of f) k (λ q. e (sym is ∙ q))) (first_past k m p fs (and_true_r (is_named m f) (every (is_named m) p) h) e)

times_past : (k m : ℕ) (p fs : List Field) → every (is_named m) p ≡ true → (m ≡ k → ⊥) → times k (p ++ fs) ≡ times k fs
times_past k m [] fs h e = refl
times_past k m (f ∷ p) fs h e =
    let is : name_of f ≡ m = eqb-true (name_of f) m (and_true_l (is_named m f) (every (is_named m) p) h) in
    rw (ne_eqb (name_of f) k (λ q. e (sym is ∙ q))) (times_past k m p fs (and_true_r (is_named m f) (every (is_named m) p) h) e)

-- ---- what becomes of a field has its name

own_name : (f : Field) → every (is_named (name_of f)) (f ∷ []) ≡ true
own_name f = rw (eq-eqb (name_of f) (name_of f) refl)

piece_names : {f : Field} {p : List Field} → Piece f p → every (is_named (name_of f)) p ≡ true
piece_names {f} stays = own_name f
piece_names (goes l) = refl
piece_names {f} (becomes {g} l k i h) = rw (eq-eqb (name_of g) (name_of f) k)

length_names : {n : ℕ} {q : List Change} → Lengths n q → (f : Field) → is_field f ≡ true → every (is_named (name_of f)) (applied q f) ≡ true
length_names idle f i = own_name f
length_names gone f i = refl
length_names (sets b) f i =
    by-test (is_integer f)
    (λ e. rw (e, name_kept f (105 ∷ word_bytes b) 2 (omega arith) (omega (arith, field_long f i))) (own_name f))
    (λ e. rw e (own_name f))
length_names (gone_sets b) f i = refl

lengths_next : {n : ℕ} {q : List Change} → Lengths n q → (m : ℕ) × Lengths m (rest q)
lengths_next {n} idle = (n, idle)
lengths_next {n} gone = (n, idle)
lengths_next {n} (sets b) = (n, idle)
lengths_next (gone_sets b) = (3, sets b)

module _ {n : ℕ} (c : Changes) (f : Field) (fs : List Field) (s : Sound n c (f ∷ fs)) (i : is_field f ≡ true) where
  names : every (is_named (name_of f)) (applied (c (name_of f)) f) ≡ true
  names = by-test (eqb (name_of f) MN) (λ e. mn (eqb-true (name_of f) MN e)) (λ e. other (eqb-false (name_of f) MN e))
    where
      mn : name_of f ≡ MN → every (is_named (name_of f)) (applied (c (name_of f)) f) ≡ true
      mn e = length_names (subst (λ (k : ℕ). Lengths n (c k)) (sym e) s.lengths) f i

      other : (name_of f ≡ MN → ⊥) → every (is_named (name_of f)) (applied (c (name_of f)) f) ≡ true
      other e =
          piece_names (subst (λ (g : Field). is_empty g ≡ false → Piece g (applied (c (name_of f)) g)) (first_here (name_of f) f fs refl) (s.first (name_of f) e)
          (there f (le-leb 4 (length f) (field_long f i))))

  sound_after : (m : ℕ) × Sound m (after (name_of f) c) fs
  sound_after =
      let (m, l) = lengths_next s.lengths in
      by-test (eqb MN (name_of f))
      (λ e. (m, sound_next c f fs s m (rw e l)))
      (λ e. (n, sound_next c f fs s n (rw e s.lengths)))

  other_same : (k : ℕ) → (name_of f ≡ k → ⊥) → after (name_of f) c k ≡ c k
  other_same k e = rw (ne_eqb k (name_of f) (λ q. e (sym q)))

-- ---- the first field becomes one field, which is the first afterwards

pub first_kept : (k n : ℕ) (c : Changes) (fs : List Field) (g : Field) → every is_field fs ≡ true → Sound n c fs → is_empty (first_named k fs) ≡ false
    → applied (c k) (first_named k fs) ≡ g ∷ [] → name_of g ≡ k → first_named k (changed c fs) ≡ g
unfolding changed first_named
first_kept k n c [] g are s e a q = let z : is_empty {A = ℕ} [] ≡ false = e in let y : ◌≡◌ {A = ℕ} 0 1 = cc in absurd (omega arith)
first_kept k n c (f ∷ fs) g are s e a q =
    by-test (eqb (name_of f) k)
    (λ h. here (eqb-true (name_of f) k h))
    (λ h.
    let d = eqb-false (name_of f) k h in
    let i = and_true_l (is_field f) (every is_field fs) are in
    let (m, after-sound) = sound_after c f fs s i in
    let later = first_later k f fs d in
    let same = other_same c f fs s i k d in
    first_past k (name_of f) (applied (c (name_of f)) f) (changed (after (name_of f) c) fs) (names c f fs s i) d
    ∙ first_kept k m (after (name_of f) c) fs g (and_true_r (is_field f) (every is_field fs) are) after-sound (ap is_empty (sym later) ∙ e)
    ((λ j. applied (same j) (sym later j)) ∙ a) q)
  where
    here : name_of f ≡ k → first_named k (applied (c (name_of f)) f ++ changed (after (name_of f) c) fs) ≡ g
    here h =
        let is : applied (c (name_of f)) f ≡ g ∷ [] = (λ j. applied (c (h j)) (sym (first_here k f fs h) j)) ∙ a in
        ap (λ (p : List Field). first_named k (p ++ changed (after (name_of f) c) fs)) is ∙ first_here k g (changed (after (name_of f) c) fs) q

-- ---- the first field goes, and there is one fewer

pub first_gone : (k n : ℕ) (c : Changes) (fs : List Field) → every is_field fs ≡ true → Sound n c fs → is_empty (first_named k fs) ≡ false
    → applied (c k) (first_named k fs) ≡ [] → times k (changed c fs) < times k fs
unfolding changed first_named
first_gone k n c [] are s e a = let z : is_empty {A = ℕ} [] ≡ false = e in let y : ◌≡◌ {A = ℕ} 0 1 = cc in absurd (omega arith)
first_gone k n c (f ∷ fs) are s e a =
    by-test (eqb (name_of f) k)
    (λ h. here h (eqb-true (name_of f) k h))
    (λ h.
    let d = eqb-false (name_of f) k h in
    let i = and_true_l (is_field f) (every is_field fs) are in
    let (m, after-sound) = sound_after c f fs s i in
    let later = first_later k f fs d in
    let same = other_same c f fs s i k d in
    let less = first_gone k m (after (name_of f) c) fs (and_true_r (is_field f) (every is_field fs) are) after-sound (ap is_empty (sym later) ∙ e)
    ((λ j. applied (same j) (sym later j)) ∙ a) in
    rw h (omega (arith, less, times_past k (name_of f) (applied (c (name_of f)) f) (changed (after (name_of f) c) fs) (names c f fs s i) d)))
  where
    here : eqb (name_of f) k ≡ true → name_of f ≡ k → times k (applied (c (name_of f)) f ++ changed (after (name_of f) c) fs) < times k (f ∷ fs)
    here t h =
        let i = and_true_l (is_field f) (every is_field fs) are in
        let is : applied (c (name_of f)) f ≡ [] = (λ j. applied (c (h j)) (sym (first_here k f fs h) j)) ∙ a in
        let (m, after-sound) = sound_after c f fs s i in
        let few = (each_fewer (each_changed m (after (name_of f) c) fs (and_true_r (is_field f) (every is_field fs) are) after-sound)).1 k in
        rw (is, t) (omega (arith, few))

-- ---- the first field becomes one field of its name, and there are as many

idle_counted : (k n : ℕ) (c : Changes) (fs : List Field) → every is_field fs ≡ true → Sound n c fs → c k ≡ [] → times k (changed c fs) ≡ times k fs
unfolding changed
idle_counted k n c [] are s q = refl
idle_counted k n c (f ∷ fs) are s q =
    let i = and_true_l (is_field f) (every is_field fs) are in
    let more = and_true_r (is_field f) (every is_field fs) are in
    let (m, after-sound) = sound_after c f fs s i in
    by-test (eqb (name_of f) k)
    (λ h.
    let is : name_of f ≡ k = eqb-true (name_of f) k h in
    let none : applied (c (name_of f)) f ≡ f ∷ [] = ap (λ (l : List Change). applied l f) (ap c is ∙ q) in
    let again = idle_counted k m (after (name_of f) c) fs more after-sound (rw (eq-eqb k (name_of f) (sym is), q)) in
    rw (none, h) (ap suc again))
    (λ h.
    let d = eqb-false (name_of f) k h in
    rw h
    (times_past k (name_of f) (applied (c (name_of f)) f) (changed (after (name_of f) c) fs) (names c f fs s i) d
    ∙ idle_counted k m (after (name_of f) c) fs more after-sound (other_same c f fs s i k d ∙ q)))

pub first_counted : (k n : ℕ) (c : Changes) (fs : List Field) (g : Field) → every is_field fs ≡ true → Sound n c fs → is_empty (first_named k fs) ≡ false
    → applied (c k) (first_named k fs) ≡ g ∷ [] → name_of g ≡ k → rest (c k) ≡ [] → times k (changed c fs) ≡ times k fs
unfolding changed first_named
first_counted k n c [] g are s e a q l = let z : is_empty {A = ℕ} [] ≡ false = e in let y : ◌≡◌ {A = ℕ} 0 1 = cc in absurd (omega arith)
first_counted k n c (f ∷ fs) g are s e a q l =
    by-test (eqb (name_of f) k)
    (λ h. here h (eqb-true (name_of f) k h))
    (λ h.
    let d = eqb-false (name_of f) k h in
    let i = and_true_l (is_field f) (every is_field fs) are in
    let (m, after-sound) = sound_after c f fs s i in
    let later = first_later k f fs d in
    let same = other_same c f fs s i k d in
    rw h
    (times_past k (name_of f) (applied (c (name_of f)) f) (changed (after (name_of f) c) fs) (names c f fs s i) d
    ∙ first_counted k m (after (name_of f) c) fs g (and_true_r (is_field f) (every is_field fs) are) after-sound (ap is_empty (sym later) ∙ e)
    ((λ j. applied (same j) (sym later j)) ∙ a) q (ap rest same ∙ l)))
  where
    here : eqb (name_of f) k ≡ true → name_of f ≡ k → times k (applied (c (name_of f)) f ++ changed (after (name_of f) c) fs) ≡ times k (f ∷ fs)
    here t h =
        let i = and_true_l (is_field f) (every is_field fs) are in
        let is : applied (c (name_of f)) f ≡ g ∷ [] = (λ j. applied (c (h j)) (sym (first_here k f fs h) j)) ∙ a in
        let (m, after-sound) = sound_after c f fs s i in
        let idle : after (name_of f) c k ≡ [] = rw (eq-eqb k (name_of f) (sym h)) l in
        let again = idle_counted k m (after (name_of f) c) fs (and_true_r (is_field f) (every is_field fs) are) after-sound idle in
        rw (is, t, eq-eqb (name_of g) k q) (ap suc again)
