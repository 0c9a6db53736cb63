-- Field by field: each field stays, goes or becomes one field of its name. Support for the theorems of this crate.
-- Assumes nothing.
use mathlib.Core.Path.{◌≡◌, refl, sym, ◌∙◌, subst}
use Prim.Native.Nat.{ℕ, suc, ◌+◌, ◌≤◌, ◌<◌}
use native.Mathlib.Omega.{arith}
use mathlib.Core.Bool.{Bool, true, false, cond}
use mathlib.Core.List.{List, [], ◌∷◌, ◌++◌}
use lib.Dec.{eqb}
use lib.ListN.{length, length-append}
use borrow.Author.Tests.{eq-eqb, eqb-false, eqb-true, le-leb, ne_eqb}
use Rattle.lent.proofs.Tests.{and_true, and_true_l, and_true_r, by-test}
use Rattle.lent.specs.Lists.{every, filter, is_empty}
use Rattle.record_fields.proofs.Kept.{name_kept, number_made}
use Rattle.record_fields.proofs.FieldsLaws.{size_fits}
use Rattle.record_fields.proofs.LocalLaws.{is_field_size}
use Rattle.record_fields.specs.Bam.{word_bytes}
use Rattle.record_fields.specs.Fields.{Field, MN, first_named, is_field, joined, name_of}
use Rattle.record_says.specs.Says.{is_other, times}
use Rattle.record_tags.proofs.GrowthLaws.{length_with_integer}
use Rattle.record_tags.proofs.PlanLaws.{first_here, first_later, there}
use Rattle.record_tags.specs.Changes.{Change, Changes, after, applied, changed, length_set, rest}
use Rattle.record_tags.specs.Changes as changes
use Rattle.record_tags.specs.Values.{is_integer}

-- what becomes of one field; it is no longer than it was
pub data Piece (f : Field) : List Field → Type 0 where
  stays : Piece f (f ∷ [])
  goes : name_of f < 5 → Piece f []
  becomes : {g : Field} → name_of f < 5 → name_of g ≡ name_of f → is_field g ≡ true → length g ≤ length f → Piece f (g ∷ [])

-- what becomes of the fields; n is 3 if one of them may become up to three bytes longer, else 0
pub data Each : ℕ → List Field → List Field → Type 0 where
  end : {n : ℕ} → Each n [] []
  stay : {n : ℕ} {f : Field} {fs gs : List Field} → Each n fs gs → Each n (f ∷ fs) (f ∷ gs)
  go : {n : ℕ} {f : Field} {fs gs : List Field} → name_of f < 5 → Each n fs gs → Each n (f ∷ fs) gs
  become : {n : ℕ} {f g : Field} {fs gs : List Field} → name_of f < 5 → name_of g ≡ name_of f → is_field g ≡ true → length g ≤ length f → Each n fs gs
      → Each n (f ∷ fs) (g ∷ gs)
  grow : {f g : Field} {fs gs : List Field} → name_of f < 5 → name_of g ≡ name_of f → is_field g ≡ true → length g ≤ length f + 3 → Each 0 fs gs
      → Each 3 (f ∷ fs) (g ∷ gs)

-- every field stays
pub all_stay : {n : ℕ} (fs : List Field) → Each n fs fs
all_stay [] = end
all_stay (f ∷ fs) = stay (all_stay fs)

-- ---- changes

-- the changes of MN, which may take n bytes more
pub data Lengths : ℕ → List Change → Type 0 where
  idle : {n : ℕ} → Lengths n []
  gone : {n : ℕ} → Lengths n (changes.goes ∷ [])
  sets : (b : ℕ) → Lengths 3 (length_set b ∷ [])
  gone_sets : (b : ℕ) → Lengths 3 (changes.goes ∷ length_set b ∷ [])

-- changes under which each field stays, goes or becomes one field
pub record Sound (n : ℕ) (c : Changes) (fs : List Field) : Type 0 where
  pub lengths : Lengths n (c MN)
  pub first : (k : ℕ) → (k ≡ MN → ⊥) → is_empty (first_named k fs) ≡ false → Piece (first_named k fs) (applied (c k) (first_named k fs))
  pub later : (k : ℕ) → (k ≡ MN → ⊥) → rest (c k) ≡ []

pub field_long : (f : Field) → is_field f ≡ true → 4 ≤ length f
field_long f h =
    let is = is_field_size f h in
    let fits = size_fits f is.0 in
    omega (arith, fits.0, is.1)

-- one field, and the fields after it
each_more : {n : ℕ} {f : Field} {p fs gs : List Field} → Piece f p → Each n fs gs → Each n (f ∷ fs) (p ++ gs)
each_more stays e = stay e
each_more (goes l) e = go l e
each_more (becomes l k i h) e = become l k i h e

-- an MN
length_more : {n : ℕ} {q : List Change} (f : Field) (fs gs : List Field) → Lengths n q → name_of f < 5 → is_field f ≡ true
    → ((m : ℕ) → Lengths m (rest q) → Each m fs gs) → Each n (f ∷ fs) (applied q f ++ gs)
length_more {n} f fs gs idle l i k = stay (k n idle)
length_more {n} f fs gs gone l i k = go l (k n idle)
length_more f fs gs (sets b) l i k =
    by-test (is_integer f)
    (λ e. rw e (grow l (name_kept f (105 ∷ word_bytes b) 2 (omega arith) (omega (arith, field_long f i))) (number_made f b (omega (arith, field_long f i)))
    (omega (arith, field_long f i, length_with_integer b f (field_long f i))) (k 0 idle)))
    (λ e. rw e (stay (k 3 idle)))
length_more f fs gs (gone_sets b) l i k = go l (k 3 (sets b))

pub sound_next : {n : ℕ} (c : Changes) (f : Field) (fs : List Field) → Sound n c (f ∷ fs) → (m : ℕ) → Lengths m (after (name_of f) c MN)
    → Sound m (after (name_of f) c) fs
sound_next c f fs s m l = record { lengths = l; first = first; later = later }
  where
    other : (k : ℕ) → (k ≡ name_of f → ⊥) → (k ≡ MN → ⊥) → is_empty (first_named k fs) ≡ false → Piece (first_named k fs) (applied (c k) (first_named k fs))
    other k e z = subst (λ (g : Field). is_empty g ≡ false → Piece g (applied (c k) g)) (first_later k f fs (λ q. e (sym q))) (s.first k z)

    first : (k : ℕ) → (k ≡ MN → ⊥) → is_empty (first_named k fs) ≡ false → Piece (first_named k fs) (applied (after (name_of f) c k) (first_named k fs))
    first k z there =
        by-test (eqb k (name_of f))
        (λ e. rw (e, s.later k z) stays)
        (λ e. rw e (other k (eqb-false k (name_of f) e) z there))

    later : (k : ℕ) → (k ≡ MN → ⊥) → rest (after (name_of f) c k) ≡ []
    later k z = by-test (eqb k (name_of f)) (λ e. rw (e, s.later k z)) (λ e. rw e (s.later k z))

pub each_changed : (n : ℕ) (c : Changes) (fs : List Field) → every is_field fs ≡ true → Sound n c fs → Each n fs (changed c fs)
unfolding changed
each_changed n c [] h s = end
each_changed n c (f ∷ fs) h s =
    let again : (m : ℕ) → Lengths m (after (name_of f) c MN) → Each m fs (changed (after (name_of f) c) fs) =
    λ m l. each_changed m (after (name_of f) c) fs are (sound_next c f fs s m l) in
    by-test (eqb (name_of f) MN) (λ e. lengths (eqb-true (name_of f) MN e) again) (λ e. other (eqb-false (name_of f) MN e) again)
  where
    is : is_field f ≡ true
    is = and_true_l (is_field f) (every is_field fs) h

    are : every is_field fs ≡ true
    are = and_true_r (is_field f) (every is_field fs) h

    lengths : name_of f ≡ MN → ((m : ℕ) → Lengths m (after (name_of f) c MN) → Each m fs (changed (after (name_of f) c) fs))
        → Each n (f ∷ fs) (applied (c (name_of f)) f ++ changed (after (name_of f) c) fs)
    lengths e again =
        let q : Lengths n (c (name_of f)) = subst (λ (k : ℕ). Lengths n (c k)) (sym e) s.lengths in
        length_more f fs (changed (after (name_of f) c) fs) q (omega (arith, e)) is
        (λ m l. again m (subst (λ (r : List Change). Lengths m r) (next e) l))
      where
        next : name_of f ≡ MN → rest (c (name_of f)) ≡ after (name_of f) c MN
        next q = rw (q)

    other : (name_of f ≡ MN → ⊥) → ((m : ℕ) → Lengths m (after (name_of f) c MN) → Each m fs (changed (after (name_of f) c) fs))
        → Each n (f ∷ fs) (applied (c (name_of f)) f ++ changed (after (name_of f) c) fs)
    other e again =
        let p : Piece f (applied (c (name_of f)) f) =
        subst (λ (g : Field). is_empty g ≡ false → Piece g (applied (c (name_of f)) g)) (first_here (name_of f) f fs refl) (s.first (name_of f) e)
        (there f (le-leb 4 (length f) (field_long f is))) in
        each_more p (again n (rw (ne_eqb MN (name_of f) (λ q. e (sym q))) s.lengths))

-- ---- what such changes keep

-- every field is a field again
pub each_fields : {n : ℕ} {fs gs : List Field} → Each n fs gs → every is_field fs ≡ true → every is_field gs ≡ true
each_fields end h = refl
each_fields (stay {f = f} {fs} {gs} e) h =
    and_true (is_field f) (every is_field gs) (and_true_l (is_field f) (every is_field fs) h) (each_fields e (and_true_r (is_field f) (every is_field fs) h))
each_fields (go {f = f} {fs} {gs} l e) h = each_fields e (and_true_r (is_field f) (every is_field fs) h)
each_fields (become {f = f} {g} {fs} {gs} l k i m e) h = and_true (is_field g) (every is_field gs) i (each_fields e (and_true_r (is_field f) (every is_field fs) h))
each_fields (grow {f = f} {g} {fs} {gs} l k i m e) h = and_true (is_field g) (every is_field gs) i (each_fields e (and_true_r (is_field f) (every is_field fs) h))

-- the fields of other names are the same
pub each_others : {n : ℕ} {fs gs : List Field} → Each n fs gs → filter is_other gs ≡ filter is_other fs
each_others end = refl
each_others (stay {f = f} e) = rw (each_others e)
each_others (go {f = f} l e) = rw (ne_eqb (name_of f) 5 (λ q. omega (arith, q))) (each_others e)
each_others (become {f = f} {g} l k i m e) = rw (k, ne_eqb (name_of f) 5 (λ q. omega (arith, q))) (each_others e)
each_others (grow {f = f} {g} l k i m e) = rw (k, ne_eqb (name_of f) 5 (λ q. omega (arith, q))) (each_others e)

-- how long they are together
pub each_fits : {n : ℕ} {fs gs : List Field} → Each n fs gs → length (joined gs) ≤ length (joined fs) + n
each_fits end = omega arith
each_fits (stay {f = f} {fs} {gs} e) = omega (arith, length-append f (joined fs), length-append f (joined gs), each_fits e)
each_fits (go {f = f} {fs} {gs} l e) = omega (arith, length-append f (joined fs), each_fits e)
each_fits (become {f = f} {g} {fs} {gs} l k i m e) = omega (arith, m, length-append f (joined fs), length-append g (joined gs), each_fits e)
each_fits (grow {f = f} {g} {fs} {gs} l k i m e) = omega (arith, m, length-append f (joined fs), length-append g (joined gs), each_fits e)

-- ---- how many there are of a name

abbrev is_named : ℕ → Field → Bool
is_named k f = eqb (name_of f) k

times_here : (k : ℕ) (f : Field) (fs : List Field) → times k (f ∷ fs) ≡ cond (is_named k f) 1 0 + times k fs
times_here k f fs = by-test (is_named k f) (λ e. rw e (omega arith)) (λ e. rw e (omega arith))

at_most_one : (b : Bool) → cond b 1 0 ≤ 1
at_most_one true = omega arith
at_most_one false = omega arith

same_count : (f g : Field) (k : ℕ) → name_of g ≡ name_of f → ◌≡◌ {A = ℕ} (cond (is_named k g) 1 0) (cond (is_named k f) 1 0)
same_count f g k q = rw q

-- there are no fewer fields gone than of one name
pub each_gone : {n : ℕ} {fs gs : List Field} → Each n fs gs → (k : ℕ) → length gs + times k fs ≤ length fs + times k gs
each_gone end k = omega arith
each_gone (stay {f = f} {fs} {gs} e) k = omega (arith, each_gone e k, times_here k f fs, times_here k f gs)
each_gone (go {f = f} {fs} {gs} l e) k = omega (arith, each_gone e k, times_here k f fs, at_most_one (is_named k f))
each_gone (become {f = f} {g} {fs} {gs} l q i m e) k =
    omega (arith, each_gone e k, times_here k f fs, times_here k g gs, same_count f g k q)
each_gone (grow {f = f} {g} {fs} {gs} l q i m e) k =
    omega (arith, each_gone e k, times_here k f fs, times_here k g gs, same_count f g k q)

pub each_fewer : {n : ℕ} {fs gs : List Field} → Each n fs gs → (length gs ≤ length fs) × ((k : ℕ) → times k gs ≤ times k fs)
each_fewer end = (omega arith, λ k. omega arith)
each_fewer (stay {f = f} {fs} {gs} e) = let r = each_fewer e in (omega (arith, r.0), λ k. omega (arith, r.1 k, times_here k f fs, times_here k f gs))
each_fewer (go {f = f} {fs} {gs} l e) = let r = each_fewer e in (omega (arith, r.0), λ k. omega (arith, r.1 k, times_here k f fs))
each_fewer (become {f = f} {g} {fs} {gs} l q i m e) =
    let r = each_fewer e in
    (omega (arith, r.0), λ k. omega (arith, r.1 k, times_here k f fs, times_here k g gs, same_count f g k q))
each_fewer (grow {f = f} {g} {fs} {gs} l q i m e) =
    let r = each_fewer e in
    (omega (arith, r.0), λ k. omega (arith, r.1 k, times_here k f fs, times_here k g gs, same_count f g k q))

-- if a field went, then one of the five names is there less often
abbrev Fewer : List Field → List Field → Type 0
Fewer fs gs = (k : ℕ) × (k < 5) × (times k gs < times k fs)

one_more : (f g : Field) (fs gs : List Field) → name_of g ≡ name_of f → Fewer fs gs → Fewer (f ∷ fs) (g ∷ gs)
one_more f g fs gs q (k, l, t) = (k, l, omega (arith, t, times_here k f fs, times_here k g gs, same_count f g k q))

pub each_went : {n : ℕ} {fs gs : List Field} → Each n fs gs → length gs < length fs → Fewer fs gs
each_went end h = absurd (omega (arith, h))
each_went (stay {f = f} {fs} {gs} e) h = one_more f f fs gs refl (each_went e (omega (arith, h)))
each_went (go {f = f} {fs} {gs} l e) h =
    let one : ◌≡◌ {A = ℕ} (cond (is_named (name_of f) f) 1 0) 1 = rw (eq-eqb (name_of f) (name_of f) refl) in
    (name_of f, l, omega (arith, one, times_here (name_of f) f fs, (each_fewer e).1 (name_of f)))
each_went (become {f = f} {g} {fs} {gs} l q i m e) h = one_more f g fs gs q (each_went e (omega (arith, h)))
each_went (grow {f = f} {g} {fs} {gs} l q i m e) h = one_more f g fs gs q (each_went e (omega (arith, h)))

-- a name is there if a field has it
pub there_times : (k : ℕ) (fs : List Field) → every is_field fs ≡ true → is_empty (first_named k fs) ≡ eqb (times k fs) 0
unfolding first_named
there_times k [] h = refl
there_times k (f ∷ fs) h =
    by-test (is_named k f)
    (λ e. rw e (there f (le-leb 4 (length f) (field_long f (and_true_l (is_field f) (every is_field fs) h)))
    ∙ sym (ne_eqb (suc (times k fs)) 0 (λ z. omega (arith, z)))))
    (λ e. rw e (there_times k fs (and_true_r (is_field f) (every is_field fs) h)))
