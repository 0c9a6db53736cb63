-- The three edits are one kind of edit: a mask and a drop are windows that cut nothing off.
-- Assumes nothing.
use mathlib.Core.Path.{◌≡◌, refl, sym, ap, ◌∙◌}
use Prim.Native.Nat.{ℕ, zero, suc, ◌+◌, ◌-◌, ◌≤◌, ◌<◌}
use native.Mathlib.Nat.{sub-zero}
use native.Mathlib.Omega.{arith}
use mathlib.Core.Bool.{Bool, true, false, ◌||◌}
use mathlib.Core.List.{List, [], ◌∷◌}
use lib.Dec.{eqb}
use lib.ListN.{length, get_or, take, replicate, set, length-set}
use lib.Seq.{get_or-set_other, get_or-set_same}
use borrow.Author.Tests.{eq-eqb, eqb-false, eqb-true, ne_eqb}
use Rattle.lent.proofs.Lists.{Agree, agree_all, agree_imp}
use Rattle.lent.proofs.Tests.{by-test}
use Rattle.lent.specs.Lists.{among}
use Rattle.samtags.proofs.Places.{inside_true, places_pass, tracked_inside}
use Rattle.samtags.proofs.SameEdit.{edited_same}
use Rattle.samtags.specs.Edits.{cut_to, dropping_at, edited, masked_to}
use Rattle.samtags.specs.Meaning.{inside}
use Rattle.samtags.specs.Reading.{nowhere}
use Rattle.samtags.specs.Spots.{holds, tracked}
use Rattle.samtags.specs.Bytes.{letter_n}
use Rattle.samtags.specs.Session.{mask_from, masked}
use Rattle.changing.proofs.EntryLaws.{held_inside}
use Rattle.changing.specs.Windows.{held_in, is_marked, marked_at, stored_at, window_edit}

-- ---- marks

pub unmarked_row : (n p : ℕ) → is_marked (replicate n 0) p ≡ false
unfolding is_marked
unmarked_row zero p = refl
unmarked_row (suc n) zero = refl
unmarked_row (suc n) (suc p) = unmarked_row n p

one_mark : (marks : List ℕ) (q p : ℕ) → p < length marks → is_marked (set marks q 1) p ≡ eqb q p || is_marked marks p
unfolding is_marked
one_mark marks q p h =
    by-test (eqb q p)
    (λ e. let s : q ≡ p = eqb-true q p e in rw (e, s, get_or-set_same marks p 1 0 h))
    (λ e. rw (e, get_or-set_other marks q p 1 0 (λ s. eqb-false q p e (sym s))))

pub marked_at_lem : (places marks : List ℕ) (p : ℕ) → p < length marks → is_marked (marked_at places marks) p ≡ among places p || is_marked marks p
marked_at_lem [] marks p h = refl
marked_at_lem (q ∷ ps) marks p h =
    marked_at_lem ps (set marks q 1) p (simp length-set h)
    ∙ rw (one_mark marks q p h)
    (by-test (eqb q p)
    (λ e. rw e (by-test (among ps p) (λ t. rw t) (λ t. rw t)))
    (λ e. rw e))

-- in a row that had none
pub marked_only : (places marks : List ℕ) → ((p : ℕ) → is_marked marks p ≡ false) → (p : ℕ) → p < length marks
    → is_marked (marked_at places marks) p ≡ among places p
marked_only places marks none p l = marked_at_lem places marks p l ∙ rw (none p) (by-test (among places p) (λ t. rw t) (λ t. rw t))

-- ---- N at the places of a list

-- the front of a row does not look at what is stored behind it
take_set : (n : ℕ) (row : List ℕ) (p b : ℕ) → take n (set row p b) ≡ set (take n row) p b
take_set zero row p b = refl
take_set (suc n) [] p b = refl
take_set (suc n) (x ∷ row) zero b = refl
take_set (suc n) (x ∷ row) (suc p) b = ap (λ (l : List ℕ). x ∷ l) (take_set n row p b)

pub take_stored : (n b : ℕ) (places row : List ℕ) → take n (stored_at b places row) ≡ stored_at b places (take n row)
take_stored n b [] row = refl
take_stored n b (p ∷ ps) row = take_stored n b ps (set row p b) ∙ ap (stored_at b ps) (take_set n row p b)

pub length_stored : (b : ℕ) (places row : List ℕ) → length (stored_at b places row) ≡ length row
length_stored b [] row = refl
length_stored b (p ∷ ps) row = length_stored b ps (set row p b) ∙ length-set row p b

mask_same : (i : ℕ) (t u : ℕ → Bool) → ((n : ℕ) → i ≤ n → t n ≡ u n) → (xs : List ℕ) → mask_from i t xs ≡ mask_from i u xs
mask_same i t u h [] = refl
mask_same i t u h (x ∷ xs) = rw (h i (omega arith), mask_same (suc i) t u (λ n l. h n (omega arith)) xs)

-- an N that is stored is one that is masked
mask_set : (i p q : ℕ) (t : ℕ → Bool) (xs : List ℕ) → q ≡ i + p → mask_from i t (set xs p letter_n) ≡ mask_from i (λ n. eqb q n || t n) xs
mask_set i p q t [] e = refl
mask_set i zero q t (x ∷ xs) e =
    rw (
      eq-eqb q i (omega arith),
      mask_same (suc i) (λ n. eqb q n || t n) t (λ n l. rw (ne_eqb q n (λ s. let z : ⊥ = omega arith in z))) xs,
    )
    (by-test (t i) (λ f. rw f) (λ f. rw f))
mask_set i (suc p) q t (x ∷ xs) e = rw (ne_eqb q i (λ s. let z : ⊥ = omega arith in z), mask_set (suc i) p q t xs (omega arith))

pub stored_is_masked : (places seq : List ℕ) → stored_at letter_n places seq ≡ masked (among places) seq
stored_is_masked [] seq = sym (unmasked 0 seq)
  where
    unmasked : (i : ℕ) (xs : List ℕ) → mask_from i (among []) xs ≡ xs
    unmasked i [] = refl
    unmasked i (x ∷ xs) = ap (λ (r : List ℕ). x ∷ r) (unmasked (suc i) xs)
stored_is_masked (p ∷ ps) seq = stored_is_masked ps (set seq p letter_n) ∙ mask_set 0 p p (among ps) seq (omega arith)

-- ---- the three edits

-- where two tests pass at each place
agree_both : (s t u v : ℕ → Bool) (ps : List ℕ) → Agree s (λ p. true) ps → Agree t (λ p. true) ps
    → ((p : ℕ) → s p ≡ true → t p ≡ true → u p ≡ v p) → Agree u v ps
agree_both s t u v [] a b f = tt
agree_both s t u v (p ∷ ps) a b f = (f p a.0 b.0, agree_both s t u v ps a.1 b.1 f)

unmarked_none : (p : ℕ) → is_marked [] p ≡ false
unfolding is_marked
unmarked_none p = refl

-- inside a row that cuts nothing off
whole : (after : List ℕ) (b n p : ℕ) → n ≤ length after → inside 0 n p ≡ true → held_in 0 after b p ≡ holds b (get_or after p 0)
whole after b n p l i =
    let w = inside_true 0 n p i in
    let low : p - 0 < length after = omega (arith, w.1) in
    held_inside 0 after b p w.0 low ∙ rw (sub-zero p)

module _ (ml? : Bool) (seq text ml : List ℕ) where
  pub mask_is : (after : List ℕ) → length seq ≡ length after → edited (masked_to after) ml? seq text ml ≡ edited (window_edit 0 after []) ml? seq text ml
  unfolding masked_to
  mask_is after h =
      edited_same (masked_to after) (window_edit 0 after []) ml? seq
      (λ b. agree_imp (inside 0 (length seq)) (λ p. true) (λ p. holds b (get_or after p 0)) (held_in 0 after b)
      (λ p i. sym (whole after b (length seq) p (omega arith) i)) (tracked b seq) (tracked_inside b seq))
      (λ b. agree_all nowhere (is_marked []) (λ p. sym (unmarked_none p)) (tracked b seq))
      text ml

  pub cut_is : (lo : ℕ) (after : List ℕ) → edited (cut_to lo after) ml? seq text ml ≡ edited (window_edit lo after []) ml? seq text ml
  unfolding cut_to held_in
  cut_is lo after =
      edited_same (cut_to lo after) (window_edit lo after []) ml? seq
      (λ b. agree_all ((cut_to lo after).still_held b) (held_in lo after b) (λ p. refl) (tracked b seq))
      (λ b. agree_all nowhere (is_marked []) (λ p. sym (unmarked_none p)) (tracked b seq))
      text ml

  -- with marks that say of each place of SEQ whether it is one of the list
  pub drop_by_marks : (places marks : List ℕ) → ((p : ℕ) → p < length seq → is_marked marks p ≡ among places p)
      → edited (dropping_at places) ml? seq text ml ≡ edited (window_edit 0 seq marks) ml? seq text ml
  unfolding dropping_at tracked
  drop_by_marks places marks named =
      edited_same (dropping_at places) (window_edit 0 seq marks) ml? seq
      (λ b. agree_both (inside 0 (length seq)) (λ p. holds b (get_or seq p 0)) (λ p. true) (held_in 0 seq b) (tracked b seq)
      (tracked_inside b seq) (places_pass (holds b) 0 seq seq refl)
      (λ p i k. sym (whole seq b (length seq) p (omega arith) i ∙ k)))
      (λ b. agree_imp (inside 0 (length seq)) (λ p. true) (among places) (is_marked marks)
      (λ p i. sym (named p (omega (arith, (inside_true 0 (length seq) p i).1)))) (tracked b seq) (tracked_inside b seq))
      text ml

  pub drop_is : (places marks : List ℕ) → length seq ≤ length marks → ((p : ℕ) → is_marked marks p ≡ false)
      → edited (dropping_at places) ml? seq text ml ≡ edited (window_edit 0 seq (marked_at places marks)) ml? seq text ml
  drop_is places marks h none = drop_by_marks places (marked_at places marks) (λ p l. marked_only places marks none p (omega arith))
