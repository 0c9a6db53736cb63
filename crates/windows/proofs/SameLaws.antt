-- Whether two rows are the same, part by part.
-- Assumes nothing.
use mathlib.Core.Path.{◌≡◌, refl, sym, ap, ◌∙◌}
use Prim.Native.Nat.{ℕ, suc, ◌+◌, ◌≤◌, ◌<◌}
use native.Mathlib.Omega.{arith}
use mathlib.Core.Bool.{Bool, true, false, ◌&&◌}
use mathlib.Core.List.{List, [], ◌∷◌, ◌++◌}
use lib.Dec.{eqb}
use lib.ListN.{length, get_or, take, drop, length-drop, take-append-drop}
use lib.Seq.{drop-drop, get_or-drop, length-take-le}
use borrow.Author.Tests.{eqb-true}
use Rattle.lent.proofs.Lists.{take_more}
use Rattle.lent.proofs.Tests.{and_true_l, and_true_r, by-test}
use Rattle.samtags.specs.Edits.{same_bytes_of}

pub same_lengths : (a b : List ℕ) → (length a ≡ length b → ⊥) → same_bytes_of a b ≡ false
same_lengths [] [] h = absurd (h refl)
same_lengths [] (y ∷ b) h = refl
same_lengths (x ∷ a) [] h = refl
same_lengths (x ∷ a) (y ∷ b) h = rw (same_lengths a b (λ e. h (ap suc e))) (by-test (eqb x y) (λ e. rw e) (λ e. rw e))

-- rows of the same bytes are one row
pub one_row : (a b : List ℕ) → same_bytes_of a b ≡ true → a ≡ b
one_row [] [] h = refl
one_row [] (y ∷ b) h = let z : ◌≡◌ {A = ℕ} 0 1 = cc in absurd (omega arith)
one_row (x ∷ a) [] h = let z : ◌≡◌ {A = ℕ} 0 1 = cc in absurd (omega arith)
one_row (x ∷ a) (y ∷ b) h =
    let first : x ≡ y = eqb-true x y (and_true_l (eqb x y) (same_bytes_of a b) h) in
    let rest : a ≡ b = one_row a b (and_true_r (eqb x y) (same_bytes_of a b) h) in
    λ j. first j ∷ rest j

same_append : (xs ys us vs : List ℕ) → length xs ≡ length ys → same_bytes_of (xs ++ us) (ys ++ vs) ≡ same_bytes_of xs ys && same_bytes_of us vs
same_append [] [] us vs h = refl
same_append [] (y ∷ ys) us vs h = absurd (omega arith)
same_append (x ∷ xs) [] us vs h = absurd (omega arith)
same_append (x ∷ xs) (y ∷ ys) us vs h = rw (same_append xs ys us vs (omega arith)) (by-test (eqb x y) (λ e. rw e) (λ e. rw e))

module _ (a b : List ℕ) (from : ℕ) where
  sizes : (i : ℕ) → from + i ≤ length a → from + i ≤ length b → length (take i (drop from a)) ≡ length (take i (drop from b))
  sizes i h k =
      length-take-le i (drop from a) (omega (arith, length-drop from a)) ∙ sym (length-take-le i (drop from b) (omega (arith, length-drop from b)))

  -- one byte more of a block
  pub same_more : (i : ℕ) → from + i < length a → from + i < length b
      → same_bytes_of (take (i + 1) (drop from a)) (take (i + 1) (drop from b))
      ≡ same_bytes_of (take i (drop from a)) (take i (drop from b)) && eqb (get_or a (from + i) 0) (get_or b (from + i) 0)
  same_more i h k =
      let x = get_or a (from + i) 0 in
      let y = get_or b (from + i) 0 in
      let first : take (i + 1) (drop from a) ≡ take i (drop from a) ++ x ∷ [] =
      take_more (drop from a) i 0 (omega (arith, length-drop from a)) ∙ ap (λ (v : ℕ). take i (drop from a) ++ v ∷ []) (get_or-drop from a i 0) in
      let second : take (i + 1) (drop from b) ≡ take i (drop from b) ++ y ∷ [] =
      take_more (drop from b) i 0 (omega (arith, length-drop from b)) ∙ ap (λ (v : ℕ). take i (drop from b) ++ v ∷ []) (get_or-drop from b i 0) in
      let last : eqb x y && true ≡ eqb x y = by-test (eqb x y) (λ e. rw e) (λ e. rw e) in
      (λ j. same_bytes_of (first j) (second j))
      ∙ same_append (take i (drop from a)) (take i (drop from b)) (x ∷ []) (y ∷ []) (sizes i (omega arith) (omega arith))
      ∙ ap (λ (t : Bool). same_bytes_of (take i (drop from a)) (take i (drop from b)) && t) last

  -- a block, and what is behind it
  pub same_parts : (n : ℕ) → from + n ≤ length a → from + n ≤ length b
      → same_bytes_of (drop from a) (drop from b) ≡ same_bytes_of (take n (drop from a)) (take n (drop from b)) && same_bytes_of (drop (from + n) a) (drop (from + n) b)
  same_parts n h k =
      let first : drop from a ≡ take n (drop from a) ++ drop (from + n) a =
      sym (take-append-drop n (drop from a)) ∙ ap (λ (l : List ℕ). take n (drop from a) ++ l) (drop-drop n from a) in
      let second : drop from b ≡ take n (drop from b) ++ drop (from + n) b =
      sym (take-append-drop n (drop from b)) ∙ ap (λ (l : List ℕ). take n (drop from b) ++ l) (drop-drop n from b) in
      (λ j. same_bytes_of (first j) (second j)) ∙ same_append (take n (drop from a)) (take n (drop from b)) (drop (from + n) a) (drop (from + n) b) (sizes n h k)
