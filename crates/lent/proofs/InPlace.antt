-- A row that is changed in place from the left: its first elements are f of what they were, and the others are unchanged. This is the invariant of a loop
-- `row[i] = f(row[i])`, for any element type.
-- Assumes nothing.
use mathlib.Core.Path.{◌≡◌, refl, ap}
use mathlib.Core.List.{List, [], ◌∷◌, map}
use Prim.Native.Nat.{ℕ, zero, suc, ◌+◌, ◌≤◌, ◌<◌}
use native.Mathlib.Nat.{le_of_suc-le-suc, not-suc-le-zero}
use native.Mathlib.Omega.{arith}
use lib.ListN.{length, get_or, set}
use Rattle.lent.specs.Lists.{zip_with}

module _ {A : Type 0} (f : ℕ → A → A) where
  -- the first k elements changed; f is told the place, and the head is at place i
  abbrev pub changed_from : ℕ → ℕ → List A → List A
  changed_from i zero xs = xs
  changed_from i (suc k) [] = []
  changed_from i (suc k) (x ∷ xs) = f i x ∷ changed_from (suc i) k xs

  -- from the row's start
  abbrev pub changed_up_to : ℕ → List A → List A
  changed_up_to k xs = changed_from 0 k xs

  pub length_changed : (i k : ℕ) (xs : List A) → length (changed_from i k xs) ≡ length xs
  length_changed i zero xs = refl
  length_changed i (suc k) [] = refl
  length_changed i (suc k) (x ∷ xs) = ap suc (length_changed (suc i) k xs)

  -- what the loop has not come to is as it was
  pub changed_not_yet : (i k j : ℕ) (xs : List A) (d : A) → k ≤ j → get_or (changed_from i k xs) j d ≡ get_or xs j d
  changed_not_yet i zero j xs d h = refl
  changed_not_yet i (suc k) j [] d h = refl
  changed_not_yet i (suc k) zero (x ∷ xs) d h = absurd (not-suc-le-zero h)
  changed_not_yet i (suc k) (suc j) (x ∷ xs) d h = changed_not_yet (suc i) k j xs d (le_of_suc-le-suc h)

  -- one element more
  changed_more_from : (i k : ℕ) (xs : List A) (d : A) → k < length xs → set (changed_from i k xs) k (f (i + k) (get_or xs k d)) ≡ changed_from i (suc k) xs
  changed_more_from i k [] d h = absurd (not-suc-le-zero h)
  changed_more_from i zero (x ∷ xs) d h = let e : i + 0 ≡ i = omega arith in rw e
  changed_more_from i (suc k) (x ∷ xs) d h =
      let e : i + suc k ≡ suc i + k = omega arith in
      rw e (ap (λ (l : List A). f i x ∷ l) (changed_more_from (suc i) k xs d (le_of_suc-le-suc h)))

  pub changed_more : (k : ℕ) (xs : List A) (d : A) → k < length xs → set (changed_up_to k xs) k (f k (get_or xs k d)) ≡ changed_up_to (suc k) xs
  changed_more k xs d h = let e : 0 + k ≡ k = omega arith in rw e at (changed_more_from 0 k xs d h)

-- the whole row, where f does not look at the place
pub changed_is_map : {A : Type 0} (f : A → A) (i : ℕ) (xs : List A) → changed_from (λ (j : ℕ) (x : A). f x) i (length xs) xs ≡ map f xs
changed_is_map f i [] = refl
changed_is_map f i (x ∷ xs) = ap (λ l. f x ∷ l) (changed_is_map f (suc i) xs)

-- the whole row, where f looks at the entry of another row at the same place
pub changed_is_zip : {A B : Type 0} (g : B → A → A) (ys : List B) (d : B) (xs : List A) → length ys ≡ length xs
    → changed_from (λ (i : ℕ) (x : A). g (get_or ys i d) x) 0 (length xs) xs ≡ zip_with g ys xs
changed_is_zip {A} {B} g ys d xs h = from 0 ys (λ (j : ℕ). let e : 0 + j ≡ j = omega arith in ap (λ (k : ℕ). get_or ys k d) e) xs h
  where
    from : (i : ℕ) (zs : List B) → ((j : ℕ) → get_or ys (i + j) d ≡ get_or zs j d) → (xs : List A) → length zs ≡ length xs
        → changed_from (λ (i : ℕ) (x : A). g (get_or ys i d) x) i (length xs) xs ≡ zip_with g zs xs
    from i [] e [] h = refl
    from i [] e (x ∷ xs) h = let z : ⊥ = omega arith in absurd z
    from i (z ∷ zs) e [] h = let w : ⊥ = omega arith in absurd w
    from i (z ∷ zs) e (x ∷ xs) h =
        let here : get_or ys (i + 0) d ≡ z = e 0 in
        let z0 : i + 0 ≡ i = omega arith in
        let now : get_or ys i d ≡ z = rw z0 at here in
        rw (now, from (suc i) zs (λ (j : ℕ). next j) xs (omega arith))
      where
        next : (j : ℕ) → get_or ys (suc i + j) d ≡ get_or zs j d
        next j = let k : suc i + j ≡ i + suc j = omega arith in rw k (e (suc j))
