-- Laws of tabulated lists, and of rows that are filled or changed from the left: the invariant of a loop over a row, and its result.
-- Assumes nothing.
use mathlib.Core.Path.{◌≡◌, refl, sym, ap, ◌∙◌}
use Prim.Native.Nat.{ℕ, zero, suc, ◌+◌, ◌-◌, ◌≤◌, ◌<◌}
use native.Mathlib.Nat.{le_of_suc-le-suc, not-suc-le-zero}
use native.Mathlib.Numerals.{add-one}
use native.Mathlib.Omega.{arith}
use mathlib.Core.List.{List, [], ◌∷◌, ◌++◌, map}
use lib.ListN.{length, get_or, take, drop, set, length-map}
use lib.Seq.{length-take-le, ext_get_or}
use borrow.Rule.Slice.PartMut.{put_mid}
use Rattle.lent.proofs.Filled.{over_one_more}
use Rattle.lent.proofs.Lists.{map_more}
use Rattle.lent.proofs.InPlace.{changed_from, changed_up_to, changed_not_yet, changed_more}
use Rattle.lent.specs.Filled.{over}
use Rattle.lent.specs.Lists.{tabulate_from, tabulate, zip_with}

module _ {A : Type 0} where
  -- ---- tabulate

  length_tabulate_from : (i n : ℕ) (f : ℕ → A) → length (tabulate_from i n f) ≡ n
  length_tabulate_from i zero f = refl
  length_tabulate_from i (suc n) f = ap suc (length_tabulate_from (suc i) n f)

  pub length_tabulate : (n : ℕ) (f : ℕ → A) → length (tabulate n f) ≡ n
  length_tabulate n f = length_tabulate_from 0 n f

  get_d_tabulate_from : (i n j : ℕ) (f : ℕ → A) (d : A) → j < n → get_or (tabulate_from i n f) j d ≡ f (i + j)
  get_d_tabulate_from i zero j f d h = absurd (not-suc-le-zero h)
  get_d_tabulate_from i (suc n) zero f d h = let e : i ≡ i + 0 = omega arith in ap f e
  get_d_tabulate_from i (suc n) (suc j) f d h =
      let e : suc i + j ≡ i + suc j = omega arith in
      get_d_tabulate_from (suc i) n j f d (le_of_suc-le-suc h) ∙ ap f e

  pub get_d_tabulate : (n j : ℕ) (f : ℕ → A) (d : A) → j < n → get_or (tabulate n f) j d ≡ f j
  get_d_tabulate n j f d h = let e : 0 + j ≡ j = omega arith in get_d_tabulate_from 0 n j f d h ∙ ap f e

  tabulate_ext_from : (i n : ℕ) (f g : ℕ → A) → ((j : ℕ) → j < n → f (i + j) ≡ g (i + j)) → tabulate_from i n f ≡ tabulate_from i n g
  tabulate_ext_from i zero f g h = refl
  tabulate_ext_from i (suc n) f g h =
      let z : i + 0 ≡ i = omega arith in
      let here : f i ≡ g i = rw z at (h 0 (omega arith)) in
      rw (here, tabulate_ext_from (suc i) n f g later)
    where
      later : (j : ℕ) → j < n → f (suc i + j) ≡ g (suc i + j)
      later j l = let e : suc i + j ≡ i + suc j = omega arith in rw e (h (suc j) (omega arith))

  -- two functions that agree below n
  pub tabulate_ext : (n : ℕ) (f g : ℕ → A) → ((j : ℕ) → j < n → f j ≡ g j) → tabulate n f ≡ tabulate n g
  tabulate_ext n f g h = tabulate_ext_from 0 n f g (λ (j : ℕ) (l : j < n). let e : 0 + j ≡ j = omega arith in rw e (h j l))

  -- a list is what its own places give
  pub tabulate_get_d : (xs : List A) (d : A) → tabulate (length xs) (λ i. get_or xs i d) ≡ xs
  tabulate_get_d xs d =
      ext_get_or d (tabulate (length xs) (λ i. get_or xs i d)) xs (length_tabulate (length xs) (λ i. get_or xs i d))
      (λ (i : ℕ) (l : i < length (tabulate (length xs) (λ i. get_or xs i d))).
      get_d_tabulate (length xs) i (λ i. get_or xs i d) d (omega (arith, length_tabulate (length xs) (λ i. get_or xs i d))))

  tabulate_last_from : (i n : ℕ) (f : ℕ → A) → tabulate_from i (suc n) f ≡ tabulate_from i n f ++ f (i + n) ∷ []
  tabulate_last_from i zero f = let e : i ≡ i + 0 = omega arith in ap (λ (k : ℕ). f k ∷ []) e
  tabulate_last_from i (suc n) f =
      let e : suc i + n ≡ i + suc n = omega arith in
      ap (λ (l : List A). f i ∷ l) (tabulate_last_from (suc i) n f) ∙ ap (λ (k : ℕ). f i ∷ tabulate_from (suc i) n f ++ f k ∷ []) e

  -- one entry more, stored where the tabulated ones end
  pub over_tabulate_more : (n : ℕ) (f : ℕ → A) (out : List A) → n < length out → set (over (tabulate n f) out) n (f n) ≡ over (tabulate (n + 1) f) out
  over_tabulate_more n f out h =
      let e : 0 + n ≡ n = omega arith in
      let more : tabulate (suc n) f ≡ tabulate n f ++ f n ∷ [] = rw e at (tabulate_last_from 0 n f) in
      rw (add-one n) (over_one_more (tabulate n f) out n (f n) (length_tabulate n f) h ∙ ap (λ (l : List A). over l out) (sym more))

  -- ---- changed in place

  -- a turn of the loop: what it stores at place i is f of what is there
  pub changed_turn : (f : ℕ → A → A) (d : A) (row₀ row : List A) (i : ℕ) (v : A) → row ≡ changed_up_to f i row₀ → i < length row₀
      → v ≡ f i (get_or row i d) → set row i v ≡ changed_up_to f (i + 1) row₀
  changed_turn f d row₀ row i v e h w =
      let there : get_or row i d ≡ get_or row₀ i d = rw e (changed_not_yet f 0 i i row₀ d (omega arith)) in
      rw (w, there, e, add-one) (changed_more f i row₀ d h)

  changed_tabulate_from : (f : ℕ → A → A) (g : ℕ → A) (d : A) (i : ℕ) (xs : List A)
      → ((j : ℕ) → j < length xs → f (i + j) (get_or xs j d) ≡ g (i + j)) → changed_from f i (length xs) xs ≡ tabulate_from i (length xs) g
  changed_tabulate_from f g d i [] h = refl
  changed_tabulate_from f g d i (x ∷ xs) h =
      let z : i + 0 ≡ i = omega arith in
      let here : f i x ≡ g i = rw z at (h 0 (omega arith)) in
      rw (here, changed_tabulate_from f g d (suc i) xs later)
    where
      later : (j : ℕ) → j < length xs → f (suc i + j) (get_or xs j d) ≡ g (suc i + j)
      later j l = let e : suc i + j ≡ i + suc j = omega arith in rw e (h (suc j) (omega arith))

  -- the whole row, tabulated
  pub changed_is_tabulate : (f : ℕ → A → A) (d : A) (xs : List A)
      → changed_up_to f (length xs) xs ≡ tabulate (length xs) (λ i. f i (get_or xs i d))
  changed_is_tabulate f d xs =
      changed_tabulate_from f (λ i. f i (get_or xs i d)) d 0 xs (λ (j : ℕ) (l : j < length xs). let e : 0 + j ≡ j = omega arith in rw e)

  changed_idle_from : (f : ℕ → A → A) (i k m : ℕ) (xs : List A) → ((j : ℕ) (x : A) → i + k ≤ j → f j x ≡ x) → k ≤ m
      → changed_from f i k xs ≡ changed_from f i m xs
  changed_idle_from f i zero zero xs h l = refl
  changed_idle_from f i zero (suc m) [] h l = refl
  changed_idle_from f i zero (suc m) (x ∷ xs) h l =
      let here : f i x ≡ x = h i x (omega arith) in
      rw here (ap (λ (r : List A). x ∷ r) (changed_idle_from f (suc i) zero m xs (λ (j : ℕ) (y : A) (q : suc i + 0 ≤ j). h j y (omega arith))
      (omega arith)))
  changed_idle_from f i (suc k) zero xs h l = absurd (not-suc-le-zero l)
  changed_idle_from f i (suc k) (suc m) [] h l = refl
  changed_idle_from f i (suc k) (suc m) (x ∷ xs) h l =
      ap (λ (r : List A). f i x ∷ r)
      (changed_idle_from f (suc i) k m xs (λ (j : ℕ) (y : A) (q : suc i + k ≤ j). h j y (omega arith)) (le_of_suc-le-suc l))

  -- from place k on f changes nothing
  pub changed_idle : (f : ℕ → A → A) (k m : ℕ) (xs : List A) → ((j : ℕ) (x : A) → k ≤ j → f j x ≡ x) → k ≤ m
      → changed_up_to f k xs ≡ changed_up_to f m xs
  changed_idle f k m xs h l = changed_idle_from f 0 k m xs (λ (j : ℕ) (y : A) (q : 0 + k ≤ j). h j y (omega arith)) l

  -- ---- the front of a row that is lent
  pub front_is : (n : ℕ) (row : List A) → take (n - 0) (drop 0 row) ≡ take n row
  front_is n row = let z : n - 0 ≡ n = omega arith in rw z

  pub length_front : (n : ℕ) (row : List A) → n ≤ length row → length (take (n - 0) (drop 0 row)) ≡ n
  length_front n row h = rw (front_is n row) (length-take-le n row h)

  -- the front was lent on, and came back as `new`: what part gives for m, which is how many were lent
  pub front_filled : (part : ℕ → List A) (n m : ℕ) (row new : List A) → m ≡ n → length (part n) ≡ n → new ≡ part m
      → put_mid 0 (n - 0) row new ≡ over (part n) row
  unfolding over
  front_filled part n m row new e l p = let z : n - 0 ≡ n = omega arith in rw (p, e, l, z)

-- ---- copied from another row

module _ {A B : Type 0} where
  map_tabulate_from : (g : A → B) (i n : ℕ) (f : ℕ → A) → map g (tabulate_from i n f) ≡ tabulate_from i n (λ (k : ℕ). g (f k))
  map_tabulate_from g i zero f = refl
  map_tabulate_from g i (suc n) f = ap (λ (l : List B). g (f i) ∷ l) (map_tabulate_from g (suc i) n f)

  pub map_tabulate : (g : A → B) (n : ℕ) (f : ℕ → A) → map g (tabulate n f) ≡ tabulate n (λ (k : ℕ). g (f k))
  map_tabulate g n f = map_tabulate_from g 0 n f

  -- one element more
  pub over_map_more : (g : A → B) (from : List A) (out : List B) (i : ℕ) (d : A) → i < length from → i < length out
      → set (over (map g (take i from)) out) i (g (get_or from i d)) ≡ over (map g (take (i + 1) from)) out
  over_map_more g from out i d h l =
      let n : length (map g (take i from)) ≡ i = length-map (take i from) g ∙ length-take-le i from (omega arith) in
      over_one_more (map g (take i from)) out i (g (get_or from i d)) n l ∙ ap (λ (m : List B). over m out) (sym (map_more g from i d h))

module _ {A B C : Type 0} where
  pub length_zip : (f : A → B → C) (xs : List A) (ys : List B) → length xs ≡ length ys → length (zip_with f xs ys) ≡ length ys
  length_zip f [] [] e = refl
  length_zip f [] (y ∷ ys) e = e
  length_zip f (x ∷ xs) [] e = refl
  length_zip f (x ∷ xs) (y ∷ ys) e = ap suc (length_zip f xs ys (omega arith))
