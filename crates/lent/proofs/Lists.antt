-- Laws of the tests over a list, of lists that are known from an index on, and of the tests at a loop's index.
-- Assumes nothing.
use mathlib.Core.Path.{◌≡◌, refl, sym, ap, ◌∙◌}
use mathlib.Core.Bool.{Bool, true, false, cond, not, ◌&&◌, ◌||◌}
use mathlib.Core.List.{List, [], ◌∷◌, ◌++◌, map, append_assoc, map-append}
use Prim.Native.Nat.{ℕ, zero, suc, ◌+◌, ◌-◌, ◌≤◌, ◌<◌}
use native.Mathlib.Nat.{suc-ne-zero}
use native.Mathlib.Numerals.{add-one}
use native.Mathlib.Omega.{arith}
use lib.ListN.{length, length-append, get_or, take, drop, drop_of_length-le}
use lib.Seq.{drop-cons, take-nil, take-suc}
use Rattle.lent.specs.Lists.{every, any, filter, last_or, concat_map}
use Rattle.lent.proofs.Tests.{by-test, and_true, and_true_l, and_true_r}

module _ {A : Type 0} where
  -- ---- every, any

  pub every_append : (t : A → Bool) (xs ys : List A) → every t (xs ++ ys) ≡ every t xs && every t ys
  every_append t [] ys = refl
  every_append t (x ∷ xs) ys = by-test (t x) (λ e. rw e (every_append t xs ys)) (λ e. rw e)

  pub every_imp : (s t : A → Bool) → ((x : A) → s x ≡ true → t x ≡ true) → (xs : List A) → every s xs ≡ true → every t xs ≡ true
  every_imp s t f [] e = refl
  every_imp s t f (x ∷ xs) e =
      and_true (t x) (every t xs) (f x (and_true_l (s x) (every s xs) e)) (every_imp s t f xs (and_true_r (s x) (every s xs) e))

  pub every_ext : (s t : A → Bool) → ((x : A) → s x ≡ t x) → (xs : List A) → every s xs ≡ every t xs
  every_ext s t h [] = refl
  every_ext s t h (x ∷ xs) = rw (h x, every_ext s t h xs)

  pub every_not : (t : A → Bool) (xs : List A) → every (λ x. not (t x)) xs ≡ not (any t xs)
  every_not t [] = refl
  every_not t (x ∷ xs) = by-test (t x) (λ e. rw e) (λ e. rw e (every_not t xs))

  pub every_filter : (t s : A → Bool) (xs : List A) → every t xs ≡ true → every t (filter s xs) ≡ true
  every_filter t s [] h = refl
  every_filter t s (x ∷ xs) h =
      let rest = every_filter t s xs (and_true_r (t x) (every t xs) h) in
      by-test (s x) (λ e. rw e (and_true (t x) (every t (filter s xs)) (and_true_l (t x) (every t xs) h) rest)) (λ e. rw e rest)

  -- at a place of the whole list: past its end, at an element that passes, at one that does not
  pub every_end : (t : A → Bool) (l : List A) (i : ℕ) → length l ≤ i → every t (drop i l) ≡ true
  every_end t l i h = rw (drop_of_length-le l h)

  pub every_on : (t : A → Bool) (l : List A) (i : ℕ) (d : A) → i < length l → t (get_or l i d) ≡ true → every t (drop i l) ≡ every t (drop (i + 1) l)
  every_on t l i d h e = simp (add-one, drop-cons l i d h, e)

  pub every_stop : (t : A → Bool) (l : List A) (i : ℕ) (d : A) → i < length l → t (get_or l i d) ≡ false → every t (drop i l) ≡ false
  every_stop t l i d h e = simp (drop-cons l i d h, e)

  pub any_append : (t : A → Bool) (xs ys : List A) → any t (xs ++ ys) ≡ any t xs || any t ys
  any_append t [] ys = refl
  any_append t (x ∷ xs) ys = by-test (t x) (λ e. rw e) (λ e. rw e (any_append t xs ys))

  -- ---- filter

  -- two tests agree on each element
  abbrev pub Agree : (A → Bool) → (A → Bool) → List A → Type 0
  Agree s t [] = Unit {0}
  Agree s t (x ∷ xs) = (s x ≡ t x) × Agree s t xs

  pub agree_all : (s t : A → Bool) → ((x : A) → s x ≡ t x) → (xs : List A) → Agree s t xs
  agree_all s t f [] = tt
  agree_all s t f (x ∷ xs) = (f x, agree_all s t f xs)

  pub agree_imp : (s t s' t' : A → Bool) → ((x : A) → s x ≡ t x → s' x ≡ t' x) → (xs : List A) → Agree s t xs → Agree s' t' xs
  agree_imp s t s' t' f [] g = tt
  agree_imp s t s' t' f (x ∷ xs) g = (f x g.0, agree_imp s t s' t' f xs g.1)

  pub filter_agree : (s t : A → Bool) (xs : List A) → Agree s t xs → filter s xs ≡ filter t xs
  filter_agree s t [] a = refl
  filter_agree s t (x ∷ xs) a = rw (a.0, filter_agree s t xs a.1)

  pub filter_ext : (s t : A → Bool) → ((x : A) → s x ≡ t x) → (xs : List A) → filter s xs ≡ filter t xs
  filter_ext s t f xs = filter_agree s t xs (agree_all s t f xs)

  pub filter_all : (xs : List A) → filter (λ x. true) xs ≡ xs
  filter_all [] = refl
  filter_all (x ∷ xs) = ap (λ (r : List A). x ∷ r) (filter_all xs)

  pub filter_filter : (s t : A → Bool) (xs : List A) → filter s (filter t xs) ≡ filter (λ x. t x && s x) xs
  filter_filter s t [] = refl
  filter_filter s t (x ∷ xs) =
      by-test (t x)
      (λ e. rw e (by-test (s x) (λ u. rw (u, filter_filter s t xs)) (λ u. rw u (filter_filter s t xs))))
      (λ e. rw e (filter_filter s t xs))

  pub filter_append : (t : A → Bool) (xs ys : List A) → filter t (xs ++ ys) ≡ filter t xs ++ filter t ys
  filter_append t [] ys = refl
  filter_append t (x ∷ xs) ys =
      by-test (t x) (λ e. rw (e, filter_append t xs ys)) (λ e. rw e (filter_append t xs ys))

  pub filter_length : (t : A → Bool) (xs : List A) → length (filter t xs) ≤ length xs
  filter_length t [] = omega arith
  filter_length t (x ∷ xs) = by-test (t x) (λ e. rw e (omega (arith, filter_length t xs))) (λ e. rw e (omega (arith, filter_length t xs)))

  -- ---- the last element

  pub last_or_append : (d : A) (xs ys : List A) → last_or d (xs ++ ys) ≡ last_or (last_or d xs) ys
  last_or_append d [] ys = refl
  last_or_append d (x ∷ xs) ys = last_or_append x xs ys

  -- ---- a list that is known from place n on

  pub drop_here : (l : List A) (i : ℕ) (d : A) → i < length l → drop i l ≡ get_or l i d ∷ drop (i + 1) l
  drop_here l i d h = rw add-one (drop-cons l i d h)

  pub drop_step : (n : ℕ) (xs : List A) {y : A} {ys : List A} → drop n xs ≡ y ∷ ys → drop (suc n) xs ≡ ys
  drop_step zero xs e = ap (drop 1) e
  drop_step (suc n) [] e = cc
  drop_step (suc n) (x ∷ xs) e = drop_step n xs e

  pub take_step : (n : ℕ) (xs : List A) {y : A} {ys : List A} → drop n xs ≡ y ∷ ys → take (suc n) xs ≡ take n xs ++ y ∷ []
  take_step zero xs e = ap (take 1) e
  take_step (suc n) [] e = cc
  take_step (suc n) (x ∷ xs) e = ap (λ (r : List A). x ∷ r) (take_step n xs e)

  -- ---- the first elements of a list, with one more

  pub take_more : (l : List A) (i : ℕ) (d : A) → i < length l → take (i + 1) l ≡ take i l ++ get_or l i d ∷ []
  take_more l i d h = rw add-one (take_step i l (drop_here l i d h))

  pub every_more : (t : A → Bool) (l : List A) (i : ℕ) (d : A) → i < length l → every t (take (i + 1) l) ≡ every t (take i l) && t (get_or l i d)
  every_more t l i d h =
      rw (take_more l i d h, every_append t (take i l) (get_or l i d ∷ [])) (by-test (t (get_or l i d)) (λ q. rw q) (λ q. rw q))

  -- how many of them pass a test
  pub count_more : (t : A → Bool) (l : List A) (i : ℕ) (d : A) → i < length l
      → length (filter t (take (i + 1) l)) ≡ length (filter t (take i l)) + cond (t (get_or l i d)) 1 0
  count_more t l i d h =
      rw (take_more l i d h, filter_append t (take i l) (get_or l i d ∷ []), length-append (filter t (take i l)) (filter t (get_or l i d ∷ [])))
      (by-test (t (get_or l i d)) (λ q. rw q) (λ q. rw q))

  pub get_d_step : (n : ℕ) (xs : List A) (d : A) {y : A} {ys : List A} → drop n xs ≡ y ∷ ys → get_or xs n d ≡ y
  get_d_step zero xs d e = ap (λ (l : List A). get_or l 0 d) e
  get_d_step (suc n) [] d e = cc
  get_d_step (suc n) (x ∷ xs) d e = get_d_step n xs d e

  -- a list that has more from place n on is longer than n
  pub drop_more : (n : ℕ) (xs : List A) {y : A} {ys : List A} → drop n xs ≡ y ∷ ys → n < length xs
  drop_more zero [] e = let z : ◌≡◌ {A = ℕ} 0 1 = cc in absurd (omega arith)
  drop_more zero (x ∷ xs) e = omega arith
  drop_more (suc n) [] e = let z : ◌≡◌ {A = ℕ} 0 1 = cc in absurd (omega arith)
  drop_more (suc n) (x ∷ xs) e = omega (arith, drop_more n xs e)

  pub take_whole : (n : ℕ) (xs : List A) → drop n xs ≡ [] → take n xs ≡ xs
  take_whole zero xs e = sym e
  take_whole (suc n) [] e = refl
  take_whole (suc n) (x ∷ xs) e = ap (λ (r : List A). x ∷ r) (take_whole n xs e)

  pub drop_take : (f n : ℕ) (xs : List A) → drop f (take n xs) ≡ take (n - f) (drop f xs)
  drop_take zero n xs = let e : n ≡ n - 0 = omega arith in ap (λ (k : ℕ). take k xs) e
  drop_take (suc f) zero xs = let z : 0 - suc f ≡ 0 = omega arith in rw z
  drop_take (suc f) (suc n) [] = sym (take-nil (suc n - suc f))
  drop_take (suc f) (suc n) (x ∷ xs) = let e : n - f ≡ suc n - suc f = omega arith in drop_take f n xs ∙ ap (λ (k : ℕ). take k (drop f xs)) e

  pub empty_of_length : (xs : List A) → length xs ≡ 0 → xs ≡ []
  empty_of_length [] e = refl
  empty_of_length (x ∷ xs) e = absurd (suc-ne-zero (length xs) e)

module _ {A B : Type 0} where
  pub every_map : (t : B → Bool) (f : A → B) (xs : List A) → every t (map f xs) ≡ every (λ x. t (f x)) xs
  every_map t f [] = refl
  every_map t f (x ∷ xs) = ap (λ (r : Bool). t (f x) && r) (every_map t f xs)

  pub filter_map : (t : B → Bool) (f : A → B) (xs : List A) → filter t (map f xs) ≡ map f (filter (λ x. t (f x)) xs)
  filter_map t f [] = refl
  filter_map t f (x ∷ xs) = by-test (t (f x)) (λ e. rw (e, filter_map t f xs)) (λ e. rw e (filter_map t f xs))

  pub map_ext : (f g : A → B) → ((x : A) → f x ≡ g x) → (xs : List A) → map f xs ≡ map g xs
  map_ext f g h [] = refl
  map_ext f g h (x ∷ xs) = rw (h x, map_ext f g h xs)

  -- one element more of a list that a loop maps
  pub map_more : (f : A → B) (l : List A) (i : ℕ) (d : A) → i < length l → map f (take (i + 1) l) ≡ map f (take i l) ++ (f (get_or l i d) ∷ [])
  map_more f l i d h = rw (add-one, take-suc l i d h) (map-append f (take i l) (get_or l i d ∷ []))

  -- two functions that agree on what passes the test
  pub map_kept : (t : A → Bool) (f g : A → B) → ((x : A) → t x ≡ true → f x ≡ g x) → (xs : List A) → map f (filter t xs) ≡ map g (filter t xs)
  map_kept t f g h [] = refl
  map_kept t f g h (x ∷ xs) = by-test (t x) (λ e. rw (e, h x e, map_kept t f g h xs)) (λ e. rw e (map_kept t f g h xs))

  pub concat_map_append : (f : A → List B) (xs ys : List A) → concat_map f (xs ++ ys) ≡ concat_map f xs ++ concat_map f ys
  concat_map_append f [] ys = refl
  concat_map_append f (x ∷ xs) ys = rw (concat_map_append f xs ys) (sym (append_assoc (f x) (concat_map f xs) (concat_map f ys)))
