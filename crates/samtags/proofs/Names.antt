-- The tracked places are those that SAMtags' count names: the place with m bases of the kind before it is the m-th tracked place, and the other way round.
-- Assumes nothing.
use mathlib.Core.Path.{◌≡◌, refl, sym, ap, ◌∙◌}
use Prim.Native.Nat.{ℕ, zero, suc, ◌+◌, ◌-◌, ◌≤◌, ◌<◌}
use native.Mathlib.Omega.{arith}
use mathlib.Core.Bool.{Bool, true, false, cond, ◌&&◌}
use mathlib.Core.List.{List, [], ◌∷◌}
use lib.ListN.{length, get_or, take}
use lib.Dec.{leb, eqb}
use borrow.Author.Tests.{leb-true, lt-leb, eqb-true}
use Rattle.lent.specs.Lists.{every, filter}
use Rattle.lent.proofs.Tests.{by-test, and_true_l, and_true_r}
use Rattle.pattern.specs.Case.{upper, same_in_any_case}
use Rattle.samtags.specs.Text.{base_of}
use Rattle.samtags.specs.Spots.{holds, places_from, tracked}
use Rattle.samtags.specs.Samtags.{letter_u, of_kind, kind_before, Names}

-- ---- the m-th byte that passes a test

record Nth (t : ℕ → Bool) (xs : List ℕ) (m p : ℕ) : Type 0 where
  there : p < length xs
  passes : t (get_or xs p 0) ≡ true
  before : length (filter t (take p xs)) ≡ m

-- one byte further from the front
further : (t : ℕ → Bool) (x : ℕ) (xs : List ℕ) (m p : ℕ) → Nth t xs m p → Nth t (x ∷ xs) (cond (t x) (suc m) m) (suc p)
further t x xs m p n =
    by-test (t x)
    (λ e. rw e (record { there = omega (arith, n.there); passes = n.passes; before = rw e (ap suc n.before) }))
    (λ e. rw e (record { there = omega (arith, n.there); passes = n.passes; before = rw e n.before }))

-- the m-th of the places is that of the m-th byte that passes
abbrev PlaceIs : (ℕ → Bool) → ℕ → List ℕ → ℕ → Type 0
PlaceIs t i xs m = (p : ℕ) × (get_or (places_from t i xs) m 0 ≡ i + p) × Nth t xs m p

module _ (t : ℕ → Bool) (i x : ℕ) (xs : List ℕ) where
  at_head : t x ≡ true → PlaceIs t i (x ∷ xs) 0
  at_head e = (0, rw e (omega arith), record { there = omega arith; passes = e; before = refl })

  past_hit : t x ≡ true → (m : ℕ) → PlaceIs t (suc i) xs m → PlaceIs t i (x ∷ xs) (suc m)
  past_hit e m (p, q, n) =
      let s : suc i + p ≡ i + suc p = omega arith in
      (suc p, rw e (q ∙ s), rw e at (further t x xs m p n))

  past_miss : t x ≡ false → (m : ℕ) → PlaceIs t (suc i) xs m → PlaceIs t i (x ∷ xs) m
  past_miss e m (p, q, n) =
      let s : suc i + p ≡ i + suc p = omega arith in
      (suc p, rw e (q ∙ s), rw e at (further t x xs m p n))

place_is : (t : ℕ → Bool) (i : ℕ) (xs : List ℕ) (m : ℕ) → m < length (places_from t i xs) → PlaceIs t i xs m
place_is t i [] m h = let z : ⊥ = omega arith in absurd z
place_is t i (x ∷ xs) m h = by_head (t x) refl m (place_is t (suc i) xs) h
  where
    by_head : (b : Bool) → t x ≡ b → (m : ℕ) → ((m : ℕ) → m < length (places_from t (suc i) xs) → PlaceIs t (suc i) xs m)
        → m < length (places_from t i (x ∷ xs)) → PlaceIs t i (x ∷ xs) m
    by_head true e zero ih h = at_head t i x xs e
    by_head true e (suc m) ih h = past_hit t i x xs e m (ih m (omega (arith, rw e at h)))
    by_head false e m ih h = past_miss t i x xs e m (ih m (rw e at h))

is_place : (t : ℕ → Bool) (i : ℕ) (xs : List ℕ) (m p : ℕ) → Nth t xs m p → (m < length (places_from t i xs)) × (get_or (places_from t i xs) m 0 ≡ i + p)
is_place t i [] m p n = let z : ⊥ = omega (arith, n.there) in absurd z
is_place t i (x ∷ xs) m zero n =
    let z : m ≡ 0 = sym n.before in
    rw (n.passes, z) (omega arith, omega arith)
is_place t i (x ∷ xs) m (suc p) n =
    by-test (t x)
    (λ e.
    let w : suc (length (filter t (take p xs))) ≡ m = rw e at n.before in
    let r = is_place t (suc i) xs (length (filter t (take p xs))) p (record { there = omega (arith, n.there); passes = n.passes; before = refl }) in
    rw (← w, e) (omega (arith, r.0), r.1 ∙ omega arith))
    (λ e.
    let r = is_place t (suc i) xs m p (record { there = omega (arith, n.there); passes = n.passes; before = rw e at n.before }) in
    rw e (r.0, r.1 ∙ omega arith))

-- ---- a byte of a kind

-- SEQ is in upper case
abbrev pub upper_case : List ℕ → Bool
upper_case seq = every (λ x. eqb (upper x) x) seq

upper_upper : (b : ℕ) → upper (upper b) ≡ upper b
unfolding upper
upper_upper b =
    by-test (leb 97 b && leb b 122)
    (λ e.
    let lo : 97 ≤ b = leb-true 97 b (and_true_l (leb 97 b) (leb b 122) e) in
    let hi : b ≤ 122 = leb-true b 122 (and_true_r (leb 97 b) (leb b 122) e) in
    rw (e, lt-leb 97 (b - 32) (omega arith)))
    (λ e. rw (e, e))

-- a header's base is in upper case
pub base_upper : (h : List ℕ) → upper (base_of h) ≡ base_of h
unfolding base_of
base_upper h = upper_upper (get_or h 0 0)

kind_holds : (b x : ℕ) → upper b ≡ b → eqb b letter_u ≡ false → upper x ≡ x → of_kind b x ≡ holds b x
unfolding of_kind holds same_in_any_case
kind_holds b x ub nu ux = rw (nu, ub, ux)

-- ---- the tracked places of an upper-case SEQ

module _ (b : ℕ) (ub : upper b ≡ b) (nu : eqb b letter_u ≡ false) where
  kind_filter : (xs : List ℕ) → upper_case xs ≡ true → (p : ℕ) → filter (of_kind b) (take p xs) ≡ filter (holds b) (take p xs)
  kind_filter [] u zero = refl
  kind_filter [] u (suc p) = refl
  kind_filter (x ∷ xs) u zero = refl
  kind_filter (x ∷ xs) u (suc p) =
      rw (kind_holds b x ub nu (eqb-true (upper x) x (and_true_l (eqb (upper x) x) (upper_case xs) u)), kind_filter xs (and_true_r (eqb (upper x) x) (upper_case xs) u) p)

  kind_at : (xs : List ℕ) → upper_case xs ≡ true → (p : ℕ) → p < length xs → of_kind b (get_or xs p 0) ≡ holds b (get_or xs p 0)
  kind_at [] u p h = let z : ⊥ = omega arith in absurd z
  kind_at (x ∷ xs) u zero h = kind_holds b x ub nu (eqb-true (upper x) x (and_true_l (eqb (upper x) x) (upper_case xs) u))
  kind_at (x ∷ xs) u (suc p) h = kind_at xs (and_true_r (eqb (upper x) x) (upper_case xs) u) p (omega arith)

  -- the m-th tracked place is the one with m bases of the kind before it
  pub tracked_names : (seq : List ℕ) → upper_case seq ≡ true → (m : ℕ) → m < length (tracked b seq) → Names b seq m (get_or (tracked b seq) m 0)
  unfolding tracked kind_before
  tracked_names seq u m h =
      let r = place_is (holds b) 0 seq m h in
      let n = r.2 in
      let e : get_or (places_from (holds b) 0 seq) m 0 ≡ r.0 = r.1 ∙ omega arith in
      rw e (record {
        there = n.there;
        kind = kind_at seq u r.0 n.there ∙ n.passes;
        before = rw (kind_filter seq u r.0) n.before;
      })

  -- and there is no other
  pub names_tracked : (seq : List ℕ) → upper_case seq ≡ true → (m p : ℕ) → Names b seq m p → (m < length (tracked b seq)) × (get_or (tracked b seq) m 0 ≡ p)
  unfolding tracked kind_before
  names_tracked seq u m p n =
      let r = is_place (holds b) 0 seq m p (record {
        there = n.there;
        passes = sym (kind_at seq u p n.there) ∙ n.kind;
        before = rw (kind_filter seq u p) at n.before;
      }) in
      (r.0, r.1 ∙ omega arith)

-- a count names at most one place
pub names_one : (b : ℕ) (seq : List ℕ) (m p q : ℕ) → Names b seq m p → Names b seq m q → p ≡ q
unfolding kind_before
names_one b seq m p q n k =
    let r = (is_place (of_kind b) 0 seq m p (record { there = n.there; passes = n.kind; before = n.before })).1 in
    let s = (is_place (of_kind b) 0 seq m q (record { there = k.there; passes = k.kind; before = k.before })).1 in
    omega arith
