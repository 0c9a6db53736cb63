-- The tracked places of a SEQ after it is masked or cut.
-- Assumes nothing.
use mathlib.Core.Path.{◌≡◌, refl, sym, ap, subst, ◌∙◌}
use Prim.Native.Nat.{ℕ, zero, suc, ◌+◌, ◌-◌, ◌≤◌, ◌<◌}
use native.Mathlib.Omega.{arith}
use mathlib.Core.Bool.{Bool, true, false, cond, not, ◌&&◌, ◌||◌, or-true}
use mathlib.Core.List.{List, [], ◌∷◌, map}
use lib.ListN.{length, get_or, take, drop, length-drop}
use lib.Seq.{get_or-drop, get_or-take, length-take-le, drop-nil}
use lib.Dec.{leb, ltb, eqb}
use borrow.Author.Tests.{ltb-true, le-leb, lt-ltb, le-ltb, leb-true, leb-false}
use Rattle.lent.specs.Lists.{filter}
use Rattle.lent.proofs.Tests.{by-test, and_true, and_true_l, and_true_r, test_ext, eqb_sym}
use Rattle.lent.proofs.Lists.{drop_step, get_d_step, Agree, agree_imp, filter_ext, filter_filter, filter_map}
use Rattle.samtags.specs.Bytes.{letter_n}
use Rattle.samtags.specs.Spots.{holds, places_from, tracked}
use Rattle.samtags.specs.Session.{mask_from, masked, window}
use Rattle.samtags.specs.Meaning.{inside}

-- ---- places of the bytes that pass a test

-- how many there are
pub places_length : (t : ℕ → Bool) (i : ℕ) (xs : List ℕ) → length (places_from t i xs) ≤ length xs
places_length t i [] = omega arith
places_length t i (x ∷ xs) =
    by-test (t x) (λ e. rw e (omega (arith, places_length t (suc i) xs))) (λ e. rw e (omega (arith, places_length t (suc i) xs)))

-- the byte at each passes
pub places_pass : (t : ℕ → Bool) (i : ℕ) (xs whole : List ℕ) → drop i whole ≡ xs → Agree (λ p. t (get_or whole p 0)) (λ p. true) (places_from t i xs)
places_pass t i [] whole e = tt
places_pass t i (x ∷ xs) whole e =
    let rest = places_pass t (suc i) xs whole (drop_step i whole e) in
    by-test (t x) (λ h. rw h (ap t (get_d_step i whole 0 e) ∙ h, rest)) (λ h. rw h rest)

-- the places from a on, a nearer to the front
places_drop : (t : ℕ → Bool) (a i : ℕ) (xs : List ℕ) → map (λ p. p - a) (filter (leb a) (places_from t i xs)) ≡ places_from t (i - a) (drop (a - i) xs)
places_drop t a i [] = rw drop-nil
places_drop t a i (x ∷ xs) =
    let ih = places_drop t a (suc i) xs in
    by-test (leb a i)
    (λ e.
    let l : a ≤ i = leb-true a i e in
    let z : a - i ≡ 0 = omega arith in
    let y : a - suc i ≡ 0 = omega arith in
    let w : suc i - a ≡ suc (i - a) = omega arith in
    let ih' = rw (y, w) at ih in
    by-test (t x) (λ h. rw (z, h, e, ih')) (λ h. rw (z, h) ih'))
    (λ e.
    let l : i < a = leb-false a i e in
    let z : a - i ≡ suc (a - suc i) = omega arith in
    let y : i - a ≡ suc i - a = omega arith in
    by-test (t x) (λ h. rw (z, y, h, e) ih) (λ h. rw (z, y, h) ih))

places_none : (t : ℕ → Bool) (m i : ℕ) (xs : List ℕ) → m ≤ i → filter (λ p. ltb p m) (places_from t i xs) ≡ []
places_none t m i [] h = refl
places_none t m i (x ∷ xs) h =
    by-test (t x)
    (λ e. rw (e, le-ltb i m h) (places_none t m (suc i) xs (omega arith)))
    (λ e. rw e (places_none t m (suc i) xs (omega arith)))

-- the places of the first n bytes
places_take : (t : ℕ → Bool) (n i : ℕ) (xs : List ℕ) → filter (λ p. ltb p (i + n)) (places_from t i xs) ≡ places_from t i (take n xs)
places_take t zero i xs = places_none t (i + 0) i xs (omega arith)
places_take t (suc n) i [] = refl
places_take t (suc n) i (x ∷ xs) =
    let next : i + suc n ≡ suc i + n = omega arith in
    let rest : filter (λ p. ltb p (i + suc n)) (places_from t (suc i) xs) ≡ places_from t (suc i) (take n xs) =
    subst (λ (m : ℕ). filter (λ p. ltb p m) (places_from t (suc i) xs) ≡ places_from t (suc i) (take n xs)) (sym next) (places_take t n (suc i) xs) in
    by-test (t x)
    (λ e. rw (e, lt-ltb i (i + suc n) (omega arith)) (ap (λ (r : List ℕ). i ∷ r) rest))
    (λ e. rw e rest)

places_below : (t : ℕ → Bool) (m i : ℕ) (xs : List ℕ) → i + length xs ≤ m → Agree (inside 0 m) (λ p. true) (places_from t i xs)
places_below t m i [] h = tt
places_below t m i (x ∷ xs) h =
    let rest = places_below t m (suc i) xs (omega arith) in
    by-test (t x)
    (λ e. rw e (and_true (leb 0 i) (ltb i (0 + m)) (le-leb 0 i (omega arith)) (lt-ltb i (0 + m) (omega arith)), rest))
    (λ e. rw e rest)

-- each tracked place lies in SEQ
pub tracked_inside : (b : ℕ) (seq : List ℕ) → Agree (inside 0 (length seq)) (λ p. true) (tracked b seq)
unfolding tracked
tracked_inside b seq = places_below (holds b) (length seq) 0 seq (omega arith)

-- ---- masked

-- the places of b's that a mask at the places of t leaves; a group on any base outlives masking
abbrev pub unmasked : (ℕ → Bool) → ℕ → ℕ → Bool
unmasked t b p = eqb b letter_n || not (t p)

-- a byte that held b holds it after masking exactly when it was not masked
holds_masked : (b x : ℕ) (t : Bool) → holds b x ≡ true → holds b (cond t letter_n x) ≡ eqb b letter_n || not t
unfolding holds
holds_masked b x false h = h ∙ sym (or-true (eqb b letter_n))
holds_masked b x true h = rw (eqb_sym letter_n b) (by-test (eqb b letter_n) (λ e. rw e) (λ e. rw e))

holds_masked_not : (b x : ℕ) (t : Bool) → holds b x ≡ false → holds b (cond t letter_n x) ≡ false
unfolding holds
holds_masked_not b x false h = h
holds_masked_not b x true h =
    rw (eqb_sym letter_n b) (by-test (eqb b letter_n) (λ e. rw e (rw e at h)) (λ e. rw e))

masked_places : (t : ℕ → Bool) (i b : ℕ) (xs : List ℕ) → filter (unmasked t b) (places_from (holds b) i xs) ≡ places_from (holds b) i (mask_from i t xs)
masked_places t i b [] = refl
masked_places t i b (x ∷ xs) =
    by-test (holds b x)
    (λ h. rw (h, holds_masked b x (t i) h, masked_places t (suc i) b xs))
    (λ h. rw (h, holds_masked_not b x (t i) h) (masked_places t (suc i) b xs))

masked_test : (t : ℕ → Bool) (i b : ℕ) (xs whole : List ℕ) → drop i whole ≡ mask_from i t xs
    → Agree (λ p. holds b (get_or whole p 0)) (unmasked t b) (places_from (holds b) i xs)
masked_test t i b [] whole e = tt
masked_test t i b (x ∷ xs) whole e =
    let rest = masked_test t (suc i) b xs whole (drop_step i whole e) in
    by-test (holds b x) (λ h. rw h (ap (holds b) (get_d_step i whole 0 e) ∙ holds_masked b x (t i) h, rest)) (λ h. rw h rest)

-- the tracked places after masking
pub tracked_masked : (t : ℕ → Bool) (b : ℕ) (seq : List ℕ) → filter (unmasked t b) (tracked b seq) ≡ tracked b (masked t seq)
unfolding tracked
tracked_masked t b seq = masked_places t 0 b seq

-- the test that a mask edit makes, at the tracked places
pub mask_test : (t : ℕ → Bool) (b : ℕ) (seq : List ℕ) → Agree (λ p. holds b (get_or (masked t seq) p 0)) (unmasked t b) (tracked b seq)
unfolding tracked
mask_test t b seq = masked_test t 0 b seq (masked t seq) refl

-- ---- cut

pub inside_true : (a n p : ℕ) → inside a n p ≡ true → (a ≤ p) × (p < a + n)
inside_true a n p e = (leb-true a p (and_true_l (leb a p) (ltb p (a + n)) e), ltb-true p (a + n) (and_true_r (leb a p) (ltb p (a + n)) e))

-- the tracked places after cutting
pub tracked_window : (a n b : ℕ) (seq : List ℕ) → map (λ p. p - a) (filter (inside a n) (tracked b seq)) ≡ tracked b (window a n seq)
unfolding tracked
tracked_window a n b seq =
    let z : 0 - a ≡ 0 = omega arith in
    let y : a - 0 ≡ a = omega arith in
    let w : 0 + n ≡ n = omega arith in
    let cut-front = rw (z, y) at (places_drop (holds b) a 0 seq) in
    let t : ℕ → Bool = λ p. ltb p n in
    let cut-back = rw w at (places_take (holds b) n 0 (drop a seq)) in
    sym (
    sym cut-back
    ∙ ap (filter t) (sym cut-front)
    ∙ filter_map t (λ p. p - a) (filter (leb a) (places_from (holds b) 0 seq))
    ∙ ap (map (λ p. p - a)) (filter_filter (λ p. t (p - a)) (leb a) (places_from (holds b) 0 seq)
    ∙ filter_ext (λ p. leb a p && t (p - a)) (inside a n) (λ p. both p) (places_from (holds b) 0 seq)))
  where
    both : (p : ℕ) → leb a p && ltb (p - a) n ≡ inside a n p
    both p =
        by-test (leb a p)
        (λ e. let l : a ≤ p = leb-true a p e in
        rw e (test_ext (ltb (p - a) n) (ltb p (a + n))
        (λ u. let v : p - a < n = ltb-true (p - a) n u in lt-ltb p (a + n) (omega arith))
        (λ u. let v : p < a + n = ltb-true p (a + n) u in lt-ltb (p - a) n (omega arith))))
        (λ e. rw e)

-- the test that a window edit makes, at the tracked places
pub window_test : (a n b : ℕ) (seq : List ℕ) → a + n ≤ length seq
    → Agree (λ p. leb a p && ltb p (a + length (window a n seq)) && holds b (get_or (window a n seq) (p - a) 0)) (inside a n) (tracked b seq)
unfolding tracked
window_test a n b seq h = agree_imp _ _ _ _ here (places_from (holds b) 0 seq) (places_pass (holds b) 0 seq seq refl)
  where
    size : length (window a n seq) ≡ n
    size = length-take-le n (drop a seq) (omega (arith, length-drop a seq))

    here : (p : ℕ) → holds b (get_or seq p 0) ≡ true → leb a p && ltb p (a + length (window a n seq)) && holds b (get_or (window a n seq) (p - a) 0) ≡ inside a n p
    here p e =
        rw size
        (by-test (inside a n p)
        (λ i.
        let l = inside_true a n p i in
        let back : a + (p - a) ≡ p = omega arith in
        rw (i, get_or-take n (drop a seq) (p - a) 0 (omega arith), get_or-drop a seq (p - a) 0, back, e))
        (λ i. rw i))
