-- What is left of a group after the steps so far. One more step turns it into what is left after that step.
-- Assumes nothing.
use mathlib.Core.Path.{◌≡◌, refl, sym, ap, ◌∙◌}
use Prim.Native.Nat.{ℕ, ◌+◌, ◌-◌, ◌≤◌, ◌<◌}
use native.Mathlib.Omega.{arith}
use mathlib.Core.Bool.{Bool, true, false, not, ◌&&◌, ◌||◌}
use mathlib.Core.List.{List, [], ◌∷◌, ◌++◌, map, map-map}
use lib.Dec.{leb, ltb, eqb}
use borrow.Author.Tests.{eqb-true, eq-eqb, le-leb, lt-ltb}
use Rattle.lent.specs.Lists.{filter, among}
use Rattle.lent.proofs.Tests.{by-test, and_true, and_true_l, and_true_r, test_ext}
use Rattle.lent.proofs.Lists.{filter_ext, filter_filter, filter_map, map_ext, map_kept, any_append}
use Rattle.samtags.specs.Bytes.{letter_n}
use Rattle.samtags.specs.Text.{base_of}
use Rattle.samtags.specs.Spots.{Spot, bare, call, place_of, Group}
use Rattle.samtags.specs.Edits.{unlist}
use Rattle.samtags.specs.Session.{mask, drop_calls, cut}
use Rattle.samtags.specs.Meaning.{Sofar, inside, base_stays, in_opening, taken}
use Rattle.samtags.proofs.Places.{unmasked, inside_true}
use Rattle.samtags.proofs.Steps.{moved, mask_group, drop_group, cut_group, place_unlist}

unfoldable pub left_of_group : Sofar → Group → Group
left_of_group σ g = record {
  header = g.header;
  spots = map (moved σ.front) (filter (λ s. base_stays σ (base_of g.header) (place_of s)) (map (unlist (among σ.drops)) g.spots));
}

-- ---- places that are counted from a on

pub among_append : (ms ns : List ℕ) (p : ℕ) → among (ms ++ ns) p ≡ among ms p || among ns p
among_append ms ns p = any_append (λ m. eqb m p) ms ns

pub among_shift : (a : ℕ) (ps : List ℕ) (p : ℕ) → among (map (λ q. a + q) ps) (a + p) ≡ among ps p
among_shift a [] p = refl
among_shift a (q ∷ ps) p = rw (same, among_shift a ps p)
  where
    same : eqb (a + q) (a + p) ≡ eqb q p
    same = test_ext (eqb (a + q) (a + p)) (eqb q p)
        (λ e. let h = eqb-true (a + q) (a + p) e in eq-eqb q p (omega arith))
        (λ e. let h = eqb-true q p e in eq-eqb (a + q) (a + p) (omega arith))

among_from : (a : ℕ) (ps : List ℕ) (p : ℕ) → a ≤ p → among ps (p - a) ≡ among (map (λ q. a + q) ps) p
among_from a ps p h =
    let e : a + (p - a) ≡ p = omega arith in
    sym (among_shift a ps (p - a)) ∙ ap (among (map (λ q. a + q) ps)) e

place_moved : (a : ℕ) (s : Spot) → place_of (moved a s) ≡ place_of s - a
place_moved a (bare p) = refl
place_moved a (call p vs) = refl

-- ---- a mask more

nots : (s t u : Bool) → t ≡ u → not s && not t ≡ not (s || u)
nots true t u e = refl
nots false t u e = ap not e

mask_point : (σ : Sofar) (ps : List ℕ) (b p : ℕ) → base_stays σ b p && unmasked (among ps) b (p - σ.front) ≡ base_stays (taken (mask ps) σ) b p
mask_point σ ps b p =
    by-test (inside σ.front σ.size p)
    (λ i. rw i (by-test (eqb b letter_n)
    (λ e. rw e)
    (λ e. rw (e, among_append σ.masks (in_opening σ ps) p)
    (nots (among σ.masks p) (among ps (p - σ.front)) (among (in_opening σ ps) p) (among_from σ.front ps p (inside_true σ.front σ.size p i).0)))))
    (λ i. rw i)

pub left_mask : (σ : Sofar) (ps : List ℕ) (g : Group) → mask_group (among ps) (left_of_group σ g) ≡ left_of_group (taken (mask ps) σ) g
unfolding left_of_group
left_mask σ ps g =
    let a = σ.front in
    let b = base_of g.header in
    let old = map (unlist (among σ.drops)) g.spots in
    let was : Spot → Bool = λ s. base_stays σ b (place_of s) in
    let now : Spot → Bool = λ s. unmasked (among ps) b (place_of s) in
    ap (λ (ss : List Spot). record { header = g.header; spots = ss })
    (filter_map now (moved a) (filter was old)
    ∙ ap (map (moved a))
    (filter_filter (λ s. now (moved a s)) was old
    ∙ filter_ext (λ s. was s && now (moved a s)) (λ s. base_stays (taken (mask ps) σ) b (place_of s)) (λ s. rw (place_moved a s) (mask_point σ ps b (place_of s))) old))

-- ---- a drop more

unlist_moved : (a : ℕ) (ps : List ℕ) (s : Spot) → a ≤ place_of s → unlist (among ps) (moved a s) ≡ moved a (unlist (among (map (λ q. a + q) ps)) s)
unlist_moved a ps (bare p) h = refl
unlist_moved a ps (call p vs) h =
    rw (among_from a ps p h) (by-test (among (map (λ q. a + q) ps) p) (λ e. rw e) (λ e. rw e))

unlist_unlist : (ms ns : List ℕ) (s : Spot) → unlist (among ns) (unlist (among ms) s) ≡ unlist (among (ms ++ ns)) s
unlist_unlist ms ns (bare p) = refl
unlist_unlist ms ns (call p vs) = rw (among_append ms ns p) (by-test (among ms p) (λ e. rw e) (λ e. rw e))

pub left_drop : (σ : Sofar) (ps : List ℕ) (g : Group) → drop_group (among ps) (left_of_group σ g) ≡ left_of_group (taken (drop_calls ps) σ) g
unfolding left_of_group
left_drop σ ps g =
    let a = σ.front in
    let b = base_of g.header in
    let old = map (unlist (among σ.drops)) g.spots in
    let was : Spot → Bool = λ s. base_stays σ b (place_of s) in
    let more : Spot → Spot = unlist (among (in_opening σ ps)) in
    ap (λ (ss : List Spot). record { header = g.header; spots = ss })
    (map-map (unlist (among ps)) (moved a) (filter was old)
    ∙ map_kept was (λ s. unlist (among ps) (moved a s)) (λ s. moved a (more s))
    (λ s e. unlist_moved a ps s (inside_true a σ.size (place_of s) (and_true_l (inside a σ.size (place_of s)) _ e)).0) old
    ∙ sym (map-map (moved a) more (filter was old))
    ∙ ap (map (moved a))
    (ap (map more) (filter_ext was (λ s. was (more s)) (λ s. rw (place_unlist (among (in_opening σ ps)) s)) old)
    ∙ sym (filter_map was more old)
    ∙ ap (filter was)
    (map-map more (unlist (among σ.drops)) g.spots
    ∙ map_ext (λ s. more (unlist (among σ.drops) s)) (unlist (among (σ.drops ++ in_opening σ ps))) (unlist_unlist σ.drops (in_opening σ ps)) g.spots)))

-- ---- a cut more

inside_inside : (a n f m p : ℕ) → f + m ≤ n → inside a n p && inside f m (p - a) ≡ inside (a + f) m p
inside_inside a n f m p h =
    test_ext (inside a n p && inside f m (p - a)) (inside (a + f) m p)
    (λ e.
    let i = inside_true a n p (and_true_l (inside a n p) (inside f m (p - a)) e) in
    let j = inside_true f m (p - a) (and_true_r (inside a n p) (inside f m (p - a)) e) in
    within (a + f) m p (omega arith) (omega arith))
    (λ e.
    let i = inside_true (a + f) m p e in
    and_true (inside a n p) (inside f m (p - a)) (within a n p (omega arith) (omega arith)) (within f m (p - a) (omega arith) (omega arith)))
  where
    within : (a n p : ℕ) → a ≤ p → p < a + n → inside a n p ≡ true
    within a n p l u = and_true (leb a p) (ltb p (a + n)) (le-leb a p l) (lt-ltb p (a + n) u)

and_swap : (s t u : Bool) → s && t && u ≡ s && u && t
and_swap true true true = refl
and_swap true true false = refl
and_swap true false true = refl
and_swap true false false = refl
and_swap false t u = refl

cut_point : (σ : Sofar) (f b base p : ℕ) → f + b ≤ σ.size
    → base_stays σ base p && inside f (σ.size - (f + b)) (p - σ.front) ≡ base_stays (taken (cut f b) σ) base p
cut_point σ f b base p h =
    and_swap (inside σ.front σ.size p) (eqb base letter_n || not (among σ.masks p)) (inside f (σ.size - (f + b)) (p - σ.front))
    ∙ ap (λ (t : Bool). t && (eqb base letter_n || not (among σ.masks p))) (inside_inside σ.front σ.size f (σ.size - (f + b)) p (omega arith))

moved_moved : (a f : ℕ) (s : Spot) → moved f (moved a s) ≡ moved (a + f) s
moved_moved a f (bare p) = ap bare (omega arith)
moved_moved a f (call p vs) = ap (λ (q : ℕ). call q vs) (omega arith)

pub left_cut : (σ : Sofar) (f b : ℕ) (g : Group) → f + b ≤ σ.size → cut_group f (σ.size - (f + b)) (left_of_group σ g) ≡ left_of_group (taken (cut f b) σ) g
unfolding left_of_group
left_cut σ f b g h =
    let a = σ.front in
    let base = base_of g.header in
    let old = map (unlist (among σ.drops)) g.spots in
    let was : Spot → Bool = λ s. base_stays σ base (place_of s) in
    let now : Spot → Bool = λ s. inside f (σ.size - (f + b)) (place_of s) in
    let new : Spot → Bool = λ s. base_stays (taken (cut f b) σ) base (place_of s) in
    ap (λ (ss : List Spot). record { header = g.header; spots = ss })
    (ap (map (moved f))
    (filter_map now (moved a) (filter was old)
    ∙ ap (map (moved a))
    (filter_filter (λ s. now (moved a s)) was old
    ∙ filter_ext (λ s. was s && now (moved a s)) new (λ s. rw (place_moved a s) (cut_point σ f b base (place_of s) h)) old))
    ∙ map-map (moved f) (moved a) (filter new old)
    ∙ map_ext (λ s. moved f (moved a s)) (moved (a + f)) (moved_moved a f) (filter new old))
