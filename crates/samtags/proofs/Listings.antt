-- From spots to listings: the listings of the groups that are left, and the drops that they allow.
-- Assumes nothing.
use mathlib.Core.Path.{◌≡◌, refl, sym, ap, ◌∙◌}
use Prim.Native.Nat.{ℕ, ◌-◌}
use mathlib.Core.Bool.{Bool, true, false, not, ◌&&◌}
use mathlib.Core.List.{List, [], ◌∷◌, map, map-map}
use Rattle.lent.specs.Lists.{every, any, filter, among}
use Rattle.lent.proofs.Tests.{by-test}
use Rattle.lent.proofs.Lists.{every_map, every_ext, every_not, map_ext}
use Rattle.samtags.specs.Text.{base_of, ends_in_question}
use Rattle.samtags.specs.Spots.{Spot, bare, call, place_of, Group, Call, calls_in, listing}
use Rattle.samtags.specs.Edits.{unlist}
use Rattle.samtags.specs.Session.{drop_calls}
use Rattle.samtags.specs.Meaning.{Sofar, base_stays, nearer, left_of_listing, lists_unmarked, refuses}
use Rattle.samtags.proofs.Read.{allowed, may_drop}
use Rattle.samtags.proofs.Steps.{moved}
use Rattle.samtags.proofs.Left.{left_of_group}

calls_moved : (a : ℕ) (ss : List Spot) → calls_in (map (moved a) ss) ≡ map (nearer a) (calls_in ss)
calls_moved a [] = refl
calls_moved a (bare p ∷ ss) = calls_moved a ss
calls_moved a (call p vs ∷ ss) = ap (λ (r : List Call). record { place = p - a; values = vs } ∷ r) (calls_moved a ss)

calls_left : (t named : ℕ → Bool) (ss : List Spot)
    → calls_in (filter (λ s. t (place_of s)) (map (unlist named) ss)) ≡ filter (λ (c : Call). t c.place && not (named c.place)) (calls_in ss)
calls_left t named [] = refl
calls_left t named (bare p ∷ ss) = by-test (t p) (λ e. rw e (calls_left t named ss)) (λ e. rw e (calls_left t named ss))
calls_left t named (call p vs ∷ ss) =
    by-test (named p)
    (λ n. rw n (by-test (t p) (λ e. rw e (calls_left t named ss)) (λ e. rw e (calls_left t named ss))))
    (λ n. rw n (by-test (t p) (λ e. rw (e, calls_left t named ss)) (λ e. rw e (calls_left t named ss))))

left_lists : (σ : Sofar) (g : Group) → listing (left_of_group σ g) ≡ left_of_listing σ (listing g)
unfolding left_of_group left_of_listing
left_lists σ g =
    let b = base_of g.header in
    ap (λ (cs : List Call). record { header = g.header; calls = cs })
    (calls_moved σ.front (filter (λ s. base_stays σ b (place_of s)) (map (unlist (among σ.drops)) g.spots))
    ∙ ap (map (nearer σ.front)) (calls_left (base_stays σ b) (among σ.drops) g.spots))

pub all_left : (σ : Sofar) (gs : List Group) → map listing (map (left_of_group σ) gs) ≡ map (left_of_listing σ) (map listing gs)
all_left σ gs =
    map-map listing (left_of_group σ) gs ∙ map_ext (λ g. listing (left_of_group σ g)) (λ g. left_of_listing σ (listing g)) (left_lists σ) gs ∙ sym (map-map (left_of_listing σ) listing gs)

and_never : (t : Bool) → not (t && false) ≡ true
and_never true = refl
and_never false = refl

-- a drop is open to a group exactly when its listing has no call that the drop must not take
open_same : (ps : List ℕ) (g : Group) → may_drop (among ps) g ≡ not (lists_unmarked ps (listing g))
unfolding may_drop lists_unmarked
open_same ps g = go (ends_in_question g.header) g.spots
  where
    go : (u : Bool) (ss : List Spot) → every (allowed (λ p. among ps p && not u)) ss ≡ not (any (λ (c : Call). among ps c.place) (calls_in ss) && not u)
    go true [] = refl
    go false [] = refl
    go u (bare p ∷ ss) = go u ss
    go true (call p vs ∷ ss) = by-test (among ps p) (λ e. rw e (go true ss ∙ and_never (any (λ (c : Call). among ps c.place) (calls_in ss)))) (λ e. rw e (go true ss))
    go false (call p vs ∷ ss) = by-test (among ps p) (λ e. rw e) (λ e. rw e (go false ss))

pub not_refused : (ps : List ℕ) (σ : Sofar) (gs : List Group)
    → every (may_drop (among ps)) (map (left_of_group σ) gs) ≡ not (refuses (map listing gs) (drop_calls ps) σ)
unfolding refuses
not_refused ps σ gs =
    every_ext (may_drop (among ps)) (λ g. not (lists_unmarked ps (listing g))) (open_same ps) (map (left_of_group σ) gs)
    ∙ sym (every_map (λ l. not (lists_unmarked ps l)) listing (map (left_of_group σ) gs))
    ∙ ap (every (λ l. not (lists_unmarked ps l))) (all_left σ gs)
    ∙ every_not (lists_unmarked ps) (map (left_of_listing σ) (map listing gs))
