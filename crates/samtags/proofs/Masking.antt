-- A mask edit whose `after` differs from `before` only by N keeps every other call on its base. A counterexample shows that a call can move if `after`
-- gains a letter.
-- Assumes nothing.
use Rattle.std.specs.Prelude.{Ok}
use mathlib.Core.Path.{◌≡◌, refl, sym, ap, ◌∙◌}
use Prim.Native.Nat.{ℕ, suc}
use mathlib.Core.Bool.{Bool, true, false, cond, ◌&&◌, ◌||◌}
use mathlib.Core.List.{List, [], ◌∷◌, map, map-map}
use lib.ListN.{get_or, drop}
use lib.Dec.{eqb}
use borrow.Author.Tests.{eqb-true}
use Rattle.lent.specs.Lists.{filter}
use Rattle.lent.proofs.Tests.{by-test, and_true_l, and_true_r}
use Rattle.lent.proofs.Lists.{drop_step, get_d_step, map_ext}
use Rattle.samtags.specs.Bytes.{ascii, letter_n}
use Rattle.samtags.specs.Text.{base_of}
use Rattle.lent.specs.Outcome.{Outcome, and_then}
use Rattle.samtags.specs.Spots.{Spot, bare, call, place_of, Group, Call, Listing, calls_in, listing}
use Rattle.samtags.specs.Reading.{nowhere, read, lists}
use Rattle.samtags.specs.Writing.{Tag, written}
use Rattle.samtags.specs.Edits.{edited, masked_to}
use Rattle.samtags.specs.Session.{mask_from, masked}
use Rattle.lent.proofs.Outcome.{done_inj, and_then_inv}
use Rattle.samtags.proofs.Places.{unmasked}
use Rattle.samtags.proofs.Steps.{mask_group, mask_answers, mask_reads}

-- after is as long as before, and each of its bytes is before's or N
abbrev pub differs_by_n : List ℕ → List ℕ → Bool
differs_by_n [] [] = true
differs_by_n [] (y ∷ ys) = false
differs_by_n (x ∷ xs) [] = false
differs_by_n (x ∷ xs) (y ∷ ys) = (eqb y x || eqb y letter_n) && differs_by_n xs ys

-- the place is masked in after
abbrev pub is_n : List ℕ → ℕ → Bool
is_n after p = eqb (get_or after p 0) letter_n

-- what a group still lists: the calls whose base is not masked, each where it was; a group on any base keeps all
abbrev pub unmasked_calls : List ℕ → Listing → Listing
unmasked_calls after l = record {
  header = l.header;
  calls = filter (λ (c : Call). unmasked (is_n after) (base_of l.header) c.place) l.calls;
}

one_masked : (x y : ℕ) → eqb y x || eqb y letter_n ≡ true → cond (eqb y letter_n) letter_n x ≡ y
one_masked x y e =
    by-test (eqb y letter_n)
    (λ n. rw n (sym (eqb-true y letter_n n)))
    (λ n. rw n (by-test (eqb y x) (λ s. sym (eqb-true y x s)) (λ s. let z : false ≡ true = rw (s, n) at e in cc)))

masked_from : (i : ℕ) (xs ys whole : List ℕ) → drop i whole ≡ ys → differs_by_n xs ys ≡ true → mask_from i (is_n whole) xs ≡ ys
masked_from i [] [] whole e d = refl
masked_from i [] (y ∷ ys) whole e d = cc
masked_from i (x ∷ xs) [] whole e d = cc
masked_from i (x ∷ xs) (y ∷ ys) whole e d =
    rw (get_d_step i whole 0 e, one_masked x y (and_true_l (eqb y x || eqb y letter_n) (differs_by_n xs ys) d), masked_from (suc i) xs ys whole (drop_step i whole e) (and_true_r (eqb y x || eqb y letter_n) (differs_by_n xs ys) d))

after_is_masked : (before after : List ℕ) → differs_by_n before after ≡ true → masked (is_n after) before ≡ after
after_is_masked before after d = masked_from 0 before after after refl d

calls_unmasked : (t : ℕ → Bool) (ss : List Spot) → calls_in (filter (λ s. t (place_of s)) ss) ≡ filter (λ (c : Call). t c.place) (calls_in ss)
calls_unmasked t [] = refl
calls_unmasked t (bare p ∷ ss) = by-test (t p) (λ e. rw e (calls_unmasked t ss)) (λ e. rw e (calls_unmasked t ss))
calls_unmasked t (call p vs ∷ ss) = by-test (t p) (λ e. rw (e, calls_unmasked t ss)) (λ e. rw e (calls_unmasked t ss))

group_unmasked : (after : List ℕ) (g : Group) → listing (mask_group (is_n after) g) ≡ unmasked_calls after (listing g)
group_unmasked after g =
    ap (λ (cs : List Call). record { header = g.header; calls = cs }) (calls_unmasked (unmasked (is_n after) (base_of g.header)) g.spots)

groups_unmasked : (after : List ℕ) (gs : List Group) → map listing (map (mask_group (is_n after)) gs) ≡ map (unmasked_calls after) (map listing gs)
groups_unmasked after gs =
    map-map listing (mask_group (is_n after)) gs
    ∙ map_ext (λ g. listing (mask_group (is_n after) g)) (λ g. unmasked_calls after (listing g)) (group_unmasked after) gs
    ∙ sym (map-map (unmasked_calls after) listing gs)

-- the edited tag, read against after
abbrev pub then_lists : Bool → List ℕ → List ℕ → Outcome Tag → Outcome (List Listing)
then_lists ml? after lent o = and_then o (λ r. lists ml? after r.text (cond ml? r.ml lent))

-- A mask edit whose after differs from before only by N is accepted, and leaves every call whose base is not masked at its place with its values.
pub mask_keeps_the_others : (ml? : Bool) (before after text ml : List ℕ) (ls : List Listing) (lent : List ℕ) → lists ml? before text ml ≡ Ok ls
    → differs_by_n before after ≡ true
    → then_lists ml? after lent (edited (masked_to after) ml? before text ml) ≡ Ok (map (unmasked_calls after) ls)
unfolding lists
mask_keeps_the_others ml? before after text ml ls lent e d =
    let i = and_then_inv (read ml? nowhere before text ml) _ ls e in
    let gs = i.0 in
    let same = after_is_masked before after d in
    let answers : edited (masked_to after) ml? before text ml ≡ Ok (written (map (mask_group (is_n after)) gs)) =
    ap (λ (a : List ℕ). edited (masked_to a) ml? before text ml) (sym same) ∙ mask_answers ml? before text ml gs i.1 (is_n after) in
    let w = written (map (mask_group (is_n after)) gs) in
    let reads : read ml? nowhere after w.text (cond ml? w.ml lent) ≡ Ok (map (mask_group (is_n after)) gs) =
    ap (λ (a : List ℕ). read ml? nowhere a w.text (cond ml? w.ml lent)) (sym same) ∙ mask_reads ml? before text ml gs i.1 (is_n after) lent in
    rw (answers, reads) (ap Ok (groups_unmasked after gs ∙ ap (map (unmasked_calls after)) (done_inj i.2)))

-- If after gains a letter, a call can move: `C+m?,0;` on AC calls place 1. Masked to CC, the text is unchanged and calls place 0.
pub gained_letter_moves_a_call :
    (lists true (ascii "AC") (ascii "C+m?,0;") (7 ∷ []) ≡ Ok (record { header = ascii "C+m?"; calls = record { place = 1; values = 7 ∷ [] } ∷ [] } ∷ []))
    × (edited (masked_to (ascii "CC")) true (ascii "AC") (ascii "C+m?,0;") (7 ∷ []) ≡ Ok (record { text = ascii "C+m?,0;"; ml = 7 ∷ [] }))
    × (lists true (ascii "CC") (ascii "C+m?,0;") (7 ∷ []) ≡ Ok (record { header = ascii "C+m?"; calls = record { place = 0; values = 7 ∷ [] } ∷ [] } ∷ []))
unfolding lists edited masked_to
gained_letter_moves_a_call = (refl, refl, refl)
