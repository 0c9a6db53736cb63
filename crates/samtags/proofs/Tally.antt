-- The tally: above and below add up to ML's length. For a tag that was read, the tally is a fold over the calls.
-- Assumes nothing.
use Rattle.std.specs.Prelude.{Ok}
use mathlib.Core.Path.{◌≡◌, refl, sym, ap, ◌∙◌}
use Prim.Native.Nat.{ℕ, ◌+◌}
use native.Mathlib.Omega.{arith}
use mathlib.Core.Bool.{true, not}
use mathlib.Core.List.{List, [], ◌∷◌, ◌++◌, map}
use lib.ListN.{length, length-append}
use borrow.Author.Tests.{leb-false, lt-leb, ltb-true, lt-ltb, not-true}
use Rattle.lent.specs.Lists.{filter, concat_map}
use Rattle.lent.proofs.Tests.{by-test, test_ext}
use Rattle.lent.proofs.Lists.{filter_append, concat_map_append}
use Rattle.samtags.specs.Spots.{Spot, bare, call, values_of, Group, Call, Listing, calls_in, listing}
use Rattle.samtags.specs.Reading.{nowhere, read, lists, Tally, is_above, is_below, tally_of}
use Rattle.samtags.specs.Writing.{ml_of}
use Rattle.lent.proofs.Outcome.{done_inj, and_then_inv}
use Rattle.samtags.proofs.Read.{tag_read, tag_used}

-- a value is below exactly when it is not above
above_or_below : (v : ℕ) → is_below v ≡ not (is_above v)
above_or_below v =
    test_ext (is_below v) (not (is_above v))
    (λ e. ap not (lt-leb _ v (omega (arith, ltb-true v _ e))))
    (λ e. lt-ltb v _ (omega (arith, leb-false _ v (not-true (is_above v) e))))

-- each value counts once
pub tally_counts_all : (ml : List ℕ) → (tally_of ml).above + (tally_of ml).below ≡ length ml
unfolding tally_of
tally_counts_all [] = refl
tally_counts_all (v ∷ ml) =
    let other = above_or_below v in
    by-test (is_above v)
    (λ e. rw (other, e) (omega (arith, tally_counts_all ml)))
    (λ e. rw (other, e) (omega (arith, tally_counts_all ml)))

-- two tallies as one
abbrev pub tally_sum : Tally → Tally → Tally
tally_sum s t = record { above = s.above + t.above; below = s.below + t.below }

-- the tally of calls, one after the other
abbrev pub tally_calls : List Call → Tally
unfolding tally_of
tally_calls [] = record { above = 0; below = 0 }
tally_calls (c ∷ cs) = tally_sum (tally_of c.values) (tally_calls cs)

tally_append : (xs ys : List ℕ) → tally_of (xs ++ ys) ≡ tally_sum (tally_of xs) (tally_of ys)
unfolding tally_of
tally_append xs ys =
    rw (filter_append is_above xs ys, filter_append is_below xs ys, length-append (filter is_above xs) (filter is_above ys), length-append (filter is_below xs) (filter is_below ys))

-- the calls of all groups
abbrev pub all_calls : List Listing → List Call
all_calls ls = concat_map (λ (l : Listing). l.calls) ls

abbrev call_values : Call → List ℕ
call_values c = c.values

values_calls : (ss : List Spot) → concat_map values_of ss ≡ concat_map call_values (calls_in ss)
values_calls [] = refl
values_calls (bare p ∷ ss) = values_calls ss
values_calls (call p vs ∷ ss) = ap (λ (r : List ℕ). vs ++ r) (values_calls ss)

ml_calls : (gs : List Group) → ml_of gs ≡ concat_map call_values (all_calls (map listing gs))
unfolding ml_of
ml_calls [] = refl
ml_calls (g ∷ gs) = rw (concat_map_append call_values (calls_in g.spots) (all_calls (map listing gs)), values_calls g.spots, ml_calls gs)

tally_calls_lem : (cs : List Call) → tally_of (concat_map call_values cs) ≡ tally_calls cs
unfolding tally_of
tally_calls_lem [] = refl
tally_calls_lem (c ∷ cs) = tally_append c.values (concat_map call_values cs) ∙ ap (tally_sum (tally_of c.values)) (tally_calls_lem cs)

-- for a tag that is read, ML's tally is the fold over the calls
pub tally_is_a_fold : (seq text ml : List ℕ) (ls : List Listing) → lists true seq text ml ≡ Ok ls → tally_of ml ≡ tally_calls (all_calls ls)
unfolding lists
tally_is_a_fold seq text ml ls e =
    let i = and_then_inv (read true nowhere seq text ml) _ ls e in
    ap tally_of (sym (tag_used (tag_read true nowhere seq text ml i.0 i.1)) ∙ ml_calls i.0 ∙ ap (λ (l : List Listing). concat_map call_values (all_calls l)) (done_inj i.2))
    ∙ tally_calls_lem (all_calls ls)
