-- After a drop or a cut the tag lists what it listed, without the calls that went. Every other call keeps its values and its place; after a cut the place
-- is smaller by the number of bases cut off before it. Some bases that a cut leaves may be masked by N or n. (The law of a mask is in Masking.)
-- Assumes nothing.
use Rattle.std.specs.Prelude.{Ok}
use mathlib.Core.Path.{◌∙◌, ◌≡◌, ap, refl, sym}
use Prim.Native.Nat.{◌+◌, ◌-◌, ◌≤◌, suc, ℕ}
use native.Mathlib.Omega.{arith}
use mathlib.Core.Bool.{Bool, ◌&&◌, ◌||◌, cond, false, not, true}
use mathlib.Core.List.{List, [], ◌∷◌, map, map-map}
use lib.Dec.{eqb, leb}
use lib.ListN.{drop, get_or, length, take}
use borrow.Author.Tests.{eq-eqb, eqb-true, leb-true, ne_eqb}
use Rattle.lent.proofs.Lists.{drop_step, every_filter, filter_ext, filter_filter, filter_map, get_d_step, map_ext}
use Rattle.lent.proofs.Outcome.{and_then_inv, done_inj, need_rest}
use Rattle.lent.proofs.Tests.{and_true_l, and_true_r, by-test}
use Rattle.lent.specs.Lists.{among, every, filter}
use Rattle.pattern.specs.Case.{upper}
use Rattle.samtags.proofs.Read.{may_drop, tag_fits, tag_read, tag_some}
use Rattle.samtags.proofs.ReadWritten.{AllFit, Fits, sized}
use Rattle.samtags.proofs.SameText.{on_spots}
use Rattle.samtags.proofs.Steps.{cut_answers, cut_reads, cut_group, drop_answers, drop_reads, drop_group, map_some, moved, read_back, unlist_none, written_moved}
use Rattle.samtags.specs.Bytes.{letter_n}
use Rattle.samtags.specs.Edits.{changed, cut_to, dropping_at, edited, is_masked, lies_in, unlist}
use Rattle.samtags.specs.Meaning.{inside, nearer}
use Rattle.samtags.specs.Reading.{lists, nowhere, read, values_if}
use Rattle.samtags.specs.Session.{window}
use Rattle.samtags.specs.Spots.{Call, Group, Listing, Spot, bare, call, calls_in, holds, listing, place_of, places_from, tracked}
use Rattle.samtags.specs.Text.{base_of}
use Rattle.samtags.specs.Writing.{Tag, written}

-- what a group lists without the calls at the places
abbrev pub without_calls_at : List ℕ → Listing → Listing
without_calls_at ps l = record { header = l.header; calls = filter (λ (c : Call). not (among ps c.place)) l.calls }

-- what it lists of the window of n bases from place a on, counted from its start
abbrev pub calls_in_window : ℕ → ℕ → Listing → Listing
calls_in_window a n l = record { header = l.header; calls = map (nearer a) (filter (λ (c : Call). inside a n c.place) l.calls) }

-- the place lies in `after`, which begins at place a, and `after` holds the base b there: the base as it was, or any byte where b is 'N'
abbrev pub base_held_in : ℕ → List ℕ → ℕ → ℕ → Bool
base_held_in a after b p = inside a (length after) p && holds b (get_or after (p - a) 0)

-- what a group lists of what is left: the calls whose base `after` still holds, counted from its start
abbrev pub calls_held_in : ℕ → List ℕ → Listing → Listing
calls_held_in a after l = record {
  header = l.header;
  calls = map (nearer a) (filter (λ (c : Call). base_held_in a after (base_of l.header) c.place) l.calls);
}

-- ---- spots and their calls

calls_dropped : (named : ℕ → Bool) (ss : List Spot) → calls_in (map (unlist named) ss) ≡ filter (λ (c : Call). not (named c.place)) (calls_in ss)
calls_dropped named [] = refl
calls_dropped named (bare p ∷ ss) = calls_dropped named ss
calls_dropped named (call p vs ∷ ss) =
    by-test (named p) (λ e. rw e (calls_dropped named ss)) (λ e. rw (e, calls_dropped named ss))

calls_cut : (a : ℕ) (t : ℕ → Bool) (ss : List Spot)
    → calls_in (map (moved a) (filter (λ s. t (place_of s)) ss)) ≡ map (nearer a) (filter (λ (c : Call). t c.place) (calls_in ss))
calls_cut a t [] = refl
calls_cut a t (bare p ∷ ss) = by-test (t p) (λ e. rw e (calls_cut a t ss)) (λ e. rw e (calls_cut a t ss))
calls_cut a t (call p vs ∷ ss) = by-test (t p) (λ e. rw (e, calls_cut a t ss)) (λ e. rw e (calls_cut a t ss))

-- ---- what is left by a cut, with masked bases

-- a group's base is in upper case, so that 'n' is none
base_not_n : (header : List ℕ) → eqb (base_of header) 110 ≡ false
unfolding base_of upper
base_not_n header =
    let b = get_or header 0 0 in
    by-test (leb 97 b && leb b 122)
    (λ e. rw e (ne_eqb (b - 32) 110 (λ h. let l : b ≤ 122 = leb-true b 122 (and_true_r (leb 97 b) (leb b 122) e) in omega arith)))
    (λ e. rw e (by-test (eqb b 110) (λ h. let same = eqb-true b 110 h in let z : true ≡ false = rw same at e in cc) (λ h. h)))

-- a byte that still holds b held it before
held_before : (b x y : ℕ) → eqb b 110 ≡ false → eqb x y || is_masked x ≡ true → holds b x ≡ true → holds b y ≡ true
unfolding holds
held_before b x y n e h =
    by-test (eqb b letter_n)
    (λ any. rw any)
    (λ one.
    let same : x ≡ b = eqb-true x b (rw one at h) in
    rw one
    (by-test (eqb x y)
    (λ s. eq-eqb y b (sym (eqb-true x y s) ∙ same))
    (λ s. let z : false ≡ true = rw (s, same, one, n) at e in cc)))

-- of the places that held b those do that still hold it
held_places : (b i : ℕ) (xs ys whole : List ℕ) → eqb b 110 ≡ false → drop i whole ≡ xs → lies_in xs ys ≡ true
    → filter (λ p. holds b (get_or whole p 0)) (places_from (holds b) i (take (length xs) ys)) ≡ places_from (holds b) i xs
held_places b i [] ys whole n d l = refl
held_places b i (x ∷ xs) [] whole n d l = cc
held_places b i (x ∷ xs) (y ∷ ys) whole n d l =
    let rest = held_places b (suc i) xs ys whole n (drop_step i whole d) (and_true_r (eqb x y || is_masked x) (lies_in xs ys) l) in
    let here = held_before b x y n (and_true_l (eqb x y || is_masked x) (lies_in xs ys) l) in
    by-test (holds b x)
    (λ h. rw (h, here h, get_d_step i whole 0 d, h, rest))
    (λ h. rw h (by-test (holds b y) (λ k. rw (k, get_d_step i whole 0 d, h) rest) (λ k. rw k rest)))

moved_place : (a : ℕ) (s : Spot) → place_of (moved a s) ≡ place_of s - a
moved_place a (bare p) = refl
moved_place a (call p vs) = refl

-- of a group's spots those whose base `after` holds
abbrev only_held : List ℕ → Group → Group
only_held after g = record { header = g.header; spots = filter (λ s. holds (base_of g.header) (get_or after (place_of s) 0)) g.spots }

module _ (a : ℕ) (after : List ℕ) where
  -- what the cut does to a group
  abbrev held_group : Group → Group
  held_group g = only_held after (cut_group a (length after) g)

  held_spots : (g : Group) → (held_group g).spots ≡ map (moved a) (filter (λ s. base_held_in a after (base_of g.header) (place_of s)) g.spots)
  held_spots g =
      let t : ℕ → Bool = λ p. holds (base_of g.header) (get_or after p 0) in
      let inner : List Spot = filter (λ s. inside a (length after) (place_of s)) g.spots in
      filter_map (λ s. t (place_of s)) (moved a) inner
      ∙ ap (map (moved a))
      (filter_ext (λ s. t (place_of (moved a s))) (λ s. t (place_of s - a)) (λ s. ap t (moved_place a s)) inner
      ∙ filter_filter (λ s. t (place_of s - a)) (λ s. inside a (length after) (place_of s)) g.spots)

  held_listing : (g : Group) → listing (held_group g) ≡ calls_held_in a after (listing g)
  held_listing g =
      ap (λ (cs : List Call). record { header = g.header; calls = cs })
      (ap calls_in (held_spots g) ∙ calls_cut a (base_held_in a after (base_of g.header)) g.spots)

  held_changed : (g : Group) → held_group g ≡ on_spots (moved a) (changed (cut_to a after) g)
  unfolding changed cut_to
  held_changed g = ap (λ (ss : List Spot). record { header = g.header; spots = ss }) (rw (unlist_none g.spots) (held_spots g))

  held_written : (gs : List Group) → written (map held_group gs) ≡ written (map (changed (cut_to a after)) gs)
  held_written gs =
      rw (map_ext held_group (λ g. on_spots (moved a) (changed (cut_to a after) g)) held_changed gs, ← map-map (on_spots (moved a)) (changed (cut_to a after)) gs)
      (written_moved a (map (changed (cut_to a after)) gs))

  module _ (ml? : Bool) (seq : List ℕ) (l : lies_in after (drop a seq) ≡ true) where
    held_fits : (g : Group) → Fits ml? (window a (length after) seq) (cut_group a (length after) g) → Fits ml? after (held_group g)
    unfolding tracked
    held_fits g f =
        let b = base_of g.header in
        let t : ℕ → Bool = λ p. holds b (get_or after p 0) in
        record {
          long = f.long;
          no_comma = f.no_comma;
          no_semi = f.no_semi;
          low = f.low;
          places =
              sym (filter_map t place_of (cut_group a (length after) g).spots) ∙ ap (filter t) f.places
              ∙ held_places b 0 after (drop a seq) after (base_not_n g.header) refl l;
          sizes = every_filter (sized (values_if ml? g.header)) (λ s. t (place_of s)) (cut_group a (length after) g).spots f.sizes;
        }

    all_held_fit : (gs : List Group) → AllFit ml? (window a (length after) seq) (map (cut_group a (length after)) gs) → AllFit ml? after (map held_group gs)
    all_held_fit [] f = tt
    all_held_fit (g ∷ gs) f = (held_fits g f.0, all_held_fit gs f.1)

-- ---- what the edited tag lists

module _ (ml? : Bool) (seq text ml : List ℕ) (ls : List Listing) (reads : lists ml? seq text ml ≡ Ok ls) (lent : List ℕ) where
  -- groups that F makes of those that are read, and G of their listings
  then_lists : (after : List ℕ) (F : Group → Group) (G : Listing → Listing) → ((g : Group) → listing (F g) ≡ G (listing g)) → (gs : List Group)
      → map listing gs ≡ ls
      → read ml? nowhere after (written (map F gs)).text (cond ml? (written (map F gs)).ml lent) ≡ Ok (map F gs)
      → lists ml? after (written (map F gs)).text (cond ml? (written (map F gs)).ml lent) ≡ Ok (map G ls)
  unfolding lists
  then_lists after F G h gs e r =
      rw r (ap Ok (map-map listing F gs ∙ map_ext (λ g. listing (F g)) (λ g. G (listing g)) h gs ∙ sym (map-map G listing gs) ∙ ap (map G) e))

  -- A drop that is done leaves every other call at its place with its values.
  pub drop_keeps_the_others : (ps : List ℕ) (r : Tag) → edited (dropping_at ps) ml? seq text ml ≡ Ok r
      → lists ml? seq r.text (cond ml? r.ml lent) ≡ Ok (map (without_calls_at ps) ls)
  unfolding lists
  drop_keeps_the_others ps r e =
      let (gs, read-gs, listed) = and_then_inv (read ml? nowhere seq text ml) _ ls reads in
      let is : written (map (drop_group (among ps)) gs) ≡ r =
      done_inj (need_rest (every (may_drop (among ps)) gs) 10 (Ok (written (map (drop_group (among ps)) gs))) r (sym (drop_answers ml? seq text ml gs read-gs ps) ∙ e)) in
      rw (← is)
      (then_lists seq (drop_group (among ps)) (without_calls_at ps) (λ (g : Group). ap (λ (cs : List Call). record { header = g.header; calls = cs }) (calls_dropped (among ps) g.spots))
      gs (done_inj listed) (drop_reads ml? seq text ml gs read-gs (among ps) lent))

  -- A cut to the n bases from place a on leaves every call inside on its base, with its values.
  pub cut_keeps_the_others : (a n : ℕ) (r : Tag) → a + n ≤ length seq → edited (cut_to a (window a n seq)) ml? seq text ml ≡ Ok r
      → lists ml? (window a n seq) r.text (cond ml? r.ml lent) ≡ Ok (map (calls_in_window a n) ls)
  unfolding lists
  cut_keeps_the_others a n r h e =
      let (gs, read-gs, listed) = and_then_inv (read ml? nowhere seq text ml) _ ls reads in
      let is : written (map (cut_group a n) gs) ≡ r = done_inj (sym (cut_answers ml? seq text ml gs read-gs a n h) ∙ e) in
      rw (← is)
      (then_lists (window a n seq) (cut_group a n) (calls_in_window a n) (λ (g : Group). ap (λ (cs : List Call). record { header = g.header; calls = cs }) (calls_cut a (inside a n) g.spots))
      gs (done_inj listed) (cut_reads ml? seq text ml gs read-gs a n lent))

  -- the groups that a cut leaves
  held_answers : (a : ℕ) (after : List ℕ) (gs : List Group) → read ml? nowhere seq text ml ≡ Ok gs
      → edited (cut_to a after) ml? seq text ml ≡ Ok (written (map (held_group a after) gs))
  unfolding edited cut_to
  held_answers a after gs read-gs = rw (read-gs, held_written a after gs)

  held_reads : (a : ℕ) (after : List ℕ) (gs : List Group) → read ml? nowhere seq text ml ≡ Ok gs → lies_in after (drop a seq) ≡ true
      → read ml? nowhere after (written (map (held_group a after) gs)).text (cond ml? (written (map (held_group a after) gs)).ml lent)
      ≡ Ok (map (held_group a after) gs)
  held_reads a after gs read-gs l =
      let cut = tag_read ml? nowhere (window a (length after) seq) _ _ _ (cut_reads ml? seq text ml gs read-gs a (length after) lent) in
      let some = tag_some (tag_read ml? nowhere seq text ml gs read-gs) in
      read_back ml? after (map (held_group a after) gs) lent (all_held_fit a after ml? seq l gs (tag_fits cut)) (map_some (held_group a after) gs some)

  -- A cut to a window of SEQ from place a on, in which each byte is unchanged or masked by N or n, leaves every call whose base is still held on its base,
  -- with its values.
  pub cut_keeps_the_held : (a : ℕ) (after : List ℕ) (r : Tag) → lies_in after (drop a seq) ≡ true → edited (cut_to a after) ml? seq text ml ≡ Ok r
      → lists ml? after r.text (cond ml? r.ml lent) ≡ Ok (map (calls_held_in a after) ls)
  unfolding lists
  cut_keeps_the_held a after r l e =
      let (gs, read-gs, listed) = and_then_inv (read ml? nowhere seq text ml) _ ls reads in
      let is : written (map (held_group a after) gs) ≡ r = done_inj (sym (held_answers a after gs read-gs) ∙ e) in
      rw (← is)
      (then_lists after (held_group a after) (calls_held_in a after) (held_listing a after) gs (done_inj listed) (held_reads a after gs read-gs l))
