-- What each edit does to a tag that fits its SEQ. The edited tag fits the edited SEQ.
-- Assumes nothing.
use Rattle.std.specs.Prelude.{Ok}
use mathlib.Core.Path.{◌≡◌, refl, sym, ap, ◌∙◌}
use Prim.Native.Nat.{ℕ, ◌+◌, ◌-◌, ◌≤◌}
use native.Mathlib.Omega.{arith}
use mathlib.Core.Bool.{Bool, true, false, cond, ◌&&◌}
use mathlib.Core.List.{List, [], ◌∷◌, map, map-map}
use lib.ListN.{length, get_or}
use lib.Dec.{eqb}
use Rattle.lent.specs.Lists.{every, filter, among, is_empty}
use Rattle.lent.proofs.Tests.{by-test, and_true, and_true_l, and_true_r}
use Rattle.lent.proofs.Lists.{Agree, filter_agree, filter_map, filter_all, every_filter}
use Rattle.samtags.specs.Text.{base_of}
use Rattle.lent.specs.Outcome.{need}
use Rattle.samtags.specs.Spots.{Spot, bare, call, place_of, values_of, Group, holds, tracked}
use Rattle.samtags.specs.Reading.{nowhere, values_if, read}
use Rattle.samtags.specs.Writing.{written}
use Rattle.samtags.specs.Edits.{unlist, changed, edited, masked_to, dropping_at, cut_to}
use Rattle.samtags.specs.Session.{masked, window}
use Rattle.samtags.specs.Meaning.{inside}
use Rattle.lent.proofs.Outcome.{need_out}
use Rattle.samtags.proofs.SameText.{is_call, on_spots, text_same, ml_same}
use Rattle.samtags.proofs.ReadWritten.{sized, Fits, AllFit, read_written}
use Rattle.samtags.proofs.Read.{TagRead, tag_read, tag_denied, tag_fits, tag_some, may_drop}
use Rattle.samtags.proofs.Places.{unmasked, tracked_masked, mask_test, tracked_window, window_test}

-- ---- what each step does to a group

abbrev with_spots : Group → List Spot → Group
with_spots g ss = record { header = g.header; spots = ss }

-- the spots at masked places go
abbrev pub mask_group : (ℕ → Bool) → Group → Group
mask_group t g = with_spots g (filter (λ s. unmasked t (base_of g.header) (place_of s)) g.spots)

-- the calls at the places become bare
abbrev pub drop_group : (ℕ → Bool) → Group → Group
drop_group named g = on_spots (unlist named) g

-- a spot a bases nearer to the front
abbrev pub moved : ℕ → Spot → Spot
moved a (bare p) = bare (p - a)
moved a (call p vs) = call (p - a) vs

abbrev keep_group : ℕ → ℕ → Group → Group
keep_group a n g = with_spots g (filter (λ s. inside a n (place_of s)) g.spots)

-- the spots outside the n places from a on go, the others move nearer
abbrev pub cut_group : ℕ → ℕ → Group → Group
cut_group a n g = on_spots (moved a) (keep_group a n g)

-- ---- lists of spots

pub unlist_none : (ss : List Spot) → map (unlist nowhere) ss ≡ ss
unlist_none [] = refl
unlist_none (bare p ∷ ss) = ap (λ (r : List Spot). bare p ∷ r) (unlist_none ss)
unlist_none (call p vs ∷ ss) = ap (λ (r : List Spot). call p vs ∷ r) (unlist_none ss)

pub at_places : (s t : ℕ → Bool) (ss : List Spot) → Agree s t (map place_of ss) → filter (λ x. s (place_of x)) ss ≡ filter (λ x. t (place_of x)) ss
at_places s t ss a = filter_agree (λ x. s (place_of x)) (λ x. t (place_of x)) ss (go ss a)
  where
    go : (ss : List Spot) → Agree s t (map place_of ss) → Agree (λ x. s (place_of x)) (λ x. t (place_of x)) ss
    go [] a = tt
    go (x ∷ ss) a = (a.0, go ss a.1)

places_kept : (t : ℕ → Bool) (ss : List Spot) → map place_of (filter (λ s. t (place_of s)) ss) ≡ filter t (map place_of ss)
places_kept t ss = sym (filter_map t place_of ss)

pub place_unlist : (named : ℕ → Bool) (s : Spot) → place_of (unlist named s) ≡ place_of s
place_unlist named (bare p) = refl
place_unlist named (call p vs) = by-test (named p) (λ e. rw e) (λ e. rw e)

pub places_unlist : (named : ℕ → Bool) (ss : List Spot) → map place_of (map (unlist named) ss) ≡ map place_of ss
places_unlist named [] = refl
places_unlist named (s ∷ ss) = rw (place_unlist named s, places_unlist named ss)

places_moved : (a : ℕ) (ss : List Spot) → map place_of (map (moved a) ss) ≡ map (λ p. p - a) (map place_of ss)
places_moved a [] = refl
places_moved a (bare p ∷ ss) = ap (λ (r : List ℕ). (p - a) ∷ r) (places_moved a ss)
places_moved a (call p vs ∷ ss) = ap (λ (r : List ℕ). (p - a) ∷ r) (places_moved a ss)

sized_unlist : (k : ℕ) (named : ℕ → Bool) (ss : List Spot) → every (sized k) ss ≡ true → every (sized k) (map (unlist named) ss) ≡ true
sized_unlist k named [] h = refl
sized_unlist k named (bare p ∷ ss) h = sized_unlist k named ss h
sized_unlist k named (call p vs ∷ ss) h =
    let rest = sized_unlist k named ss (and_true_r (eqb (length vs) k) (every (sized k) ss) h) in
    by-test (named p)
    (λ e. rw e rest)
    (λ e. rw e (and_true (eqb (length vs) k) (every (sized k) (map (unlist named) ss)) (and_true_l (eqb (length vs) k) (every (sized k) ss) h) rest))

sized_moved : (k a : ℕ) (ss : List Spot) → every (sized k) (map (moved a) ss) ≡ every (sized k) ss
sized_moved k a [] = refl
sized_moved k a (bare p ∷ ss) = sized_moved k a ss
sized_moved k a (call p vs ∷ ss) = ap (λ (r : Bool). eqb (length vs) k && r) (sized_moved k a ss)

-- places are not written
pub written_moved : (a : ℕ) (gs : List Group) → written (map (on_spots (moved a)) gs) ≡ written gs
unfolding written
written_moved a gs = rw (text_same (moved a) calls_stay gs, ml_same (moved a) values_stay gs)
  where
    calls_stay : (s : Spot) → is_call (moved a s) ≡ is_call s
    calls_stay (bare p) = refl
    calls_stay (call p vs) = refl

    values_stay : (s : Spot) → values_of (moved a s) ≡ values_of s
    values_stay (bare p) = refl
    values_stay (call p vs) = refl

-- ---- a group after a step fits what SEQ then is

refit : {ml? : Bool} {seq : List ℕ} {g : Group} → Fits ml? seq g → (after : List ℕ) (ss : List Spot)
    → map place_of ss ≡ tracked (base_of g.header) after → every (sized (values_if ml? g.header)) ss ≡ true → Fits ml? after (with_spots g ss)
refit f after ss places sizes = record {
  long = f.long;
  no_comma = f.no_comma;
  no_semi = f.no_semi;
  low = f.low;
  places = places;
  sizes = sizes;
}

mask_fits : (t : ℕ → Bool) (ml? : Bool) (seq : List ℕ) (g : Group) → Fits ml? seq g → Fits ml? (masked t seq) (mask_group t g)
mask_fits t ml? seq g f =
    let b = base_of g.header in
    refit f (masked t seq) _
    (places_kept (unmasked t b) g.spots ∙ ap (filter (unmasked t b)) f.places ∙ tracked_masked t b seq)
    (every_filter (sized (values_if ml? g.header)) _ g.spots f.sizes)

drop_fits : (named : ℕ → Bool) (ml? : Bool) (seq : List ℕ) (g : Group) → Fits ml? seq g → Fits ml? seq (drop_group named g)
drop_fits named ml? seq g f =
    refit f seq _ (places_unlist named g.spots ∙ f.places) (sized_unlist (values_if ml? g.header) named g.spots f.sizes)

cut_fits : (a n : ℕ) (ml? : Bool) (seq : List ℕ) (g : Group) → Fits ml? seq g → Fits ml? (window a n seq) (cut_group a n g)
cut_fits a n ml? seq g f =
    let kept : List Spot = filter (λ s. inside a n (place_of s)) g.spots in
    refit f (window a n seq) _
    (places_moved a kept
    ∙ ap (map (λ p. p - a)) (places_kept (inside a n) g.spots ∙ ap (filter (inside a n)) f.places)
    ∙ tracked_window a n (base_of g.header) seq)
    (sized_moved (values_if ml? g.header) a kept
    ∙ every_filter (sized (values_if ml? g.header)) (λ s. inside a n (place_of s)) g.spots f.sizes)

-- ---- the edits do to a group what the steps are said to do

mask_changed : (t : ℕ → Bool) (ml? : Bool) (seq : List ℕ) (g : Group) → Fits ml? seq g → changed (masked_to (masked t seq)) g ≡ mask_group t g
unfolding changed masked_to
mask_changed t ml? seq g f =
    let b = base_of g.header in
    ap (with_spots g)
    (rw (unlist_none g.spots)
    (at_places (λ p. holds b (get_or (masked t seq) p 0)) (unmasked t b) g.spots (rw f.places (mask_test t b seq))))

drop_changed : (ps : List ℕ) (g : Group) → changed (dropping_at ps) g ≡ drop_group (among ps) g
unfolding changed dropping_at
drop_changed ps g = ap (with_spots g) (filter_all (map (unlist (among ps)) g.spots))

cut_changed : (a n : ℕ) (ml? : Bool) (seq : List ℕ) (g : Group) → a + n ≤ length seq → Fits ml? seq g
    → changed (cut_to a (window a n seq)) g ≡ keep_group a n g
unfolding changed cut_to
cut_changed a n ml? seq g h f =
    let b = base_of g.header in
    ap (with_spots g)
    (rw (unlist_none g.spots) (at_places ((cut_to a (window a n seq)).still_held b) (inside a n) g.spots (rw f.places (window_test a n b seq h))))

-- ---- lists of groups

all_fit : (ml? : Bool) (seq after : List ℕ) (F : Group → Group) → ((g : Group) → Fits ml? seq g → Fits ml? after (F g))
    → (gs : List Group) → AllFit ml? seq gs → AllFit ml? after (map F gs)
all_fit ml? seq after F h [] f = tt
all_fit ml? seq after F h (g ∷ gs) f = (h g f.0, all_fit ml? seq after F h gs f.1)

pub all_same : (ml? : Bool) (seq : List ℕ) (F G : Group → Group) → ((g : Group) → Fits ml? seq g → F g ≡ G g)
    → (gs : List Group) → AllFit ml? seq gs → map F gs ≡ map G gs
all_same ml? seq F G h [] f = refl
all_same ml? seq F G h (g ∷ gs) f = rw (h g f.0, all_same ml? seq F G h gs f.1)

pub map_some : (F : Group → Group) (gs : List Group) → is_empty gs ≡ false → is_empty (map F gs) ≡ false
map_some F [] e = e
map_some F (g ∷ gs) e = refl

-- one or more groups that fit are read back; without ML the row lent for it does not matter
pub read_back : (ml? : Bool) (seq : List ℕ) (gs : List Group) (lent : List ℕ) → AllFit ml? seq gs → is_empty gs ≡ false
    → read ml? nowhere seq (written gs).text (cond ml? (written gs).ml lent) ≡ Ok gs
unfolding written
read_back ml? seq [] lent f e = let z : ◌≡◌ {A = ℕ} 0 1 = cc in absurd (omega arith)
read_back ml? seq (g ∷ gs) lent f e = read_written ml? seq g gs lent f

-- ---- the edits of a tag that is read: each answers so, and the tag is then read so

module _ (ml? : Bool) (seq text ml : List ℕ) (gs : List Group) (reads : read ml? nowhere seq text ml ≡ Ok gs) where
  tag : TagRead ml? seq text ml gs
  tag = tag_read ml? nowhere seq text ml gs reads

  -- groups that F makes and that fit the SEQ that is then
  then_read : (after : List ℕ) (F : Group → Group) → ((g : Group) → Fits ml? seq g → Fits ml? after (F g)) → (lent : List ℕ)
      → read ml? nowhere after (written (map F gs)).text (cond ml? (written (map F gs)).ml lent) ≡ Ok (map F gs)
  then_read after F h lent = read_back ml? after (map F gs) lent (all_fit ml? seq after F h gs (tag_fits tag)) (map_some F gs (tag_some tag))

  pub mask_answers : (t : ℕ → Bool) → edited (masked_to (masked t seq)) ml? seq text ml ≡ Ok (written (map (mask_group t) gs))
  unfolding edited masked_to
  mask_answers t = rw (reads, all_same ml? seq _ (mask_group t) (λ g f. mask_changed t ml? seq g f) gs (tag_fits tag))

  pub mask_reads : (t : ℕ → Bool) (lent : List ℕ)
      → read ml? nowhere (masked t seq) (written (map (mask_group t) gs)).text (cond ml? (written (map (mask_group t) gs)).ml lent)
      ≡ Ok (map (mask_group t) gs)
  mask_reads t = then_read (masked t seq) (mask_group t) (mask_fits t ml? seq)

  pub drop_answers : (ps : List ℕ)
      → edited (dropping_at ps) ml? seq text ml ≡ need (every (may_drop (among ps)) gs) 10 (Ok (written (map (drop_group (among ps)) gs)))
  unfolding edited dropping_at
  drop_answers ps = rw (tag_denied (among ps) tag, need_out, all_same ml? seq _ (drop_group (among ps)) (λ g f. drop_changed ps g) gs (tag_fits tag))

  pub drop_reads : (named : ℕ → Bool) (lent : List ℕ)
      → read ml? nowhere seq (written (map (drop_group named) gs)).text (cond ml? (written (map (drop_group named) gs)).ml lent)
      ≡ Ok (map (drop_group named) gs)
  drop_reads named = then_read seq (drop_group named) (drop_fits named ml? seq)

  pub cut_answers : (a n : ℕ) → a + n ≤ length seq
      → edited (cut_to a (window a n seq)) ml? seq text ml ≡ Ok (written (map (cut_group a n) gs))
  unfolding edited cut_to
  cut_answers a n h =
      rw (reads, all_same ml? seq _ (keep_group a n) (λ g f. cut_changed a n ml? seq g h f) gs (tag_fits tag), ← map-map (on_spots (moved a)) (keep_group a n) gs, written_moved a (map (keep_group a n) gs))

  pub cut_reads : (a n : ℕ) (lent : List ℕ)
      → read ml? nowhere (window a n seq) (written (map (cut_group a n) gs)).text (cond ml? (written (map (cut_group a n) gs)).ml lent)
      ≡ Ok (map (cut_group a n) gs)
  cut_reads a n = then_read (window a n seq) (cut_group a n) (cut_fits a n ml? seq)
