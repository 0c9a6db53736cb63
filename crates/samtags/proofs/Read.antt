-- The steps of a reading that succeeds, as views that later laws use. What is read fits SEQ and uses all of ML. Last, exactly when a drop is refused.
-- Assumes nothing.
use Rattle.std.specs.Prelude.{Ok}
use mathlib.Core.Path.{◌≡◌, refl, sym, ap, ◌∙◌, subst}
use Prim.Native.Nat.{ℕ}
use native.Mathlib.Omega.{arith}
use mathlib.Core.Bool.{Bool, true, false, cond, not}
use mathlib.Core.List.{List, [], ◌∷◌, ◌++◌, map, append-nil, append_assoc, map-append}
use lib.ListN.{length, take, drop, take-append-drop}
use lib.Seq.{length-take-le}
use lib.Dec.{leb, eqb}
use borrow.Author.Tests.{leb-true, eq-eqb}
use Rattle.lent.specs.Lists.{every, is_empty, concat_map, last_or}
use Rattle.lent.proofs.Tests.{and_true, and_true_l, and_true_r}
use Rattle.samtags.specs.Bytes.{comma, semicolon, is_ascii}
use Rattle.samtags.specs.Decimal.{is_number, value}
use Rattle.samtags.specs.Text.{up_to, led_by, closed_by, base_of}
use Rattle.lent.specs.Outcome.{need}
use Rattle.samtags.specs.Spots.{Spot, bare, call, place_of, values_of, Group, calls_in, tracked}
use Rattle.samtags.specs.Reading.{read_entry, read_spots, values_if, denied_to, read_group, read_groups, read}
use Rattle.samtags.specs.Writing.{ml_of}
use Rattle.lent.proofs.Outcome.{done_inj, need_test, need_rest, and_then_inv, with_first_inv, need_out, need_both}
use Rattle.samtags.proofs.Text.{lacks, up_to_every, up_to_lacks, closed_by_every, closed_by_lacks, closed_by_some}
use Rattle.samtags.proofs.ReadWritten.{sized, AllFit}

-- ---- the views

-- a group's fields, the places and the values before them, the spots, and the values left
pub data SpotsRead (k : ℕ) : List (List ℕ) → List ℕ → List ℕ → List Spot → List ℕ → Type 0 where
  no_entry : {places ml : List ℕ} → SpotsRead k [] places ml (map bare places) ml
  an_entry : {f : List ℕ} {fs : List (List ℕ)} {places ml : List ℕ} {p : ℕ} {rest : List ℕ} {ss : List Spot} {left : List ℕ}
      → is_number f ≡ true → drop (value f) places ≡ p ∷ rest → leb k (length ml) ≡ true → SpotsRead k fs rest (drop k ml) ss left
      → SpotsRead k (f ∷ fs) places ml (map bare (take (value f) places) ++ call p (take k ml) ∷ ss) left

pub data GroupsRead (ml? : Bool) (seq : List ℕ) : List (List ℕ) → List ℕ → List Group → Type 0 where
  no_group_lem : GroupsRead ml? seq [] [] []
  a_group_lem : {g : List ℕ} {gs : List (List ℕ)} {ml left : List ℕ} {ss : List Spot} {rest : List Group}
      → leb 2 (length (up_to comma g)) ≡ true
      → SpotsRead (values_if ml? (up_to comma g)) (led_by comma g) (tracked (base_of (up_to comma g)) seq) ml ss left
      → GroupsRead ml? seq gs left rest
      → GroupsRead ml? seq (g ∷ gs) ml (record { header = up_to comma g; spots = ss } ∷ rest)

pub record TagRead (ml? : Bool) (seq text ml : List ℕ) (gs : List Group) : Type 0 where
  pub low : every is_ascii text ≡ true
  pub ends : eqb (last_or 0 text) semicolon ≡ true
  pub groups : GroupsRead ml? seq (closed_by semicolon text) (cond ml? ml []) gs

-- ---- a reading that succeeds has its view

entry_read : (k : ℕ) (denied : ℕ → Bool) (f places : List ℕ) (n : ℕ) (q : ℕ × List ℕ) → read_entry k denied f places n ≡ Ok q
    → (is_number f ≡ true) × (drop (value f) places ≡ q.0 ∷ q.1) × (leb k n ≡ true)
unfolding read_entry
entry_read k denied f places n q e =
    let hop = with_first_inv (drop (value f) places) 7 _ q (need_rest (is_number f) 6 _ q e) in
    let free = need_rest (leb k n) 8 _ q hop.3 in
    let same : ◌≡◌ {A = ℕ × List ℕ} (hop.0, hop.1) q = done_inj (need_rest (not (denied hop.0)) 10 _ q free) in (
      need_test (is_number f) 6 _ q e,
      hop.2 ∙ ap (λ (r : ℕ × List ℕ). r.0 ∷ r.1) same,
      need_test (leb k n) 8 _ q hop.3,
    )

pub spots_read : (k : ℕ) (denied : ℕ → Bool) (fs : List (List ℕ)) (places ml : List ℕ) (r : List Spot × List ℕ)
    → read_spots k denied fs places ml ≡ Ok r → SpotsRead k fs places ml r.0 r.1
unfolding read_spots
spots_read k denied [] places ml r e = subst (λ (q : List Spot × List ℕ). SpotsRead k [] places ml q.0 q.1) (done_inj e) no_entry
spots_read k denied (f ∷ fs) places ml r e =
    let one = and_then_inv (read_entry k denied f places (length ml)) _ r e in
    let w = entry_read k denied f places (length ml) one.0 one.1 in
    let next = and_then_inv (read_spots k denied fs one.0.1 (drop k ml)) _ r one.2 in
    subst (λ (q : List Spot × List ℕ). SpotsRead k (f ∷ fs) places ml q.0 q.1) (done_inj next.2)
    (an_entry w.0 w.1 w.2 (spots_read k denied fs one.0.1 (drop k ml) next.0 next.1))

groups_read : (ml? : Bool) (named : ℕ → Bool) (seq : List ℕ) (ps : List (List ℕ)) (ml : List ℕ) (gs : List Group)
    → read_groups ml? named seq ps ml ≡ Ok gs → GroupsRead ml? seq ps ml gs
unfolding read_groups read_group
groups_read ml? named seq [] [] gs e = subst (GroupsRead ml? seq [] []) (done_inj e) no_group_lem
groups_read ml? named seq [] (v ∷ ml) gs e = let z : ◌≡◌ {A = ℕ} 0 1 = cc in absurd (omega arith)
groups_read ml? named seq (g ∷ ps) ml gs e =
    let h = up_to comma g in
    let one = and_then_inv (read_group ml? named seq g ml) _ gs e in
    let long = need_test (leb 2 (length h)) 5 _ one.0 one.1 in
    let spots = and_then_inv (read_spots (values_if ml? h) (denied_to h named) (led_by comma g) (tracked (base_of h) seq) ml) _ one.0 (need_rest (leb 2 (length h)) 5 _ one.0 one.1) in
    let same : ◌≡◌ {A = Group × List ℕ} (record { header = h; spots = spots.0.0 }, spots.0.1) one.0 = done_inj spots.2 in
    let more = and_then_inv (read_groups ml? named seq ps one.0.1) _ gs one.2 in
    let rest : GroupsRead ml? seq ps spots.0.1 more.0 =
    subst (λ (q : Group × List ℕ). GroupsRead ml? seq ps q.1 more.0) (sym same) (groups_read ml? named seq ps one.0.1 more.0 more.1) in
    subst (GroupsRead ml? seq (g ∷ ps) ml) (ap (λ (q : Group × List ℕ). q.0 ∷ more.0) same ∙ done_inj more.2)
    (a_group_lem long (spots_read _ _ _ _ _ spots.0 spots.1) rest)

pub tag_read : (ml? : Bool) (named : ℕ → Bool) (seq text ml : List ℕ) (gs : List Group) → read ml? named seq text ml ≡ Ok gs → TagRead ml? seq text ml gs
unfolding read
tag_read ml? named seq text ml gs e =
    let e₁ = need_rest (every is_ascii text) 3 _ gs e in
    record {
      low = need_test (every is_ascii text) 3 _ gs e;
      ends = need_test (eqb (last_or 0 text) semicolon) 4 _ gs e₁;
      groups = groups_read ml? named seq _ _ gs (need_rest (eqb (last_or 0 text) semicolon) 4 _ gs e₁);
    }

-- ---- such a tag fits SEQ

places_bare : (ps : List ℕ) → map place_of (map bare ps) ≡ ps
places_bare [] = refl
places_bare (p ∷ ps) = ap (λ (r : List ℕ). p ∷ r) (places_bare ps)

values_bare : (ps : List ℕ) (ss : List Spot) → concat_map values_of (map bare ps ++ ss) ≡ concat_map values_of ss
values_bare [] ss = refl
values_bare (p ∷ ps) ss = values_bare ps ss

-- bare spots list nothing
pub calls_bare : (ps : List ℕ) (ss : List Spot) → calls_in (map bare ps ++ ss) ≡ calls_in ss
calls_bare [] ss = refl
calls_bare (p ∷ ps) ss = calls_bare ps ss

every_bare : (t : Spot → Bool) → ((p : ℕ) → t (bare p) ≡ true) → (ps : List ℕ) (ss : List Spot) → every t (map bare ps ++ ss) ≡ every t ss
every_bare t f [] ss = refl
every_bare t f (p ∷ ps) ss = rw (f p) (every_bare t f ps ss)

pub spots_at : {k : ℕ} {fs : List (List ℕ)} {places ml : List ℕ} {ss : List Spot} {left : List ℕ} → SpotsRead k fs places ml ss left → map place_of ss ≡ places
spots_at (no_entry {places = places}) = places_bare places
spots_at {k} (an_entry {f = f} {places = places} {ml = ml} {p = p} {ss = ss} num e l r) =
    rw (map-append place_of (map bare (take (value f) places)) (call p (take k ml) ∷ ss), places_bare (take (value f) places), spots_at r, ← e)
    (take-append-drop (value f) places)

spots_sized : {k : ℕ} {fs : List (List ℕ)} {places ml : List ℕ} {ss : List Spot} {left : List ℕ} → SpotsRead k fs places ml ss left → every (sized k) ss ≡ true
spots_sized {k} (no_entry {places = places}) = rw (← append-nil (map bare places)) (every_bare (sized k) (λ p. refl) places [])
spots_sized {k} (an_entry {f = f} {places = places} {ml = ml} {p = p} {ss = ss} num e l r) =
    every_bare (sized k) (λ p. refl) (take (value f) places) (call p (take k ml) ∷ ss)
    ∙ and_true (eqb (length (take k ml)) k) (every (sized k) ss) (eq-eqb (length (take k ml)) k (length-take-le k ml (leb-true k (length ml) l))) (spots_sized r)

-- every value is some call's, in order
spots_used : {k : ℕ} {fs : List (List ℕ)} {places ml : List ℕ} {ss : List Spot} {left : List ℕ} → SpotsRead k fs places ml ss left → concat_map values_of ss ++ left ≡ ml
spots_used (no_entry {places = places} {ml = ml}) = rw (← append-nil (map bare places)) (ap (λ (x : List ℕ). x ++ ml) (values_bare places []))
spots_used {k} (an_entry {f = f} {places = places} {ml = ml} {p = p} {ss = ss} {left = left} num e l r) =
    rw (values_bare (take (value f) places) (call p (take k ml) ∷ ss), append_assoc (take k ml) (concat_map values_of ss) left, spots_used r)
    (take-append-drop k ml)

groups_fit : {ml? : Bool} {seq : List ℕ} {ps : List (List ℕ)} {ml : List ℕ} {gs : List Group} → GroupsRead ml? seq ps ml gs
    → every (lacks semicolon) ps ≡ true → every (every is_ascii) ps ≡ true → AllFit ml? seq gs
groups_fit no_group_lem a b = tt
groups_fit (a_group_lem {g = g} {gs = ps} long r rs) a b = (
  record {
    long = long;
    no_comma = up_to_lacks comma g;
    no_semi = up_to_every _ comma g (and_true_l (lacks semicolon g) (every (lacks semicolon) ps) a);
    low = up_to_every _ comma g (and_true_l (every is_ascii g) (every (every is_ascii) ps) b);
    places = spots_at r;
    sizes = spots_sized r;
  },
  groups_fit rs (and_true_r (lacks semicolon g) (every (lacks semicolon) ps) a) (and_true_r (every is_ascii g) (every (every is_ascii) ps) b),
)

-- what is read fits SEQ
pub tag_fits : {ml? : Bool} {seq text ml : List ℕ} {gs : List Group} → TagRead ml? seq text ml gs → AllFit ml? seq gs
tag_fits {text = text} t = groups_fit t.groups (closed_by_lacks semicolon text) (closed_by_every is_ascii semicolon text t.low)

groups_some : {ml? : Bool} {seq : List ℕ} {ps : List (List ℕ)} {ml : List ℕ} {gs : List Group} → GroupsRead ml? seq ps ml gs → is_empty gs ≡ is_empty ps
groups_some no_group_lem = refl
groups_some (a_group_lem long r rs) = refl

-- there is a group
pub tag_some : {ml? : Bool} {seq text ml : List ℕ} {gs : List Group} → TagRead ml? seq text ml gs → is_empty gs ≡ false
tag_some {text = text} t = groups_some t.groups ∙ closed_by_some text t.ends

groups_used : {ml? : Bool} {seq : List ℕ} {ps : List (List ℕ)} {ml : List ℕ} {gs : List Group} → GroupsRead ml? seq ps ml gs → ml_of gs ≡ ml
unfolding ml_of
groups_used no_group_lem = refl
groups_used (a_group_lem {ss = ss} long r rs) = ap (λ (x : List ℕ). concat_map values_of ss ++ x) (groups_used rs) ∙ spots_used r

-- the values of the calls, in order, are ML
pub tag_used : {ml? : Bool} {seq text ml : List ℕ} {gs : List Group} → TagRead ml? seq text ml gs → ml_of gs ≡ cond ml? ml []
tag_used t = groups_used t.groups

-- ---- a reading that some places are denied to

-- the spot is no call at a denied place
abbrev pub allowed : (ℕ → Bool) → Spot → Bool
allowed denied (bare p) = true
allowed denied (call p vs) = not (denied p)

-- the drop of the named places is open to the group
unfoldable pub may_drop : (ℕ → Bool) → Group → Bool
may_drop named g = every (allowed (denied_to g.header named)) g.spots

spots_denied : {k : ℕ} {fs : List (List ℕ)} {places ml : List ℕ} {ss : List Spot} {left : List ℕ} (denied : ℕ → Bool) → SpotsRead k fs places ml ss left
    → read_spots k denied fs places ml ≡ need (every (allowed denied) ss) 10 (Ok (ss, left))
unfolding read_spots
spots_denied {k} denied (no_entry {places = places}) = rw (← append-nil (map bare places), every_bare (allowed denied) (λ p. refl) places [])
spots_denied {k} denied (an_entry {f = f} {places = places} {ml = ml} {p = p} {rest = rest} {ss = ss} {left = left} num e l r) =
    rw (num, e, l, need_out, spots_denied denied r, every_bare (allowed denied) (λ p. refl) (take (value f) places) (call p (take k ml) ∷ ss))
    (need_both (not (denied p)) (every (allowed denied) ss) 10 (ss, left) _)

groups_denied : {ml? : Bool} {seq : List ℕ} {ps : List (List ℕ)} {ml : List ℕ} {gs : List Group} (named : ℕ → Bool) → GroupsRead ml? seq ps ml gs
    → read_groups ml? named seq ps ml ≡ need (every (may_drop named) gs) 10 (Ok gs)
unfolding read_groups read_group may_drop
groups_denied named no_group_lem = refl
groups_denied {ml?} {seq} named (a_group_lem {g = g} {gs = ps} {ml = ml} {left = left} {ss = ss} {rest = rest} long r rs) =
    let h = up_to comma g in
    rw (long, spots_denied (denied_to h named) r, need_out, need_out, groups_denied named rs)
    (need_both (every (allowed (denied_to h named)) ss) (every (may_drop named) rest) 10 rest _)

-- For a tag that can be read, the drop of some places is refused with 10 exactly when a group whose header doesn't end in '?' lists a call there.
pub tag_denied : {ml? : Bool} {seq text ml : List ℕ} {gs : List Group} (named : ℕ → Bool) → TagRead ml? seq text ml gs
    → read ml? named seq text ml ≡ need (every (may_drop named) gs) 10 (Ok gs)
unfolding read
tag_denied named t = rw (t.low, t.ends) (groups_denied named t.groups)
