-- The call list rises strictly: by group, and within a group by place. So no call is in it twice, and a call can be searched for.
-- Assumes nothing.
use Rattle.std.specs.Prelude.{Ok}
use mathlib.Core.Path.{◌≡◌, refl}
use Prim.Native.Nat.{◌+◌, ◌<◌, suc, ℕ}
use native.Mathlib.Omega.{arith}
use mathlib.Core.Bool.{Bool, ◌&&◌, ◌||◌, true}
use mathlib.Core.List.{List, [], ◌++◌, ◌∷◌, map}
use lib.Dec.{eqb, ltb}
use lib.ListN.{length}
use borrow.Author.Tests.{eq-eqb, le-ltb, lt-ltb}
use Rattle.lent.proofs.Lists.{every_append}
use Rattle.lent.proofs.Outcome.{and_then_inv, done_inj, need_rest}
use Rattle.lent.proofs.Tests.{and_true, and_true_l, and_true_r, by-test}
use Rattle.lent.specs.Lists.{every}
use Rattle.samtags.proofs.Read.{GroupsRead, a_group_lem, no_group_lem, spots_at, tag_read}
use Rattle.samtags.specs.Bytes.{comma}
use Rattle.samtags.specs.Reading.{Row, call_list, in_domain, lists, nowhere, read, read_tag, rows_from, rows_of, values_in}
use Rattle.samtags.specs.Spots.{Call, Group, Listing, Spot, bare, call, calls_in, holds, listing, place_of, places_from, tracked}
use Rattle.samtags.specs.Text.{base_of, up_to}

-- one row comes before another: in an earlier group, or in the same group at an earlier place
abbrev pub comes_before : Row → Row → Bool
comes_before r s = ltb r.group s.group || (eqb r.group s.group && ltb r.place s.place)

-- each element comes before all that follow
abbrev pub rising : {A : Type 0} → (A → A → Bool) → List A → Bool
rising before [] = true
rising before (x ∷ xs) = every (before x) xs && rising before xs

-- ---- places of one group

places_from_lem : (t : ℕ → Bool) (i n : ℕ) (xs : List ℕ) → n < i → every (ltb n) (places_from t i xs) ≡ true
places_from_lem t i n [] h = refl
places_from_lem t i n (x ∷ xs) h =
    by-test (t x) (λ e. rw (e, lt-ltb n i h) (places_from_lem t (suc i) n xs (omega arith))) (λ e. rw e (places_from_lem t (suc i) n xs (omega arith)))

places_rise : (t : ℕ → Bool) (i : ℕ) (xs : List ℕ) → rising ltb (places_from t i xs) ≡ true
places_rise t i [] = refl
places_rise t i (x ∷ xs) =
    by-test (t x) (λ e. rw (e, places_from_lem t (suc i) i xs (omega arith)) (places_rise t (suc i) xs)) (λ e. rw e (places_rise t (suc i) xs))

abbrev call_places : List Call → List ℕ
call_places cs = map (λ (c : Call). c.place) cs

calls_every : (t : ℕ → Bool) (ss : List Spot) → every t (map place_of ss) ≡ true → every t (call_places (calls_in ss)) ≡ true
calls_every t [] e = refl
calls_every t (bare p ∷ ss) e = calls_every t ss (and_true_r (t p) (every t (map place_of ss)) e)
calls_every t (call p vs ∷ ss) e =
    and_true (t p) (every t (call_places (calls_in ss))) (and_true_l (t p) (every t (map place_of ss)) e) (calls_every t ss (and_true_r (t p) (every t (map place_of ss)) e))

-- the calls are some of the spots
calls_rise : (ss : List Spot) → rising ltb (map place_of ss) ≡ true → rising ltb (call_places (calls_in ss)) ≡ true
calls_rise [] e = refl
calls_rise (bare p ∷ ss) e = calls_rise ss (and_true_r (every (ltb p) (map place_of ss)) _ e)
calls_rise (call p vs ∷ ss) e =
    and_true (every (ltb p) (call_places (calls_in ss))) _ (calls_every (ltb p) ss (and_true_l (every (ltb p) (map place_of ss)) _ e))
    (calls_rise ss (and_true_r (every (ltb p) (map place_of ss)) _ e))

-- ---- rows of one group

row_before : (g u p s : ℕ) (cs : List Call) → every (ltb p) (call_places cs) ≡ true
    → every (comes_before (record { group = g; place = p; start = s })) (rows_of g u cs) ≡ true
row_before g u p s [] e = refl
row_before g u p s (c ∷ cs) e =
    rw (le-ltb g g (omega arith), eq-eqb g g refl)
    (and_true (ltb p c.place) _ (and_true_l (ltb p c.place) _ e) (row_before g (u + length c.values) p s cs (and_true_r (ltb p c.place) _ e)))

rows_rise : (g u : ℕ) (cs : List Call) → rising ltb (call_places cs) ≡ true → rising comes_before (rows_of g u cs) ≡ true
rows_rise g u [] e = refl
rows_rise g u (c ∷ cs) e =
    let v = u + length c.values in
    and_true (every (comes_before (record { group = g; place = c.place; start = u })) (rows_of g v cs)) _
    (row_before g v c.place u cs (and_true_l (every (ltb c.place) (call_places cs)) _ e))
    (rows_rise g v cs (and_true_r (every (ltb c.place) (call_places cs)) _ e))

rows_group : (t : Row → Bool) (g u : ℕ) → ((p s : ℕ) → t (record { group = g; place = p; start = s }) ≡ true) → (cs : List Call) → every t (rows_of g u cs) ≡ true
rows_group t g u f [] = refl
rows_group t g u f (c ∷ cs) = rw (f c.place u) (rows_group t g (u + length c.values) f cs)

-- ---- rows of all groups

-- a row of an earlier group
before_groups : (r : Row) (g u : ℕ) (ls : List Listing) → r.group < g → every (comes_before r) (rows_from g u ls) ≡ true
before_groups r g u [] h = refl
before_groups r g u (l ∷ ls) h =
    rw (every_append (comes_before r) (rows_of g u l.calls) (rows_from (suc g) (u + values_in l.calls) ls))
    (and_true _ _ (rows_group (comes_before r) g u (λ p s. rw (lt-ltb r.group g h)) l.calls) (before_groups r (suc g) (u + values_in l.calls) ls (omega arith)))

rising_append : (xs ys : List Row) → rising comes_before xs ≡ true → rising comes_before ys ≡ true → every (λ x. every (comes_before x) ys) xs ≡ true
    → rising comes_before (xs ++ ys) ≡ true
rising_append [] ys a b c = b
rising_append (x ∷ xs) ys a b c =
    rw (every_append (comes_before x) xs ys, and_true_l (every (comes_before x) xs) _ a, and_true_l (every (comes_before x) ys) _ c)
    (rising_append xs ys (and_true_r (every (comes_before x) xs) _ a) b (and_true_r (every (comes_before x) ys) _ c))

-- the calls of each listing rise
abbrev each_rises : List Listing → Bool
each_rises ls = every (λ (l : Listing). rising ltb (call_places l.calls)) ls

list_rises : (g u : ℕ) (ls : List Listing) → each_rises ls ≡ true → rising comes_before (rows_from g u ls) ≡ true
list_rises g u [] e = refl
list_rises g u (l ∷ ls) e =
    let rest = rows_from (suc g) (u + values_in l.calls) ls in
    rising_append (rows_of g u l.calls) rest
    (rows_rise g u l.calls (and_true_l (rising ltb (call_places l.calls)) _ e))
    (list_rises (suc g) (u + values_in l.calls) ls (and_true_r (rising ltb (call_places l.calls)) _ e))
    (rows_group (λ x. every (comes_before x) rest) g u (λ p s. before_groups (record { group = g; place = p; start = s }) (suc g) (u + values_in l.calls) ls (omega arith)) l.calls)

-- ---- the call list of a tag that is read

tracked_rises : (b : ℕ) (seq : List ℕ) → rising ltb (tracked b seq) ≡ true
unfolding tracked
tracked_rises b seq = places_rise (holds b) 0 seq

groups_rise : {ml? : Bool} {seq : List ℕ} {ps : List (List ℕ)} {ml : List ℕ} {gs : List Group} → GroupsRead ml? seq ps ml gs → each_rises (map listing gs) ≡ true
groups_rise no_group_lem = refl
groups_rise {seq = seq} (a_group_lem {g = g} {ss = ss} {rest = rest} long spots more) =
    and_true (rising ltb (call_places (calls_in ss))) _
    (calls_rise ss (rw (spots_at spots) (tracked_rises (base_of (up_to comma g)) seq)))
    (groups_rise more)

pub call_list_rises : (ml? : Bool) (seq text ml : List ℕ) (ls : List Listing) → read_tag ml? seq text ml ≡ Ok ls → rising comes_before (call_list ls) ≡ true
unfolding read_tag lists call_list
call_list_rises ml? seq text ml ls e =
    let i = and_then_inv (read ml? nowhere seq text ml) _ ls (need_rest (in_domain ml? seq text ml) 1 _ ls e) in
    let w = tag_read ml? nowhere seq text ml i.0 i.1 in
    rw (← done_inj i.2) (list_rises 1 0 (map listing i.0) (groups_rise w.groups))
