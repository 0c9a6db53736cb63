-- An edited tag is no longer than the tag that came in: each call that goes saves at least one byte of text.
-- Assumes nothing.
use Rattle.std.specs.Prelude.{Ok}
use mathlib.Core.Path.{◌≡◌, refl, ap, ◌∙◌, subst}
use Prim.Native.Nat.{ℕ, zero, suc, ◌+◌, ◌*◌, ◌^◌, ◌≤◌, ◌<◌}
use native.Mathlib.Omega.{arith}
use native.Mathlib.Nat.{pow-succ', mul-le-mul_left, mul-le-mul_right}
use mathlib.Core.Bool.{Bool, cond}
use mathlib.Core.List.{List, [], ◌∷◌, ◌++◌, map, append-nil}
use mathlib.Core.Logic.{◌⊎◌, inl, inr}
use lib.ListN.{length, take, length-append, length-take}
use lib.Pow.{pow-add}
use lib.Dec.{eqb}
use Rattle.lent.specs.Lists.{filter, concat_map}
use Rattle.lent.proofs.Tests.{by-test}
use Rattle.lent.proofs.Lists.{filter_length}
use Rattle.samtags.specs.Bytes.{comma, semicolon}
use Rattle.samtags.specs.Decimal.{digits, value}
use Rattle.samtags.specs.Text.{up_to, led_by, closed_by, push, base_of}
use Rattle.samtags.specs.Spots.{Spot, bare, call, place_of, values_of, Group, calls_in}
use Rattle.samtags.specs.Reading.{read}
use Rattle.samtags.specs.Writing.{Tag, skips_from, entries_text, text_of, ml_of, written}
use Rattle.samtags.specs.Edits.{Edit, unlist, changed, edited}
use Rattle.lent.proofs.Outcome.{done_inj, and_then_inv}
use Rattle.samtags.proofs.Decimal.{digits_fit, value_lt, number_some}
use Rattle.samtags.proofs.Read.{SpotsRead, no_entry, an_entry, GroupsRead, no_group_lem, a_group_lem, tag_read, tag_used, calls_bare}

-- ---- numbers that were paid for

-- n spots were passed since the last entry that stays, and the entries that went since then had b digits
abbrev Paid : ℕ → ℕ → Type 0
Paid n b = ((b ≡ 0) × (n ≡ 0)) ⊎ ((0 < b) × (n ≤ 10 ^ b))

one_or_more : (l : ℕ) → 1 ≤ 10 ^ l
one_or_more zero = omega arith
one_or_more (suc l) = rw (pow-succ' 10 l) (omega (arith, one_or_more l))

ten_or_more : (l : ℕ) → 0 < l → 10 ≤ 10 ^ l
ten_or_more zero h = let z : ⊥ = omega arith in absurd z
ten_or_more (suc l) h = rw (pow-succ' 10 l) (omega (arith, one_or_more l))

-- with one entry more, of l digits, the number is written with no more digits than both
paid_sum : (n b m l : ℕ) → Paid n b → 0 < l → m < 10 ^ l → n + m < 10 ^ (b + l)
paid_sum n b m l (inl none) h k =
    let e : b + l ≡ l = omega arith in
    rw e (omega arith)
paid_sum n b m l (inr some) h k = rw (pow-add 10 b l) (go (10 ^ b) (10 ^ l) (ten_or_more b some.0) (ten_or_more l h) some.1 k)
  where
    go : (x y : ℕ) → 10 ≤ x → 10 ≤ y → n ≤ x → m < y → n + m < x * y
    go x y a c d e = omega (arith, mul-le-mul_right y a, mul-le-mul_left x c)

-- ---- a group's entries

-- the bytes of the fields and of what leads or closes them
abbrev pub fields_length : List (List ℕ) → ℕ
fields_length [] = 0
fields_length (f ∷ fs) = suc (length f) + fields_length fs

-- what values weigh, each as w says: how many there are, or how long they are written
abbrev pub weight : (ℕ → ℕ) → List ℕ → ℕ
weight w [] = 0
weight w (v ∷ vs) = w v + weight w vs

weight_append : (w : ℕ → ℕ) (xs ys : List ℕ) → weight w (xs ++ ys) ≡ weight w xs + weight w ys
weight_append w [] ys = omega arith
weight_append w (x ∷ xs) ys = omega (arith, weight_append w xs ys)

weight_one : (xs : List ℕ) → weight (λ v. 1) xs ≡ length xs
weight_one [] = refl
weight_one (x ∷ xs) = omega (arith, weight_one xs)

-- what an edit does to the spots of a group: `held` are the places that are still of its kind
abbrev pub change : (ℕ → Bool) → (ℕ → Bool) → List Spot → List Spot
change held dropped ss = filter (λ s. held (place_of s)) (map (unlist dropped) ss)

module _ (held dropped : ℕ → Bool) where
  -- bare spots that are still of the kind are passed over, and the others are gone
  pub skips_bare : (n : ℕ) (ps : List ℕ) (ss : List Spot)
      → skips_from n (change held dropped (map bare ps ++ ss)) ≡ skips_from (n + length (filter held ps)) (change held dropped ss)
  skips_bare n [] ss = ap (λ (k : ℕ). skips_from k (change held dropped ss)) (omega arith)
  skips_bare n (p ∷ ps) ss =
      by-test (held p)
      (λ e. rw e (skips_bare (suc n) ps ss ∙ ap (λ (k : ℕ). skips_from k (change held dropped ss)) (omega arith)))
      (λ e. rw e (skips_bare n ps ss))

  left_bare : (ps : List ℕ) (ss : List Spot) → calls_in (change held dropped (map bare ps ++ ss)) ≡ calls_in (change held dropped ss)
  left_bare [] ss = refl
  left_bare (p ∷ ps) ss = by-test (held p) (λ e. rw e (left_bare ps ss)) (λ e. rw e (left_bare ps ss))

  spots_length : {k : ℕ} {fs : List (List ℕ)} {places ml : List ℕ} {ss : List Spot} {left : List ℕ} → SpotsRead k fs places ml ss left
      → (n b : ℕ) → Paid n b
      → length (entries_text (skips_from n (change held dropped ss))) + length (calls_in ss)
      ≤ fields_length fs + b + length (calls_in (change held dropped ss))
  spots_length (no_entry {places = places}) n b h =
      rw (← append-nil (map bare places), skips_bare n places [], left_bare places [], calls_bare places []) (omega arith)
  spots_length {k} (an_entry {f = f} {fs = fs} {places = places} {ml = ml} {p = p} {ss = ss} num e l r) n b h =
      let here : List Spot = call p (take k ml) ∷ ss in
      let m : ℕ = length (filter held (take (value f) places)) in
      let m-lt : m < 10 ^ length f = omega (arith, filter_length held (take (value f) places), length-take (value f) places, value_lt f num) in
      let sum : n + m < 10 ^ (b + length f) = paid_sum n b m (length f) h (number_some f num) m-lt in
      let long : 0 < b + length f = omega (arith, number_some f num) in
      rw (skips_bare n (take (value f) places) here, left_bare (take (value f) places) here, calls_bare (take (value f) places) here)
      (by-test (dropped p)
      (λ t. rw t (by-test (held p)
      (λ u. rw u (omega (arith, spots_length r (suc (n + m)) (b + length f) (inr (long, sum)))))
      (λ u. rw u (omega (arith, spots_length r (n + m) (b + length f) (inr (long, omega arith)))))))
      (λ t. rw t (by-test (held p)
      (λ u. rw u
      (let d : length (digits (n + m)) ≤ b + length f = digits_fit (n + m) (b + length f) long sum in
      omega (arith, length-append (digits (n + m)) (entries_text (skips_from 0 (change held dropped ss))), spots_length r 0 0 (inl (refl, refl)))))
      (λ u. rw u (omega (arith, spots_length r (n + m) (b + length f) (inr (long, omega arith))))))))

  -- no call is made
  calls_fewer : (ss : List Spot) → length (calls_in (change held dropped ss)) ≤ length (calls_in ss)
  calls_fewer [] = omega arith
  calls_fewer (bare p ∷ ss) = by-test (held p) (λ u. rw u (calls_fewer ss)) (λ u. rw u (calls_fewer ss))
  calls_fewer (call p vs ∷ ss) =
      by-test (dropped p)
      (λ t. rw t (by-test (held p) (λ u. rw u (omega (arith, calls_fewer ss))) (λ u. rw u (omega (arith, calls_fewer ss)))))
      (λ t. rw t (by-test (held p) (λ u. rw u (omega (arith, calls_fewer ss))) (λ u. rw u (omega (arith, calls_fewer ss)))))

  values_lighter : (w : ℕ → ℕ) (ss : List Spot) → weight w (concat_map values_of (change held dropped ss)) ≤ weight w (concat_map values_of ss)
  values_lighter w [] = omega arith
  values_lighter w (bare p ∷ ss) = by-test (held p) (λ u. rw u (values_lighter w ss)) (λ u. rw u (values_lighter w ss))
  values_lighter w (call p vs ∷ ss) =
      let ih = values_lighter w ss in
      let all = weight_append w vs (concat_map values_of ss) in
      by-test (dropped p)
      (λ t. rw t (by-test (held p) (λ u. rw u (omega arith)) (λ u. rw u (omega arith))))
      (λ t. rw t
      (by-test (held p) (λ u. rw u (omega (arith, weight_append w vs (concat_map values_of (change held dropped ss))))) (λ u. rw u (omega arith))))

-- ---- the whole text

-- how many calls the groups list
abbrev pub call_count : List Group → ℕ
call_count [] = 0
call_count (g ∷ gs) = length (calls_in g.spots) + call_count gs

pub piece_length : (g : List ℕ) → length (up_to comma g) + fields_length (led_by comma g) ≡ length g
piece_length [] = refl
piece_length (x ∷ xs) = by-test (eqb x comma) (λ e. rw e (omega (arith, piece_length xs))) (λ e. rw e (omega (arith, piece_length xs)))

push_length : (x : ℕ) (ps : List (List ℕ)) → fields_length (push x ps) ≤ suc (fields_length ps)
push_length x [] = omega arith
push_length x (p ∷ ps) = omega arith

text_length : (xs : List ℕ) → fields_length (closed_by semicolon xs) ≤ length xs
text_length [] = omega arith
text_length (x ∷ xs) =
    by-test (eqb x semicolon)
    (λ e. rw e (omega (arith, text_length xs)))
    (λ e. rw e (omega (arith, push_length x (closed_by semicolon xs), text_length xs)))

module _ (e : Edit) where
  groups_length : {ml? : Bool} {seq : List ℕ} {ps : List (List ℕ)} {ml : List ℕ} {gs : List Group} → GroupsRead ml? seq ps ml gs
      → length (text_of (map (changed e) gs)) + call_count gs ≤ fields_length ps + call_count (map (changed e) gs)
  unfolding text_of changed
  groups_length no_group_lem = omega arith
  groups_length (a_group_lem {g = g} {ss = ss} {rest = rest} long r rs) =
      let h = up_to comma g in
      let new = skips_from 0 (change (e.still_held (base_of h)) e.dropped ss) in
      omega (
        arith,
        length-append (h ++ entries_text new ++ semicolon ∷ []) (text_of (map (changed e) rest)),
        length-append (h ++ entries_text new) (semicolon ∷ []),
        length-append h (entries_text new),
        spots_length (e.still_held (base_of h)) e.dropped r 0 0 (inl (refl, refl)),
        piece_length g,
        groups_length rs,
      )

  count_fewer : (gs : List Group) → call_count (map (changed e) gs) ≤ call_count gs
  unfolding changed
  count_fewer [] = omega arith
  count_fewer (g ∷ gs) = omega (arith, calls_fewer (e.still_held (base_of g.header)) e.dropped g.spots, count_fewer gs)

  ml_lighter : (w : ℕ → ℕ) (gs : List Group) → weight w (ml_of (map (changed e) gs)) ≤ weight w (ml_of gs)
  unfolding ml_of changed
  ml_lighter w [] = omega arith
  ml_lighter w (g ∷ gs) =
      omega (
        arith,
        weight_append w (concat_map values_of (change (e.still_held (base_of g.header)) e.dropped g.spots)) (ml_of (map (changed e) gs)),
        weight_append w (concat_map values_of g.spots) (ml_of gs),
        values_lighter (e.still_held (base_of g.header)) e.dropped w g.spots,
        ml_lighter w gs,
      )

  -- each call that goes saves at least one byte of text
  pub each_call_saves : (ml? : Bool) (seq text ml : List ℕ) (gs : List Group) → read ml? e.dropped seq text ml ≡ Ok gs
      → length (text_of (map (changed e) gs)) + call_count gs ≤ length text + call_count (map (changed e) gs)
  each_call_saves ml? seq text ml gs r =
      omega (arith, groups_length (tag_read ml? e.dropped seq text ml gs r).groups, text_length text)

  -- the edited ML never weighs more than the ML that came in: its values are some of those
  pub never_heavier : (w : ℕ → ℕ) (ml? : Bool) (seq text ml : List ℕ) (r : Tag) → edited e ml? seq text ml ≡ Ok r
      → weight w r.ml ≤ weight w (cond ml? ml [])
  unfolding edited written
  never_heavier w ml? seq text ml r o =
      let i = and_then_inv (read ml? e.dropped seq text ml) _ r o in
      let gs = i.0 in
      subst (λ (q : Tag). weight w q.ml ≤ weight w (cond ml? ml [])) (done_inj i.2)
      (omega (arith, ml_lighter w gs, ap (weight w) (tag_used (tag_read ml? e.dropped seq text ml gs i.1))))

  -- the edited text and ML are never longer than the text and ML that came in
  pub never_longer : (ml? : Bool) (seq text ml : List ℕ) (r : Tag) → edited e ml? seq text ml ≡ Ok r
      → (length r.text ≤ length text) × (length r.ml ≤ length (cond ml? ml []))
  unfolding edited written
  never_longer ml? seq text ml r o =
      let i = and_then_inv (read ml? e.dropped seq text ml) _ r o in
      let gs = i.0 in
      subst (λ (q : Tag). (length q.text ≤ length text) × (length q.ml ≤ length (cond ml? ml []))) (done_inj i.2) (
        omega (arith, each_call_saves ml? seq text ml gs i.1, count_fewer gs),
        omega (
          arith,
          ml_lighter (λ v. 1) gs,
          weight_one (ml_of (map (changed e) gs)),
          weight_one (ml_of gs),
          ap length (tag_used (tag_read ml? e.dropped seq text ml gs i.1)),
        ),
      )
