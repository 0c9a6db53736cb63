-- An edit is only used at the tracked places of SEQ: two edits that agree there edit every tag alike.
-- Assumes nothing.
use Rattle.std.specs.Prelude.{Ok, Err}
use mathlib.Core.Path.{◌≡◌, refl, ap, ◌∙◌}
use Prim.Native.Nat.{ℕ, zero, suc}
use mathlib.Core.Bool.{Bool, cond, not, ◌&&◌}
use mathlib.Core.List.{List, [], ◌∷◌, ◌++◌, map}
use lib.ListN.{length, take, drop}
use lib.Dec.{leb}
use Rattle.lent.proofs.Lists.{Agree, agree_imp}
use Rattle.lent.proofs.Tests.{by-test}
use Rattle.lent.specs.Lists.{filter}
use Rattle.lent.specs.Outcome.{Outcome, and_then, need, with_first}
use Rattle.samtags.specs.Bytes.{comma, semicolon}
use Rattle.samtags.specs.Decimal.{is_number, value}
use Rattle.samtags.specs.Edits.{Edit, unlist, changed, edited}
use Rattle.samtags.specs.Reading.{denied_to, read, read_entry, read_group, read_groups, read_spots, values_if}
use Rattle.samtags.specs.Spots.{Group, Spot, bare, call, place_of, tracked}
use Rattle.samtags.specs.Text.{base_of, ends_in_question, closed_by, led_by, up_to}
use Rattle.samtags.specs.Writing.{written}
use Rattle.samtags.proofs.Read.{tag_fits, tag_read}
use Rattle.samtags.proofs.ReadWritten.{Fits}
use Rattle.samtags.proofs.Steps.{all_same, at_places, places_unlist}

agree_drop : (s t : ℕ → Bool) (n : ℕ) (ps : List ℕ) → Agree s t ps → Agree s t (drop n ps)
agree_drop s t zero ps a = a
agree_drop s t (suc n) [] a = tt
agree_drop s t (suc n) (p ∷ ps) a = agree_drop s t n ps a.1

-- ---- reading

spots_same : (k : ℕ) (s t : ℕ → Bool) (fs : List (List ℕ)) (places ml : List ℕ) → Agree s t places
    → read_spots k s fs places ml ≡ read_spots k t fs places ml
unfolding read_spots read_entry
spots_same k s t [] places ml a = refl
spots_same k s t (f ∷ fs) places ml a =
    by-test (is_number f)
    (λ e. rw e (go (λ rest. spots_same k s t fs rest (drop k ml)) (drop (value f) places) (agree_drop s t (value f) places a)))
    (λ e. rw e)
  where
    -- what is read from the place on that an entry may list
    from_entry : (ℕ → Bool) → List ℕ → Outcome (List Spot × List ℕ)
    from_entry d l =
        and_then {A = ℕ × List ℕ} (with_first l 7 (λ p rest. need (leb k (length ml)) 8 (need (not (d p)) 10 (Ok (p, rest))))) (λ e.
        and_then (read_spots k d fs e.1 (drop k ml)) (λ r.
        Ok (map bare (take (value f) places) ++ call e.0 (take k ml) ∷ r.0, r.1)))

    go : ((rest : List ℕ) → Agree s t rest → read_spots k s fs rest (drop k ml) ≡ read_spots k t fs rest (drop k ml))
        → (l : List ℕ) → Agree s t l → from_entry s l ≡ from_entry t l
    go more [] b = refl
    go more (p ∷ rest) b =
        rw b.0
        (by-test (leb k (length ml))
        (λ u. by-test (t p) (λ v. rw (u, v)) (λ v. rw (u, v, more rest b.1)))
        (λ u. rw u))

module _ (ml? : Bool) (s t : ℕ → Bool) (seq : List ℕ) (same : (b : ℕ) → Agree s t (tracked b seq)) where
  group_same : (g ml : List ℕ) → read_group ml? s seq g ml ≡ read_group ml? t seq g ml
  unfolding read_group
  group_same g ml =
      let h = up_to comma g in
      let b = base_of h in
      rw (spots_same (values_if ml? h) (denied_to h s) (denied_to h t) (led_by comma g) (tracked b seq) ml
      (agree_imp s t (denied_to h s) (denied_to h t) (λ p e. ap (λ (x : Bool). x && not (ends_in_question h)) e) (tracked b seq) (same b)))

  groups_same : (gs : List (List ℕ)) (ml : List ℕ) → read_groups ml? s seq gs ml ≡ read_groups ml? t seq gs ml
  unfolding read_groups
  groups_same [] ml = refl
  groups_same (g ∷ gs) ml = rw (group_same g ml) (go (groups_same gs) (read_group ml? t seq g ml))
    where
      go : ((left : List ℕ) → read_groups ml? s seq gs left ≡ read_groups ml? t seq gs left) → (o : Outcome (Group × List ℕ))
          → and_then o (λ r. and_then (read_groups ml? s seq gs r.1) (λ rest. Ok (r.0 ∷ rest)))
          ≡ and_then o (λ r. and_then (read_groups ml? t seq gs r.1) (λ rest. Ok (r.0 ∷ rest)))
      go more (Err r) = refl
      go more (Ok r) = rw (more r.1)

  read_same : (text ml : List ℕ) → read ml? s seq text ml ≡ read ml? t seq text ml
  unfolding read
  read_same text ml = rw (groups_same (closed_by semicolon text) (cond ml? ml []))

-- ---- changing

unlist_same : (s t : ℕ → Bool) (ss : List Spot) → Agree s t (map place_of ss) → map (unlist s) ss ≡ map (unlist t) ss
unlist_same s t [] a = refl
unlist_same s t (bare p ∷ ss) a = ap (λ (r : List Spot). bare p ∷ r) (unlist_same s t ss a.1)
unlist_same s t (call p vs ∷ ss) a = rw (a.0, unlist_same s t ss a.1)

module _ (e d : Edit) (ml? : Bool) (seq : List ℕ) (held : (b : ℕ) → Agree (e.still_held b) (d.still_held b) (tracked b seq))
    (dropped : (b : ℕ) → Agree e.dropped d.dropped (tracked b seq)) where
  changed_same : (g : Group) → Fits ml? seq g → changed e g ≡ changed d g
  unfolding changed
  changed_same g f =
      let b = base_of g.header in
      let there : Agree e.dropped d.dropped (map place_of g.spots) = rw f.places (dropped b) in
      let here : Agree (e.still_held b) (d.still_held b) (map place_of (map (unlist d.dropped) g.spots)) =
      rw (places_unlist d.dropped g.spots, f.places) (held b) in
      ap (λ (ss : List Spot). record { header = g.header; spots = ss })
      (ap (filter (λ (x : Spot). e.still_held b (place_of x))) (unlist_same e.dropped d.dropped g.spots there)
      ∙ at_places (e.still_held b) (d.still_held b) (map (unlist d.dropped) g.spots) here)

  -- edits that agree at every tracked place
  pub edited_same : (text ml : List ℕ) → edited e ml? seq text ml ≡ edited d ml? seq text ml
  unfolding edited
  edited_same text ml = rw (read_same ml? e.dropped d.dropped seq dropped text ml) (go (read ml? d.dropped seq text ml) refl)
    where
      go : (o : Outcome (List Group)) → read ml? d.dropped seq text ml ≡ o
          → and_then o (λ gs. Ok (written (map (changed e) gs))) ≡ and_then o (λ gs. Ok (written (map (changed d) gs)))
      go (Err r) q = refl
      go (Ok gs) q =
          ap (λ (hs : List Group). Ok (written hs))
          (all_same ml? seq (changed e) (changed d) changed_same gs (tag_fits (tag_read ml? d.dropped seq text ml gs q)))
