-- A strand's own tag is its group's tag if there is a chemistry and a call, and otherwise empty. The joined tag is the strands' own tags, one after the
-- other.
-- Assumes nothing.
use Rattle.std.specs.Prelude.{Option, None, Some}
use mathlib.Core.Path.{◌∙◌, ◌≡◌, ap, refl, sym}
use Prim.Native.Nat.{◌<◌, suc, ℕ}
use native.Mathlib.Omega.{arith}
use mathlib.Core.Bool.{Bool, ◌&&◌, false, not, true}
use mathlib.Core.List.{List, [], ◌++◌, ◌∷◌, append-nil, map}
use lib.Dec.{eqb}
use lib.ListN.{length}
use borrow.Author.Tests.{ne_eqb}
use Rattle.lent.proofs.Tests.{by-test}
use Rattle.lent.specs.Lists.{concat_map, filter, is_empty}
use Rattle.pattern.specs.Case.{same_in_any_case}
use Rattle.pattern.specs.Patterns.{is_enabled, letter_of}
use Rattle.pattern.specs.declared.ConversionPattern.{ConversionPattern}
use Rattle.pattern.specs.declared.ConversionPattern.TheVariants.{CToT, GToA}
use Rattle.pattern.specs.declared.MethylationMode.{MethylationMode}
use Rattle.samtags.specs.Building.{Evidence, Strand, called_at, group_of, has_calls, in_join_order, joined_groups, joined_tag, own_tag, spot_at, strand_group}
use Rattle.samtags.specs.Spots.{Group, calls_in, places_from, values_of}
use Rattle.samtags.specs.Writing.{Tag, group_text, ml_of, text_of, written}

-- a strand alone stays alone
alone : (p : ConversionPattern) (ev : Evidence) → in_join_order (record { pattern = p; evidence = ev } ∷ []) ≡ record { pattern = p; evidence = ev } ∷ []
alone CToT ev = refl
alone GToA ev = refl

module _ (mode : MethylationMode) (p : ConversionPattern) (ev : Evidence) (seq : List ℕ) where
  pub own_disabled : is_enabled mode ≡ false → own_tag mode p ev seq ≡ written []
  unfolding joined_tag joined_groups
  own_disabled e = rw e

  pub own_silent : has_calls (strand_group mode p ev seq) ≡ false → own_tag mode p ev seq ≡ written []
  unfolding joined_tag joined_groups
  own_silent h = by-test (is_enabled mode) (λ e. rw (e, alone p ev, h)) (λ e. rw e)

  pub own_called : is_enabled mode ≡ true → has_calls (strand_group mode p ev seq) ≡ true → own_tag mode p ev seq ≡ written (strand_group mode p ev seq ∷ [])
  unfolding joined_tag joined_groups
  own_called e h = rw (e, alone p ev, h)

-- a strand's call has one value, so its group has calls exactly when it has values
spots_have : (f : ℕ → Option ℕ) (ps : List ℕ)
    → is_empty (calls_in (map (λ q. spot_at (f q) q) ps)) ≡ eqb (length (concat_map values_of (map (λ q. spot_at (f q) q) ps))) 0
spots_have f [] = refl
spots_have f (p ∷ ps) = one (spots_have f ps) (f p)
  where
    one : is_empty (calls_in (map (λ q. spot_at (f q) q) ps)) ≡ eqb (length (concat_map values_of (map (λ q. spot_at (f q) q) ps))) 0
        → (v : Option ℕ) → is_empty (calls_in (spot_at v p ∷ map (λ q. spot_at (f q) q) ps))
        ≡ eqb (length (concat_map values_of (spot_at v p ∷ map (λ q. spot_at (f q) q) ps))) 0
    one rest None = rest
    one rest (Some v) = sym (ne_eqb (suc (length (concat_map values_of (map (λ q. spot_at (f q) q) ps)))) 0 (omega arith))

pub has_calls_lem : (mode : MethylationMode) (p : ConversionPattern) (ev : Evidence) (seq : List ℕ)
    → has_calls (strand_group mode p ev seq) ≡ not (eqb (length (written (strand_group mode p ev seq ∷ [])).ml) 0)
unfolding strand_group written ml_of
has_calls_lem mode p ev seq =
    let spots = (strand_group mode p ev seq).spots in
    rw (append-nil (concat_map values_of spots)) (ap not (spots_have (called_at mode ev) (places_from (same_in_any_case (letter_of p)) 0 seq)))

module _ (mode : MethylationMode) (p : ConversionPattern) (ev : Evidence) (seq : List ℕ) where
  -- by how many values the strand's group has
  pub no_values : length (written (strand_group mode p ev seq ∷ [])).ml ≡ 0 → has_calls (strand_group mode p ev seq) ≡ false
  no_values z = has_calls_lem mode p ev seq ∙ rw z

  pub some_values : 0 < length (written (strand_group mode p ev seq ∷ [])).ml → has_calls (strand_group mode p ev seq) ≡ true
  some_values h = has_calls_lem mode p ev seq ∙ rw (ne_eqb (length (written (strand_group mode p ev seq ∷ [])).ml) 0 (omega arith))

  -- by how many values its own tag has
  pub own_empty : length (own_tag mode p ev seq).ml ≡ 0 → own_tag mode p ev seq ≡ written []
  own_empty z =
      by-test (is_enabled mode)
      (λ e. by-test (has_calls (strand_group mode p ev seq))
      (λ h. own_silent mode p ev seq (no_values (rw (own_called mode p ev seq e h) at z)))
      (λ h. own_silent mode p ev seq h))
      (λ e. own_disabled mode p ev seq e)

  pub own_full : 0 < length (own_tag mode p ev seq).ml → own_tag mode p ev seq ≡ written (strand_group mode p ev seq ∷ [])
  unfolding written ml_of
  own_full l =
      by-test (is_enabled mode)
      (λ e. by-test (has_calls (strand_group mode p ev seq))
      (λ h. own_called mode p ev seq e h)
      (λ h. let z : 0 < 0 = rw (own_silent mode p ev seq h) at l in absurd (omega arith)))
      (λ e. let z : 0 < 0 = rw (own_disabled mode p ev seq e) at l in absurd (omega arith))

  pub own_none : length (own_tag mode p ev seq).ml ≡ 0 → is_enabled mode && has_calls (strand_group mode p ev seq) ≡ false
  own_none z =
      by-test (is_enabled mode)
      (λ e. rw e (by-test (has_calls (strand_group mode p ev seq)) (λ h. no_values (rw (own_called mode p ev seq e h) at z)) (λ h. h)))
      (λ e. rw e)

  pub own_some : 0 < length (own_tag mode p ev seq).ml → is_enabled mode && has_calls (strand_group mode p ev seq) ≡ true
  unfolding written ml_of
  own_some l =
      by-test (is_enabled mode)
      (λ e. rw e (by-test (has_calls (strand_group mode p ev seq))
      (λ h. h)
      (λ h. let z : 0 < 0 = rw (own_silent mode p ev seq h) at l in absurd (omega arith))))
      (λ e. let z : 0 < 0 = rw (own_disabled mode p ev seq e) at l in absurd (omega arith))

-- ---- the joined tag

-- groups that are kept, one after the other
text_parted : (t : Group → Bool) (g : Group) (gs : List Group) → text_of (filter t (g ∷ gs)) ≡ text_of (filter t (g ∷ [])) ++ text_of (filter t gs)
unfolding text_of
text_parted t g gs = by-test (t g) (λ e. rw (e, append-nil (group_text g))) (λ e. rw e)

ml_parted : (t : Group → Bool) (g : Group) (gs : List Group) → ml_of (filter t (g ∷ gs)) ≡ ml_of (filter t (g ∷ [])) ++ ml_of (filter t gs)
unfolding ml_of
ml_parted t g gs = by-test (t g) (λ e. rw (e, append-nil (concat_map values_of g.spots))) (λ e. rw e)

module _ (mode : MethylationMode) (seq : List ℕ) where
  abbrev pub own_of : Strand → Tag
  own_of s = own_tag mode s.pattern s.evidence seq

  -- where there is a chemistry
  own_text : is_enabled mode ≡ true → (s : Strand) → (own_of s).text ≡ text_of (filter has_calls (group_of mode seq s ∷ []))
  unfolding joined_tag joined_groups written text_of
  own_text e s = rw (e, alone s.pattern s.evidence)

  own_ml : is_enabled mode ≡ true → (s : Strand) → (own_of s).ml ≡ ml_of (filter has_calls (group_of mode seq s ∷ []))
  unfolding joined_tag joined_groups written ml_of
  own_ml e s = rw (e, alone s.pattern s.evidence)

  kept_texts : is_enabled mode ≡ true → (ss : List Strand) → text_of (filter has_calls (map (group_of mode seq) ss)) ≡ concat_map (λ s. (own_of s).text) ss
  unfolding text_of
  kept_texts e [] = refl
  kept_texts e (s ∷ ss) =
      text_parted has_calls (group_of mode seq s) (map (group_of mode seq) ss) ∙ (λ j. sym (own_text e s) j ++ kept_texts e ss j)

  kept_values : is_enabled mode ≡ true → (ss : List Strand) → ml_of (filter has_calls (map (group_of mode seq) ss)) ≡ concat_map (λ s. (own_of s).ml) ss
  unfolding ml_of
  kept_values e [] = refl
  kept_values e (s ∷ ss) =
      ml_parted has_calls (group_of mode seq s) (map (group_of mode seq) ss) ∙ (λ j. sym (own_ml e s) j ++ kept_values e ss j)

  -- where there is none
  silent_texts : is_enabled mode ≡ false → (ss : List Strand) → concat_map (λ s. (own_of s).text) ss ≡ []
  unfolding written text_of
  silent_texts e [] = refl
  silent_texts e (s ∷ ss) = rw (own_disabled mode s.pattern s.evidence seq e, silent_texts e ss)

  silent_values : is_enabled mode ≡ false → (ss : List Strand) → concat_map (λ s. (own_of s).ml) ss ≡ []
  unfolding written ml_of
  silent_values e [] = refl
  silent_values e (s ∷ ss) = rw (own_disabled mode s.pattern s.evidence seq e, silent_values e ss)

  joined_enabled : is_enabled mode ≡ true → (ss : List Strand) → joined_tag mode ss seq ≡ written (filter has_calls (map (group_of mode seq) (in_join_order ss)))
  unfolding joined_tag joined_groups
  joined_enabled e ss = rw e

  joined_disabled : is_enabled mode ≡ false → (ss : List Strand) → joined_tag mode ss seq ≡ written []
  unfolding joined_tag joined_groups
  joined_disabled e ss = rw e

  -- The joined text and the joined ML are the strands' own, one after the other, C to T first.
  pub joined_text : (ss : List Strand) → (joined_tag mode ss seq).text ≡ concat_map (λ s. (own_of s).text) (in_join_order ss)
  unfolding written text_of
  joined_text ss =
      by-test (is_enabled mode)
      (λ e. ap (λ (t : Tag). t.text) (joined_enabled e ss) ∙ kept_texts e (in_join_order ss))
      (λ e. ap (λ (t : Tag). t.text) (joined_disabled e ss) ∙ sym (silent_texts e (in_join_order ss)))

  pub joined_ml : (ss : List Strand) → (joined_tag mode ss seq).ml ≡ concat_map (λ s. (own_of s).ml) (in_join_order ss)
  unfolding written ml_of
  joined_ml ss =
      by-test (is_enabled mode)
      (λ e. ap (λ (t : Tag). t.ml) (joined_enabled e ss) ∙ kept_values e (in_join_order ss))
      (λ e. ap (λ (t : Tag). t.ml) (joined_disabled e ss) ∙ sym (silent_values e (in_join_order ss)))
