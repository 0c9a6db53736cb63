-- A strand's spots in the order of the walk, place by place; and the strand's group and tag in terms of its spots.
-- Assumes nothing.
use Rattle.std.specs.Prelude.{Option, None, Some}
use mathlib.Core.Path.{◌∙◌, ◌≡◌, ap, sym}
use Prim.Native.Nat.{◌+◌, ◌<◌, ◌≤◌, ℕ}
use native.Mathlib.Numerals.{add-one}
use native.Mathlib.Omega.{arith}
use mathlib.Core.Bool.{false, true}
use mathlib.Core.List.{List, [], ◌++◌, ◌∷◌, append-nil}
use lib.ListN.{drop_of_length-le, get_or, length, length-append, length-map}
use lib.Seq.{sets}
use Rattle.lent.proofs.Lists.{concat_map_append, drop_here}
use Rattle.lent.proofs.Stores.{sets_append}
use Rattle.lent.proofs.Tests.{by-test}
use Rattle.lent.specs.Lists.{concat_map}
use Rattle.pattern.specs.Case.{same_in_any_case}
use Rattle.pattern.specs.Patterns.{letter_of}
use Rattle.pattern.specs.declared.ConversionPattern.{ConversionPattern}
use Rattle.pattern.specs.declared.MethylationMode.{MethylationMode}
use Rattle.samtags.proofs.Places.{places_length}
use Rattle.samtags.proofs.Skips.{bare_since, entries_append}
use Rattle.samtags.specs.Building.{Evidence, called, called_at, header_of, spot_at, strand_group}
use Rattle.samtags.specs.Bytes.{semicolon}
use Rattle.samtags.specs.Spots.{Spot, bare, call, places_from, values_of}
use Rattle.samtags.specs.Writing.{entries_text, group_text, ml_of, skips_from, text_of, written}
use Rattle.strand.specs.Walk.{spots_at, spots_from}

module _ (mode : MethylationMode) (p : ConversionPattern) (ev : Evidence) (seq : List ℕ) where
  pub spots_on : (i : ℕ) → i < length seq → spots_from mode p ev seq i ≡ spots_at mode p ev seq i ++ spots_from mode p ev seq (i + 1)
  unfolding spots_from spots_at
  spots_on i h =
      rw (drop_here seq i 0 h, ← add-one i)
      (by-test (same_in_any_case (letter_of p) (get_or seq i 0)) (λ e. rw e) (λ e. rw e))

  pub spots_end : (i : ℕ) → length seq ≤ i → spots_from mode p ev seq i ≡ []
  unfolding spots_from
  spots_end i h = rw (drop_of_length-le seq h)

  -- there are no more spots than bases
  pub spots_few : length (spots_from mode p ev seq 0) ≤ length seq
  unfolding spots_from
  spots_few =
      let places = places_from (same_in_any_case (letter_of p)) 0 seq in
      omega (arith, length-map places (λ q. spot_at (called_at mode ev q) q), places_length (same_in_any_case (letter_of p)) 0 seq)

  -- one place more: what is left to write after it, where n bare bases wait before it
  entries_on : (i n : ℕ) → i < length seq
      → entries_text (skips_from n (spots_from mode p ev seq i))
      ≡ entries_text (skips_from n (spots_at mode p ev seq i)) ++ entries_text (skips_from (bare_since n (spots_at mode p ev seq i)) (spots_from mode p ev seq (i + 1)))
  entries_on i n h =
      ap (λ (ss : List Spot). entries_text (skips_from n ss)) (spots_on i h) ∙ entries_append n (spots_at mode p ev seq i) (spots_from mode p ev seq (i + 1))

  values_on : (i : ℕ) → i < length seq
      → concat_map values_of (spots_from mode p ev seq i) ≡ concat_map values_of (spots_at mode p ev seq i) ++ concat_map values_of (spots_from mode p ev seq (i + 1))
  values_on i h = ap (concat_map values_of) (spots_on i h) ∙ concat_map_append values_of (spots_at mode p ev seq i) (spots_from mode p ev seq (i + 1))

  module _ (i : ℕ) (h : i < length seq) (row row' : List ℕ) (at at' : ℕ) where
    pub text_turn : (n n' : ℕ) → n' ≡ bare_since n (spots_at mode p ev seq i)
        → at' ≡ at + length (entries_text (skips_from n (spots_at mode p ev seq i)))
        → row' ≡ sets row at (entries_text (skips_from n (spots_at mode p ev seq i)))
        → (at + length (entries_text (skips_from n (spots_from mode p ev seq i))) ≡ at' + length (entries_text (skips_from n' (spots_from mode p ev seq (i + 1)))))
        × (sets row at (entries_text (skips_from n (spots_from mode p ev seq i))) ≡ sets row' at' (entries_text (skips_from n' (spots_from mode p ev seq (i + 1)))))
    text_turn n n' a b c =
        let here = entries_text (skips_from n (spots_at mode p ev seq i)) in
        let later = entries_text (skips_from (bare_since n (spots_at mode p ev seq i)) (spots_from mode p ev seq (i + 1))) in
        rw (a, b, c, entries_on i n h) (omega (arith, length-append here later), sets_append row at here later)

    pub values_turn : at' ≡ at + length (concat_map values_of (spots_at mode p ev seq i)) → row' ≡ sets row at (concat_map values_of (spots_at mode p ev seq i))
        → (at + length (concat_map values_of (spots_from mode p ev seq i)) ≡ at' + length (concat_map values_of (spots_from mode p ev seq (i + 1))))
        × (sets row at (concat_map values_of (spots_from mode p ev seq i)) ≡ sets row' at' (concat_map values_of (spots_from mode p ev seq (i + 1))))
    values_turn b c =
        let here = concat_map values_of (spots_at mode p ev seq i) in
        let later = concat_map values_of (spots_from mode p ev seq (i + 1)) in
        rw (b, c, values_on i h) (omega (arith, length-append here later), sets_append row at here later)

  -- a place gives one spot or none
  pub one_spot : (i : ℕ) → length (spots_at mode p ev seq i) ≤ 1
  unfolding spots_at
  one_spot i = by-test (same_in_any_case (letter_of p) (get_or seq i 0)) (λ e. rw e (omega arith)) (λ e. rw e (omega arith))

  pub one_value : (i : ℕ) → length (concat_map values_of (spots_at mode p ev seq i)) ≤ 1
  unfolding spots_at
  one_value i = by-test (same_in_any_case (letter_of p) (get_or seq i 0)) (λ e. rw e (of (called_at mode ev i))) (λ e. rw e (omega arith))
    where
      of : (v : Option ℕ) → length (concat_map values_of (spot_at v i ∷ [])) ≤ 1
      of None = omega arith
      of (Some v) = omega arith

  pub untracked : (i : ℕ) → same_in_any_case (letter_of p) (get_or seq i 0) ≡ false → spots_at mode p ev seq i ≡ []
  unfolding spots_at
  untracked i e = rw e

  pub bare_there : (i : ℕ) → same_in_any_case (letter_of p) (get_or seq i 0) ≡ true → called_at mode ev i ≡ None → spots_at mode p ev seq i ≡ bare i ∷ []
  unfolding spots_at
  bare_there i e f = rw (e, f)

  pub call_there : (i v : ℕ) → same_in_any_case (letter_of p) (get_or seq i 0) ≡ true → called_at mode ev i ≡ Some v
      → spots_at mode p ev seq i ≡ call i (v ∷ []) ∷ []
  unfolding spots_at
  call_there i v e f = rw (e, f)

  -- by what the code found at the place
  pub found_there : (i : ℕ) (w : Option ℕ) (v : Option ℕ)
      → w ≡ called mode (get_or ev.informative i 0) (get_or ev.unconverted i 0) (get_or ev.converted i 0) → w ≡ v
      → called_at mode ev i ≡ v
  unfolding called_at
  found_there i w v e t = sym e ∙ t

  -- the strand's tag: header, entries and ';', and the values
  pub strand_text : (written (strand_group mode p ev seq ∷ [])).text
      ≡ header_of p ++ entries_text (skips_from 0 (spots_from mode p ev seq 0)) ++ semicolon ∷ []
  unfolding written text_of group_text strand_group spots_from
  strand_text = append-nil _

  pub strand_ml : (written (strand_group mode p ev seq ∷ [])).ml ≡ concat_map values_of (spots_from mode p ev seq 0)
  unfolding written ml_of strand_group spots_from
  strand_ml = append-nil _
