-- The longest tag: every base is listed, so every skip is 0 and each entry takes two bytes. This tag reaches the bound on a built tag exactly.
-- Assumes nothing.
use Rattle.std.specs.Prelude.{Option, Some}
use mathlib.Core.Path.{◌≡◌, refl, ap, ◌∙◌}
use Prim.Native.Nat.{ℕ, zero, suc, ◌+◌, ◌*◌, ◌<◌}
use native.Mathlib.Omega.{arith}
use mathlib.Core.Bool.{Bool, true}
use mathlib.Core.List.{List, [], ◌∷◌, ◌++◌, map, append-nil}
use lib.ListN.{length, length-append, replicate, get_or-replicate}
use Rattle.lent.specs.Lists.{concat_map}
use Rattle.pattern.specs.Case.{upper, same_in_any_case}
use Rattle.pattern.specs.Patterns.{is_enabled}
use Rattle.pattern.specs.declared.ConversionPattern.TheVariants.{CToT}
use Rattle.pattern.specs.declared.MethylationMode.{MethylationMode}
use Rattle.samtags.specs.Bytes.{semicolon}
use Rattle.samtags.specs.Decimal.{digits}
use Rattle.samtags.specs.Spots.{values_of, places_from}
use Rattle.samtags.specs.Writing.{skips_from, entries_text, group_text, text_of, ml_of, written}
use Rattle.samtags.specs.Building.{Evidence, columns, ml_value, numerator, called, called_at, spot_at, header_of, strand_group, Strand, joined_tag, own_tag}
use Rattle.samtags.proofs.OwnTag.{own_called, some_values, joined_text, joined_ml}

-- each of n places is informative and has one read, which shows C
abbrev pub all_seen : ℕ → Evidence
all_seen n = columns (replicate n 1) (replicate n 1) (replicate n 0)

is_called : (mode : MethylationMode) (n j : ℕ) → j < n → called_at mode (all_seen n) j ≡ Some (ml_value (numerator mode 1 0) 1)
unfolding called_at called
is_called mode n j h = rw (get_or-replicate {A = ℕ} n j 1 0 h, get_or-replicate {A = ℕ} n j 0 0 h)

-- where every place from i on has a call
module _ (f : ℕ → Option ℕ) (v : ℕ) (t : ℕ → Bool) (c : t 67 ≡ true) where
  full_entries : (i n : ℕ) → ((j : ℕ) → j < n → f (i + j) ≡ Some v)
      → length (entries_text (skips_from 0 (map (λ q. spot_at (f q) q) (places_from t i (replicate n 67))))) ≡ 2 * n
  unfolding digits
  full_entries i zero h = refl
  full_entries i (suc n) h =
      let z : i + 0 ≡ i = omega arith in
      let here : f i ≡ Some v = rw z at (h 0 (omega arith)) in
      let rest = full_entries (suc i) n (λ (j : ℕ) (l : j < n). let e : suc i + j ≡ i + suc j = omega arith in rw e (h (suc j) (omega arith))) in
      rw (c, here) (omega (arith, rest))

  full_values : (i n : ℕ) → ((j : ℕ) → j < n → f (i + j) ≡ Some v)
      → length (concat_map values_of (map (λ q. spot_at (f q) q) (places_from t i (replicate n 67)))) ≡ n
  full_values i zero h = refl
  full_values i (suc n) h =
      let z : i + 0 ≡ i = omega arith in
      let here : f i ≡ Some v = rw z at (h 0 (omega arith)) in
      let rest = full_values (suc i) n (λ (j : ℕ) (l : j < n). let e : suc i + j ≡ i + suc j = omega arith in rw e (h (suc j) (omega arith))) in
      rw (c, here) (ap suc rest)

c_is_c : same_in_any_case 67 67 ≡ true
unfolding same_in_any_case upper
c_is_c = refl

module _ (mode : MethylationMode) (n : ℕ) where
  full : (j : ℕ) → j < n → called_at mode (all_seen n) (0 + j) ≡ Some (ml_value (numerator mode 1 0) 1)
  full j h = let z : 0 + j ≡ j = omega arith in rw z (is_called mode n j h)

  -- one strand on n C
  pub strand_text_length : length (written (strand_group mode CToT (all_seen n) (replicate n 67) ∷ [])).text ≡ 2 * n + 5
  unfolding written text_of group_text strand_group
  strand_text_length =
      let spots = map (λ q. spot_at (called_at mode (all_seen n) q) q) (places_from (same_in_any_case 67) 0 (replicate n 67)) in
      let e = full_entries (called_at mode (all_seen n)) (ml_value (numerator mode 1 0) 1) (same_in_any_case 67) c_is_c 0 n full in
      let body = header_of CToT ++ entries_text (skips_from 0 spots) in
      omega (arith, e, length-append (header_of CToT) (entries_text (skips_from 0 spots)), length-append body (semicolon ∷ []), length-append (body ++ semicolon ∷ []) [])

  pub strand_ml_length : length (written (strand_group mode CToT (all_seen n) (replicate n 67) ∷ [])).ml ≡ n
  unfolding written ml_of strand_group
  strand_ml_length =
      let spots = map (λ q. spot_at (called_at mode (all_seen n) q) q) (places_from (same_in_any_case 67) 0 (replicate n 67)) in
      ap (λ (l : List ℕ). length l) (append-nil (concat_map values_of spots))
      ∙ full_values (called_at mode (all_seen n)) (ml_value (numerator mode 1 0) 1) (same_in_any_case 67) c_is_c 0 n full

-- two C to T strands on n C, at least one
pub two_strands_length : (mode : MethylationMode) (n : ℕ) → is_enabled mode ≡ true → 0 < n
    → let s : Strand = record { pattern = CToT; evidence = all_seen n } in
    (length (joined_tag mode (s ∷ s ∷ []) (replicate n 67)).text ≡ 4 * n + 10) × (length (joined_tag mode (s ∷ s ∷ []) (replicate n 67)).ml ≡ 2 * n)
two_strands_length mode n e h =
    let s : Strand = record { pattern = CToT; evidence = all_seen n } in
    let seq : List ℕ = replicate n 67 in
    let tag = own_tag mode CToT (all_seen n) seq in
    let m = strand_ml_length mode n in
    let t = strand_text_length mode n in
    let own = own_called mode CToT (all_seen n) seq e (some_values mode CToT (all_seen n) seq (omega (arith, m))) in
    let text : length tag.text ≡ 2 * n + 5 = rw own t in
    let ml : length tag.ml ≡ n = rw own m in (
      rw (joined_text mode seq (s ∷ s ∷ [])) (omega (arith, text, length-append tag.text (tag.text ++ []), length-append tag.text [])),
      rw (joined_ml mode seq (s ∷ s ∷ [])) (omega (arith, ml, length-append tag.ml (tag.ml ++ []), length-append tag.ml [])),
    )
