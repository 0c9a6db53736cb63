-- A change of spots that keeps which spots are calls leaves the text unchanged. A change that keeps the values leaves ML unchanged.
-- Assumes nothing.
use mathlib.Core.Path.{◌≡◌, refl}
use Prim.Native.Nat.{ℕ, suc}
use mathlib.Core.Bool.{Bool, true, false, cond}
use mathlib.Core.List.{List, [], ◌∷◌, map}
use Rattle.lent.specs.Lists.{concat_map}
use Rattle.samtags.specs.Spots.{Spot, bare, call, values_of, Group}
use Rattle.samtags.specs.Writing.{skips_from, text_of, ml_of}

abbrev pub is_call : Spot → Bool
is_call (bare p) = false
is_call (call p vs) = true

-- a group with a change of each of its spots
abbrev pub on_spots : (Spot → Spot) → Group → Group
on_spots f g = record { header = g.header; spots = map f g.spots }

skips_cons : (n : ℕ) (s : Spot) (ss : List Spot) → skips_from n (s ∷ ss) ≡ cond (is_call s) (n ∷ skips_from 0 ss) (skips_from (suc n) ss)
skips_cons n (bare p) ss = refl
skips_cons n (call p vs) ss = refl

module _ (f : Spot → Spot) where
  skips_same : ((s : Spot) → is_call (f s) ≡ is_call s) → (n : ℕ) (ss : List Spot) → skips_from n (map f ss) ≡ skips_from n ss
  skips_same k n [] = refl
  skips_same k n (s ∷ ss) = rw (skips_cons n (f s) (map f ss), skips_cons n s ss, k s, skips_same k 0 ss, skips_same k (suc n) ss)

  pub text_same : ((s : Spot) → is_call (f s) ≡ is_call s) → (gs : List Group) → text_of (map (on_spots f) gs) ≡ text_of gs
  unfolding text_of
  text_same k [] = refl
  text_same k (g ∷ gs) = rw (skips_same k 0 g.spots, text_same k gs)

  values_same : ((s : Spot) → values_of (f s) ≡ values_of s) → (ss : List Spot) → concat_map values_of (map f ss) ≡ concat_map values_of ss
  values_same k [] = refl
  values_same k (s ∷ ss) = rw (k s, values_same k ss)

  pub ml_same : ((s : Spot) → values_of (f s) ≡ values_of s) → (gs : List Group) → ml_of (map (on_spots f) gs) ≡ ml_of gs
  unfolding ml_of
  ml_same k [] = refl
  ml_same k (g ∷ gs) = rw (values_same k g.spots, ml_same k gs)
