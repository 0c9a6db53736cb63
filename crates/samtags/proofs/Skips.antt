-- The skips of spots that follow one another. Of the spots that it has passed, a writer only needs the number of bare spots since the last call.
-- Assumes nothing.
use mathlib.Core.Path.{◌≡◌, refl, ap, ◌∙◌}
use Prim.Native.Nat.{ℕ, suc, ◌+◌, ◌*◌, ◌≤◌}
use native.Mathlib.Omega.{arith}
use mathlib.Core.List.{List, [], ◌∷◌, ◌++◌}
use lib.ListN.{length, length-append}
use Rattle.lent.proofs.Lists.{concat_map_append}
use Rattle.samtags.specs.Decimal.{digits}
use Rattle.samtags.specs.Spots.{Spot, bare, call}
use Rattle.samtags.specs.Writing.{skips_from, entry_text, entries_text}
use Rattle.samtags.proofs.Decimal.{digits_few}

-- how many bare spots there are since the last call, if n were there before
abbrev pub bare_since : ℕ → List Spot → ℕ
bare_since n [] = n
bare_since n (bare p ∷ ss) = bare_since (suc n) ss
bare_since n (call p vs ∷ ss) = bare_since 0 ss

pub skips_append : (n : ℕ) (ss ts : List Spot) → skips_from n (ss ++ ts) ≡ skips_from n ss ++ skips_from (bare_since n ss) ts
skips_append n [] ts = refl
skips_append n (bare p ∷ ss) ts = skips_append (suc n) ss ts
skips_append n (call p vs ∷ ss) ts = ap (λ (l : List ℕ). n ∷ l) (skips_append 0 ss ts)

pub entries_append : (n : ℕ) (ss ts : List Spot)
    → entries_text (skips_from n (ss ++ ts)) ≡ entries_text (skips_from n ss) ++ entries_text (skips_from (bare_since n ss) ts)
entries_append n ss ts = ap entries_text (skips_append n ss ts) ∙ concat_map_append entry_text (skips_from n ss) (skips_from (bare_since n ss) ts)

-- a spot takes at most two bytes of text, counting the bare ones that still wait for their entry
pub entries_short : (n : ℕ) (ss : List Spot) → length (entries_text (skips_from n ss)) + bare_since n ss ≤ n + 2 * length ss
entries_short n [] = omega arith
entries_short n (bare p ∷ ss) = omega (arith, entries_short (suc n) ss)
entries_short n (call p vs ∷ ss) =
    omega (arith, digits_few n, length-append (digits n) (entries_text (skips_from 0 ss)), entries_short 0 ss)
