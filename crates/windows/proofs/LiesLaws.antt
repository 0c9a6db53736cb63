-- Whether a row lies in another as a window, byte by byte.
-- Assumes nothing.
use mathlib.Core.Path.{◌≡◌, refl, ◌∙◌}
use Prim.Native.Nat.{ℕ, ◌+◌, ◌≤◌, ◌<◌}
use native.Mathlib.Omega.{arith}
use mathlib.Core.Bool.{true, false, ◌&&◌, ◌||◌}
use mathlib.Core.List.{List, [], ◌∷◌}
use lib.Dec.{eqb}
use lib.ListN.{length, get_or, drop, drop_of_length-le}
use Rattle.lent.proofs.Lists.{drop_here}
use Rattle.lent.proofs.Tests.{by-test}
use Rattle.samtags.specs.Edits.{is_masked, lies_in}

pub lies_short : (after seq : List ℕ) → length seq < length after → lies_in after seq ≡ false
lies_short [] seq h = absurd (omega arith)
lies_short (x ∷ xs) [] h = refl
lies_short (x ∷ xs) (y ∷ ys) h = rw (lies_short xs ys (omega arith)) (by-test (eqb x y || is_masked x) (λ e. rw e) (λ e. rw e))

module _ (after seq : List ℕ) (lo i : ℕ) where
  pub lies_end : length after ≤ i → lies_in (drop i after) (drop (lo + i) seq) ≡ true
  lies_end h = rw (drop_of_length-le after h)

  module _ (h : i < length after) (k : lo + i < length seq) where
    here : lies_in (drop i after) (drop (lo + i) seq)
        ≡ (eqb (get_or after i 0) (get_or seq (lo + i) 0) || is_masked (get_or after i 0)) && lies_in (drop (i + 1) after) (drop (lo + (i + 1)) seq)
    here =
        let sum : lo + i + 1 ≡ lo + (i + 1) = omega arith in
        rw (drop_here after i 0 h, drop_here seq (lo + i) 0 k, sum)

    pub lies_on : eqb (get_or after i 0) (get_or seq (lo + i) 0) || is_masked (get_or after i 0) ≡ true
        → lies_in (drop i after) (drop (lo + i) seq) ≡ lies_in (drop (i + 1) after) (drop (lo + (i + 1)) seq)
    lies_on e = here ∙ rw e

    pub lies_stop : eqb (get_or after i 0) (get_or seq (lo + i) 0) || is_masked (get_or after i 0) ≡ false
        → lies_in (drop i after) (drop (lo + i) seq) ≡ false
    lies_stop e = here ∙ rw e
