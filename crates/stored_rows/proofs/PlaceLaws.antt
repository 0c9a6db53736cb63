-- Places and starts counted in a stored read: the mirror of a list of places, one place after the other, and the mirror of a window's start.
-- Assumes nothing.
use Rattle.std.specs.Prelude.{None, Some}
use mathlib.Core.Path.{◌≡◌}
use Prim.Native.Nat.{ℕ, ◌+◌, ◌-◌, ◌≤◌, ◌<◌}
use native.Mathlib.Omega.{arith}
use mathlib.Core.Bool.{true}
use mathlib.Core.List.{List, [], ◌∷◌}
use lib.ListN.{set}
use lib.Dec.{ltb}
use borrow.Author.Tests.{le-leb, le-ltb, lt-leb, lt-ltb}
use Rattle.changing.specs.Windows.{stored_at}
use Rattle.lent.proofs.Tests.{by-test}
use Rattle.packed.specs.Stored.{mirrored, places_in_read, start_mirrored}

-- ---- places

module _ (b n p : ℕ) (row : List ℕ) where
  pub put_past : n ≤ p → stored_at b (places_in_read true n (p ∷ [])) row ≡ row
  put_past l = rw (le-ltb p n l)

  pub put_inside : p < n → stored_at b (places_in_read true n (p ∷ [])) row ≡ set row (mirrored n p) b
  put_inside l = rw (lt-ltb p n l)

  -- the first place, and then the others
  pub mark_first : (ps : List ℕ) → stored_at b (places_in_read true n (p ∷ ps)) row
      ≡ stored_at b (places_in_read true n ps) (stored_at b (places_in_read true n (p ∷ [])) row)
  mark_first ps = by-test (ltb p n) (λ e. rw e) (λ e. rw e)

-- ---- starts

module _ (n k s : ℕ) where
  pub start_past : n < s + k → start_mirrored n k (Some s) ≡ None
  start_past l = rw (lt-leb (s + k) n l)

  pub start_inside : s + k ≤ n → start_mirrored n k (Some s) ≡ Some (n - k - s)
  start_inside l =
      let e : n - (s + k) ≡ n - k - s = omega arith in
      rw (le-leb (s + k) n l, e)
