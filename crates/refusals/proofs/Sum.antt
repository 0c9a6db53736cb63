-- The sum of a list from an index on: one more number, and the end, when no number is left.
-- Assumes nothing.
use mathlib.Core.Path.{◌≡◌}
use Prim.Native.Nat.{ℕ, ◌+◌, ◌≤◌, ◌<◌}
use native.Mathlib.Numerals.{add-one}
use mathlib.Core.List.{List}
use lib.ListN.{length, get_or, drop, drop_of_length-le}
use lib.Seq.{drop-cons}
use Rattle.lent.specs.Lists.{sum}

pub sum_turn : (lengths : List ℕ) (k : ℕ) → k < length lengths → sum (drop k lengths) ≡ get_or lengths k 0 + sum (drop (k + 1) lengths)
sum_turn lengths k h = simp (add-one, drop-cons lengths k 0 h)

pub sum_end : (lengths : List ℕ) (k : ℕ) → length lengths ≤ k → sum (drop k lengths) ≡ 0
sum_end lengths k h = rw (drop_of_length-le lengths h)
