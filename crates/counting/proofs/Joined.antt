-- Reads in joined rows, from one of them on: one more read, and the end, when no read is left.
-- Assumes nothing.
use mathlib.Core.Path.{◌≡◌}
use Prim.Native.Nat.{ℕ, ◌+◌, ◌-◌, ◌≤◌, ◌<◌}
use native.Mathlib.Numerals.{add-one}
use native.Mathlib.Omega.{arith}
use mathlib.Core.Bool.{Bool}
use mathlib.Core.List.{List}
use lib.ListN.{length, get_or, take, drop, drop_of_length-le}
use lib.Seq.{drop-cons, drop-drop}
use Rattle.counting.specs.Counting.{add_read, add_reads}
use Rattle.counting.specs.Reads.{reads_of}

module _ (base : ℕ) (all? : Bool) (inf lengths bases aligned : List ℕ) where
  -- the counts after the reads from the k-th on, which begin at `from`
  abbrev pub rest_over : ℕ → ℕ → List ℕ → List ℕ
  rest_over k from counts = add_reads base all? inf (reads_of (drop k lengths) (drop from bases) (drop from aligned)) counts

  -- one read counted, and then those after it
  pub rest_turn : (k from to : ℕ) (counts more : List ℕ) → k < length lengths → to ≡ from + get_or lengths k 0
      → more ≡ add_read base all? inf (record { bases = take (to - from) (drop from bases); aligned = take (to - from) (drop from aligned) }) counts
      → rest_over (k + 1) to more ≡ rest_over k from counts
  unfolding reads_of add_reads
  rest_turn k from to counts more h e m =
      let n : to - from ≡ get_or lengths k 0 = omega arith in
      rw (m, n, e, add-one, drop-cons lengths k 0 h, drop-drop (get_or lengths k 0) from bases, drop-drop (get_or lengths k 0) from aligned)

  pub rest_end : (k from : ℕ) (counts : List ℕ) → length lengths ≤ k → rest_over k from counts ≡ counts
  unfolding reads_of add_reads
  rest_end k from counts h = rw (drop_of_length-le lengths h)
