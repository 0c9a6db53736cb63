-- The total that the operations take: from a loop's index on, in either order, and at most 268,435,455 for each word of 32 bits.
-- Assumes nothing.
use mathlib.Core.Path.{◌≡◌, refl}
use mathlib.Core.List.{List, [], ◌∷◌, ◌++◌, reverse, reverse-cons}
use Prim.Native.Nat.{ℕ, suc, ◌+◌, ◌*◌, ◌/◌, ◌≤◌, ◌<◌}
use native.Mathlib.Numerals.{add-one}
use native.Mathlib.Omega.{arith}
use lib.ListN.{length, get_or, drop, drop_of_length-le}
use lib.Seq.{drop-cons}
use Rattle.lent.proofs.Tests.{cond_at_most}
use Rattle.cigar.specs.Cigar.{kind_of, length_of, takes_bases, takes_places, bases_taken, places_taken, total}

pub bases_at_most : (word : ℕ) → bases_taken word ≤ word / 16
bases_at_most word = cond_at_most (takes_bases (kind_of word)) (length_of word)

pub places_at_most : (word : ℕ) → places_taken word ≤ word / 16
places_at_most word = cond_at_most (takes_places (kind_of word)) (length_of word)

module _ (taken : ℕ → ℕ) where
  pub total_end : (l : List ℕ) (i : ℕ) → length l ≤ i → total taken (drop i l) ≡ 0
  total_end l i h = rw (drop_of_length-le l h)

  pub total_on : (l : List ℕ) (i : ℕ) → i < length l → total taken (drop i l) ≡ taken (get_or l i 0) + total taken (drop (i + 1) l)
  total_on l i h = simp (add-one, drop-cons l i 0 h)

  -- one word more, where the sum so far and the rest are the whole
  pub total_step : (l : List ℕ) (i sum n : ℕ) → i < length l → n ≡ taken (get_or l i 0) → sum + total taken (drop i l) ≡ total taken l
      → sum + n + total taken (drop (i + 1) l) ≡ total taken l
  total_step l i sum n h e whole = omega (arith, total_on l i h)

  pub total_append : (xs ys : List ℕ) → total taken (xs ++ ys) ≡ total taken xs + total taken ys
  total_append [] ys = omega arith
  total_append (x ∷ xs) ys = omega (arith, total_append xs ys)

  pub total_reverse : (l : List ℕ) → total taken (reverse l) ≡ total taken l
  total_reverse [] = refl
  total_reverse (x ∷ xs) = rw (reverse-cons x xs) (omega (arith, total_append (reverse xs) (x ∷ []), total_reverse xs))

  pub total_at_most : ((w : ℕ) → taken w ≤ w / 16) → (l : List ℕ) → ((i : ℕ) → get_or l i 0 < 4294967296) → total taken l ≤ 268435455 * length l
  total_at_most few [] small = omega arith
  total_at_most few (x ∷ xs) small =
      let h : x < 4294967296 = small 0 in
      omega (arith, few x, total_at_most few xs (λ i. small (suc i)))
