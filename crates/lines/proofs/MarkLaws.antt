-- The mark of a line, byte by byte, and the line without it.
-- Assumes nothing.
use mathlib.Core.Path.{◌≡◌, refl}
use Prim.Native.Nat.{ℕ, ◌-◌, ◌≤◌, ◌<◌}
use native.Mathlib.Omega.{arith}
use mathlib.Core.Bool.{true, false}
use mathlib.Core.List.{List, [], ◌∷◌}
use lib.Dec.{eqb}
use lib.ListN.{length, get_or, take, drop, length-drop, drop_of_length-le}
use lib.Seq.{take_all}
use borrow.Author.Tests.{eq-eqb, ne_eqb}
use Rattle.lent.proofs.Tests.{by-test}
use Rattle.samtags.specs.Edits.{same_bytes_of}

module _ (l : List ℕ) (a b : ℕ) where
  pub mark_short : length l < 2 → same_bytes_of (take 2 l) (a ∷ b ∷ []) ≡ false
  mark_short h = go l h
    where
      go : (l : List ℕ) → length l < 2 → same_bytes_of (take 2 l) (a ∷ b ∷ []) ≡ false
      go [] h = refl
      go (x ∷ []) h = by-test (eqb x a) (λ e. rw e) (λ e. rw e)
      go (x ∷ y ∷ ys) h = absurd (omega arith)

  module _ (h : 2 ≤ length l) where
    pub mark_first : (get_or l 0 0 ≡ a → ⊥) → same_bytes_of (take 2 l) (a ∷ b ∷ []) ≡ false
    mark_first n = go l h n
      where
        go : (l : List ℕ) → 2 ≤ length l → (get_or l 0 0 ≡ a → ⊥) → same_bytes_of (take 2 l) (a ∷ b ∷ []) ≡ false
        go [] h n = absurd (omega arith)
        go (x ∷ []) h n = absurd (omega arith)
        go (x ∷ y ∷ ys) h n = rw (ne_eqb x a n)

    pub mark_second : get_or l 0 0 ≡ a → same_bytes_of (take 2 l) (a ∷ b ∷ []) ≡ eqb (get_or l 1 0) b
    mark_second e = go l h e
      where
        go : (l : List ℕ) → 2 ≤ length l → get_or l 0 0 ≡ a → same_bytes_of (take 2 l) (a ∷ b ∷ []) ≡ eqb (get_or l 1 0) b
        go [] h e = absurd (omega arith)
        go (x ∷ []) h e = absurd (omega arith)
        go (x ∷ y ∷ ys) h e = rw (eq-eqb x a e) (by-test (eqb y b) (λ p. rw p) (λ p. rw p))

-- a line with a mark is at least as long as the mark
pub marked_long : (l : List ℕ) (a b : ℕ) → same_bytes_of (take 2 l) (a ∷ b ∷ []) ≡ true → 2 ≤ length l
marked_long [] a b e = let z : ◌≡◌ {A = ℕ} 0 1 = cc in absurd (omega arith)
marked_long (x ∷ []) a b e =
    by-test (eqb x a)
    (λ p. let q : false ≡ true = rw p at e in let z : ◌≡◌ {A = ℕ} 0 1 = cc in absurd (omega arith))
    (λ p. let q : false ≡ true = rw p at e in let z : ◌≡◌ {A = ℕ} 0 1 = cc in absurd (omega arith))
marked_long (x ∷ y ∷ ys) a b e = omega arith

-- ---- what follows the mark

pub body_short : (l : List ℕ) → length l < 2 → take (length l - length l) (drop (length l) l) ≡ drop 2 l
body_short l h =
    let z : length l - length l ≡ 0 = omega arith in
    let short : length l ≤ 2 = omega arith in
    rw (z, drop_of_length-le l short)

pub body_long : (l : List ℕ) → take (length l - 2) (drop 2 l) ≡ drop 2 l
body_long l = take_all (length l - 2) (drop 2 l) (omega (arith, length-drop 2 l))
