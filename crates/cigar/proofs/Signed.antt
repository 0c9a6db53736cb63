-- Signed numbers of 64 bits: what a test against 0 says, and that the cast of a number that is not negative fits and keeps its value.
-- Assumes nothing.
use mathlib.Core.Path.{◌≡◌, refl, sym}
use mathlib.Core.Bool.{true, false}
use Prim.Native.Nat.{ℕ, ◌≤◌, ◌<◌, ◌^◌}
use native.Mathlib.Omega.{arith}
use lib.Dec.{T}
use lib.IntN.{ℤ, pos, negsuc, nat_abs, pos-ne-negsuc}
use lib.Signed.{mag, lt_z, non_neg}
use borrow.Author.Tests.{ltb-true, leb-true}
use mir.Syntax.{w64}
use mir.Val.{Fits, SFits, to_z, of_z}
use mir.Facts.{to_z-of_z}
use Rattle.cigar.specs.Cigar.{is_start, start_of}

is_negative : (z : ℤ) → lt_z z (pos 0) ≡ true → z ≡ negsuc (mag z)
is_negative (pos n) e = let h : n < 0 = ltb-true n 0 e in let z : ⊥ = omega arith in absurd z
is_negative (negsuc n) e = refl

is_natural : (z : ℤ) → lt_z z (pos 0) ≡ false → z ≡ pos (mag z)
is_natural (pos n) e = refl
is_natural (negsuc n) e = let z : ◌≡◌ {A = ℕ} 0 1 = cc in absurd (omega arith)

fits_natural : (z : ℤ) → mag z < 2 ^ 63 → z ≡ pos (mag z) → T (non_neg z) × Fits w64 (nat_abs z)
fits_natural (pos n) h e = (tt, omega arith)
fits_natural (negsuc n) h e = absurd (pos-ne-negsuc n n (sym e))

value_natural : (z : ℤ) → z ≡ pos (mag z) → nat_abs z ≡ mag z
value_natural (pos n) e = refl
value_natural (negsuc n) e = absurd (pos-ne-negsuc n n (sym e))

module _ (z : ℤ) (f : SFits w64 z) where
  pub was_negative : lt_z (to_z w64 (of_z w64 z)) (pos 0) ≡ true → z ≡ negsuc (mag z)
  was_negative = rw (to_z-of_z f) (is_negative z)

  pub was_natural : lt_z (to_z w64 (of_z w64 z)) (pos 0) ≡ false → z ≡ pos (mag z)
  was_natural = rw (to_z-of_z f) (is_natural z)

  pub cast_fits : z ≡ pos (mag z) → T (non_neg (to_z w64 (of_z w64 z))) × Fits w64 (nat_abs (to_z w64 (of_z w64 z)))
  cast_fits e = rw (to_z-of_z f) (fits_natural z f.sfits e)

  pub cast_value : z ≡ pos (mag z) → nat_abs (to_z w64 (of_z w64 z)) ≡ mag z
  cast_value e = rw (to_z-of_z f) (value_natural z e)

-- a start is no negative number
pub start_natural : (z : ℤ) → is_start z ≡ true → z ≡ pos (mag z)
start_natural (pos n) e = refl
start_natural (negsuc n) e = let z : ◌≡◌ {A = ℕ} 0 1 = cc in absurd (omega arith)

pub start_value : (z : ℤ) → is_start z ≡ true → mag z ≡ start_of z
start_value (pos n) e = refl
start_value (negsuc n) e = let z : ◌≡◌ {A = ℕ} 0 1 = cc in absurd (omega arith)

pub start_small : (z : ℤ) → is_start z ≡ true → start_of z ≤ 2147483647
start_small (pos n) e = leb-true n 2147483647 e
start_small (negsuc n) e = let z : ◌≡◌ {A = ℕ} 0 1 = cc in absurd (omega arith)
