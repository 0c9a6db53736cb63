-- Laws of Boolean tests.
-- Assumes nothing.
use mathlib.Core.Path.{◌≡◌, refl, sym}
use Prim.Native.Nat.{ℕ, ◌≤◌}
use native.Mathlib.Omega.{arith}
use mathlib.Core.Bool.{Bool, true, false, cond, ◌&&◌}
use lib.Dec.{eqb}
use borrow.Author.Tests.{eqb-true, eq-eqb}

-- by cases on a test
pub by-test {ℓ} : {P : Type ℓ} (t : Bool) → (t ≡ true → P) → (t ≡ false → P) → P
by-test true f g = f refl
by-test false f g = g refl

-- n or nothing, by a test
pub cond_at_most : (t : Bool) (n : ℕ) → cond t n 0 ≤ n
cond_at_most true n = omega arith
cond_at_most false n = omega arith

pub and_true : (s t : Bool) → s ≡ true → t ≡ true → s && t ≡ true
and_true true t p q = q
and_true false t p q = p

pub and_true_l : (s t : Bool) → s && t ≡ true → s ≡ true
and_true_l true t e = refl
and_true_l false t e = e

pub and_true_r : (s t : Bool) → s && t ≡ true → t ≡ true
and_true_r true t e = e
and_true_r false true e = refl
and_true_r false false e = e

-- two tests that hold together are the same
pub test_ext : (s t : Bool) → (s ≡ true → t ≡ true) → (t ≡ true → s ≡ true) → s ≡ t
test_ext true t f g = sym (f refl)
test_ext false true f g = g refl
test_ext false false f g = refl

pub eqb_sym : (a b : ℕ) → eqb a b ≡ eqb b a
eqb_sym a b = test_ext (eqb a b) (eqb b a) (λ e. eq-eqb b a (sym (eqb-true a b e))) (λ e. eq-eqb a b (sym (eqb-true b a e)))
