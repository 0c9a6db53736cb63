-- The same letter in upper or lower case: its two cases share all bits but one. The two bytes of the comparison may come in either order.
-- Assumes nothing.
use mathlib.Core.Path.{◌≡◌, ◌∙◌, ap}
use Prim.Native.Nat.{ℕ, ◌+◌, ◌*◌, ◌-◌, ◌/◌, ◌%◌, ◌≤◌, ◌<◌}
use native.Mathlib.Omega.{arith}
use lib.Bits.{bit_and, and_block, and_high, and_mask}
use lib.Dec.{leb, eqb}
use borrow.Author.Tests.{eq-eqb, eqb-true, leb-false, leb-true}
use Rattle.lent.proofs.Tests.{by-test, eqb_sym, test_ext}
use Rattle.pattern.specs.Case.{same_in_any_case, upper}

-- a byte without bit 5
masked : (b : ℕ) → b < 256 → bit_and b 223 ≡ b / 64 * 64 + b % 32
masked b h =
    let parts : b ≡ b / 32 * 32 + b % 32 = omega arith in
    let split : bit_and (b / 32 * 32 + b % 32) 223 ≡ bit_and (b / 32) 6 * 32 + bit_and (b % 32) 31 =
    and_block 5 (b / 32) 6 (b % 32) 31 (omega arith) (omega arith) in
    ap (λ (x : ℕ). bit_and x 223) parts ∙ split ∙ omega (arith, and_high (b / 32) 2 1, and_mask (b % 32) 5)

-- a byte below 'a', a small letter, one past 'z'
by_upper : {P : Type 0} (b : ℕ) → (b < 97 → upper b ≡ b → P) → (97 ≤ b → b ≤ 122 → upper b ≡ b - 32 → P) → (122 < b → upper b ≡ b → P) → P
unfolding upper
by_upper b below small past =
    by-test (leb 97 b)
    (λ l. by-test (leb b 122) (λ h. small (leb-true 97 b l) (leb-true b 122 h) (rw (l, h))) (λ h. past (leb-false b 122 h) (rw (l, h))))
    (λ l. below (leb-false 97 b l) (rw l))

module _ (a b : ℕ) where
  -- a test of two numbers that are equal exactly when the bytes are the same
  same_test : (c d : ℕ) → (c ≡ d → upper a ≡ upper b) × (upper a ≡ upper b → c ≡ d) → eqb c d ≡ same_in_any_case a b
  unfolding same_in_any_case
  same_test c d both =
      test_ext (eqb c d) (eqb (upper a) (upper b)) (λ t. eq-eqb (upper a) (upper b) (both.0 (eqb-true c d t)))
      (λ t. eq-eqb c d (both.1 (eqb-true (upper a) (upper b) t)))

  -- a byte that is no letter, by what is left of it: it is the same as itself alone
  pub same_below : b < 256 → bit_and b 223 < 65 → eqb a b ≡ same_in_any_case a b
  same_below f n =
      let m = masked b f in
      same_test a b
      (by_upper a
      (λ p u. by_upper b (λ q v. omega arith) (λ q r v. omega arith) (λ q v. omega arith))
      (λ p o u. by_upper b (λ q v. omega arith) (λ q r v. omega arith) (λ q v. omega arith))
      (λ p u. by_upper b (λ q v. omega arith) (λ q r v. omega arith) (λ q v. omega arith)))

  pub same_past : b < 256 → 90 < bit_and b 223 → eqb a b ≡ same_in_any_case a b
  same_past f n =
      let m = masked b f in
      same_test a b
      (by_upper a
      (λ p u. by_upper b (λ q v. omega arith) (λ q r v. omega arith) (λ q v. omega arith))
      (λ p o u. by_upper b (λ q v. omega arith) (λ q r v. omega arith) (λ q v. omega arith))
      (λ p u. by_upper b (λ q v. omega arith) (λ q r v. omega arith) (λ q v. omega arith)))

  -- a letter: the same as each byte of which as much is left
  same_left : 65 ≤ b / 64 * 64 + b % 32 → b / 64 * 64 + b % 32 ≤ 90 → eqb (a / 64 * 64 + a % 32) (b / 64 * 64 + b % 32) ≡ same_in_any_case a b
  same_left l h =
      same_test (a / 64 * 64 + a % 32) (b / 64 * 64 + b % 32)
      (by_upper a
      (λ p u. by_upper b (λ q v. omega arith) (λ q r v. omega arith) (λ q v. omega arith))
      (λ p o u. by_upper b (λ q v. omega arith) (λ q r v. omega arith) (λ q v. omega arith))
      (λ p u. by_upper b (λ q v. omega arith) (λ q r v. omega arith) (λ q v. omega arith)))

  pub same_letter : a < 256 → b < 256 → 65 ≤ bit_and b 223 → bit_and b 223 ≤ 90 → eqb (bit_and a 223) (bit_and b 223) ≡ same_in_any_case a b
  same_letter e f l h = rw (masked a e, masked b f) (same_left (omega (arith, masked b f)) (omega (arith, masked b f)))

-- ---- either byte first
pub same_sym : (a b : ℕ) → same_in_any_case a b ≡ same_in_any_case b a
unfolding same_in_any_case
same_sym a b = eqb_sym (upper a) (upper b)
