-- The checks of a stored read's lengths: what passes, and what is refused whatever would follow.
-- Assumes nothing.
use Rattle.std.specs.Prelude.{Ok, Err}
use mathlib.Core.Path.{◌≡◌, refl}
use Prim.Native.Nat.{ℕ, ◌≤◌}
use native.Mathlib.Omega.{arith}
use mathlib.Core.Bool.{Bool, true, false, cond, ◌&&◌}
use lib.Dec.{eqb, leb}
use borrow.Author.Tests.{eqb-true, le-leb, leb-true}
use Rattle.lent.proofs.Outcome.{need_rest, need_test}
use Rattle.lent.proofs.Tests.{and_true_l, and_true_r, test_ext}
use Rattle.lent.specs.Outcome.{Outcome, need, refusal, refuse}
use Rattle.lent.specs.declared.Refusal.{Refusal}
use Rattle.packed.specs.Packed.{bytes_for}
use Rattle.stepping.proofs.OrderLaws.{values_leb}
use Rattle.stored_rows.specs.Orders.{numbers_in_domain}

-- two comparisons that hold together are the same test
pub same_leb : (a b c d : ℕ) → (a ≤ b → c ≤ d) → (c ≤ d → a ≤ b) → leb a b ≡ leb c d
same_leb a b c d f g =
    test_ext (leb a b) (leb c d) (λ e. le-leb c d (f (leb-true a b e))) (λ e. le-leb a b (g (leb-true c d e)))

-- the result of two tests alone, for 1 and then for 2
abbrev pub tested : Bool → Bool → Outcome (Unit {0})
tested d t = need d 1 (need t 2 (Ok tt))

module _ {A : Type 0} (d t : Bool) (o : Outcome A) where
  -- they fail, and whatever would follow is refused so
  pub tests_refuse : (r : Refusal) → tested d t ≡ Err r → need d 1 (need t 2 o) ≡ Err r
  tests_refuse r e = go d t e
    where
      go : (d t : Bool) → tested d t ≡ Err r → need d 1 (need t 2 o) ≡ Err r
      go true true e = let z : ◌≡◌ {A = ℕ} 0 1 = cc in absurd (omega arith)
      go true false e = let s : ◌≡◌ {A = Refusal} (refusal 2) r = cc in rw s
      go false b e = let s : ◌≡◌ {A = Refusal} (refusal 1) r = cc in rw s

  -- they pass
  pub tests_pass : tested d t ≡ Ok tt → need d 1 (need t 2 o) ≡ o
  tests_pass e = rw (need_test d 1 _ tt e, need_test t 2 _ tt (need_rest d 1 _ tt e))

-- a plain call asks the domain's test again
pub asked_again : {A : Type 0} (d e t : Bool) (o : Outcome A) → e ≡ d → t ≡ true → need d 1 (need t 2 (need e 1 o)) ≡ need e 1 o
asked_again {A} d e t o s h = rw (s, h) (go d)
  where
    go : (d : Bool) → need d 1 (need d 1 o) ≡ need d 1 o
    go true = refl
    go false = refl

-- the tests of two reads: d and t for the first with its tag, k and u for the second
module _ (d t k u : Bool) where
  pub two_too_long : k ≡ false → tested (d && k) (t && u) ≡ refuse 1
  two_too_long e = rw e (go d)
    where
      go : (d : Bool) → tested (d && false) (t && u) ≡ refuse 1
      go true = refl
      go false = refl

  pub two_first : (r : Refusal) → k ≡ true → tested d t ≡ Err r → tested (d && k) (t && u) ≡ Err r
  two_first r e f = rw e (go d t f)
    where
      go : (d t : Bool) → tested d t ≡ Err r → tested (d && true) (t && u) ≡ Err r
      go true true f = let z : ◌≡◌ {A = ℕ} 0 1 = cc in absurd (omega arith)
      go true false f = f
      go false true f = f
      go false false f = f

  pub two_second : k ≡ true → tested d t ≡ Ok tt → tested (d && k) (t && u) ≡ need u 2 (Ok tt)
  two_second e f = rw (e, need_test d 1 _ tt f, need_test t 2 _ tt (need_rest d 1 _ tt f))

-- what a stored read has whose lengths passed
pub record In-stored (ml? : Bool) (packed bases mm ml : ℕ) : Type 0 where
  pub bases_domain : bases ≤ 16000
  pub text_domain : mm ≤ 65536
  pub ml_domain : cond ml? ml 0 ≤ 65536
  pub bytes_exact : packed ≡ bytes_for bases

pub stored_passed : (ml? : Bool) (packed bases mm ml : ℕ) → tested (numbers_in_domain ml? bases mm ml) (eqb packed (bytes_for bases)) ≡ Ok tt
    → In-stored ml? packed bases mm ml
stored_passed ml? packed bases mm ml e =
    let d = need_test (numbers_in_domain ml? bases mm ml) 1 _ tt e in
    let two = and_true_l (leb bases 16000 && leb mm 65536) (cond ml? (leb ml 65536) true) d in
    let third : leb (cond ml? ml 0) 65536 ≡ true =
    rw (values_leb ml? ml 65536) at (and_true_r (leb bases 16000 && leb mm 65536) (cond ml? (leb ml 65536) true) d) in
    record {
      bases_domain = leb-true bases 16000 (and_true_l (leb bases 16000) (leb mm 65536) two);
      text_domain = leb-true mm 65536 (and_true_r (leb bases 16000) (leb mm 65536) two);
      ml_domain = leb-true (cond ml? ml 0) 65536 third;
      bytes_exact = eqb-true packed (bytes_for bases) (need_test (eqb packed (bytes_for bases)) 2 _ tt (need_rest (numbers_in_domain ml? bases mm ml) 1 _ tt e));
    }
