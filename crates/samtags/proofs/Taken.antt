-- How much of the row lent for ML is used: all of it, or nothing if there is no ML.
-- Assumes nothing.
use mathlib.Core.Path.{◌≡◌, refl}
use Prim.Native.Nat.{◌≤◌, ℕ}
use native.Mathlib.Omega.{arith}
use mathlib.Core.Bool.{Bool, cond, false, true, ◌&&◌}
use mathlib.Core.List.{List, []}
use lib.Dec.{leb}
use lib.ListN.{length, take}
use lib.Seq.{take_all}
use borrow.Author.Tests.{leb-true}
use Rattle.lent.proofs.Tests.{and_true_l, and_true_r}
use Rattle.samtags.specs.Reading.{in_domain}

pub taken_is : (ml? : Bool) (ml : List ℕ) (n : ℕ) → n ≡ cond ml? (length ml) 0 → take n ml ≡ cond ml? ml []
taken_is true ml n e = rw e (take_all (length ml) ml (omega arith))
taken_is false ml n e = rw e

-- what was taken is taken whole
pub taken_again : (ml? : Bool) (ml : List ℕ) → cond ml? (cond ml? ml []) [] ≡ cond ml? ml []
taken_again true ml = refl
taken_again false ml = refl

pub taken_fits : (ml? : Bool) (ml : List ℕ) → cond ml? (leb (length ml) 65536) true ≡ leb (cond ml? (length ml) 0) 65536
taken_fits true ml = refl
taken_fits false ml = refl

-- what the domain's test asks
pub in_domain_lem : (ml? : Bool) (seq text ml : List ℕ) → in_domain ml? seq text ml ≡ true
    → (length seq ≤ 16000) × (length text ≤ 65536) × (cond ml? (length ml) 0 ≤ 65536)
in_domain_lem ml? seq text ml e =
    let two = and_true_l (leb (length seq) 16000 && leb (length text) 65536) _ e in
    let third : leb (cond ml? (length ml) 0) 65536 ≡ true =
    rw (taken_fits ml? ml) at (and_true_r (leb (length seq) 16000 && leb (length text) 65536) _ e) in (
      leb-true (length seq) 16000 (and_true_l (leb (length seq) 16000) _ two),
      leb-true (length text) 65536 (and_true_r (leb (length seq) 16000) _ two),
      leb-true (cond ml? (length ml) 0) 65536 third,
    )
