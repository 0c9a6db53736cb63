-- The number that a call with an unknown chemistry returns.
-- Assumes nothing.
use mathlib.Core.Path.{◌≡◌, refl}
use Prim.Native.Nat.{ℕ}
use mathlib.Core.Bool.{true}
use mathlib.Core.List.{List}
use lib.Dec.{eqb}
use Rattle.lent.proofs.Tests.{by-test}
use Rattle.lent.specs.Answers.{refuses_only}
use Rattle.lent.specs.Lists.{among}
use Rattle.modes.specs.Modes.{mode_of}

-- an unknown chemistry is refused with 13
pub mode_only : (ns : List ℕ) (n : ℕ) → among ns 13 ≡ true → refuses_only ns (mode_of n) ≡ true
mode_only ns n thirteen =
    by-test (eqb n 0) (λ e. rw e refl) (λ e. rw e
    (by-test (eqb n 1) (λ f. rw f refl) (λ f. rw f
    (by-test (eqb n 2) (λ g. rw g refl) (λ g. rw g thirteen)))))
