-- `next_of`: after 6 comes 5.
-- Assumes nothing.
use mathlib.Core.Path.{◌≡◌, refl}
use native.Mathlib.Omega.{arith}
use borrow.Author.Tests.{ne_eqb}
use Rattle.record_writing.proofs.next_of.Goals as goal

pub returns-then-number-eq-GOES_THEN_LENGTH : goal.returns-then-number-eq-GOES_THEN_LENGTH
returns-then-number-eq-GOES_THEN_LENGTH c =
    let t : c.args.number ≡ 6 = omega arith in
    rw t refl

pub returns : goal.returns
returns c = rw (ne_eqb c.args.number 6 (λ e. absurd (omega (arith, e)))) refl
