-- `element_size`: A is no type of an array.
-- Assumes nothing.
use mathlib.Core.Path.{◌≡◌, refl}
use native.Mathlib.Omega.{arith}
use borrow.Author.Tests.{ne_eqb}
use Rattle.record_fields.proofs.sizes.element_size.Goals as goal

pub returns-then-kind-eq65 : goal.returns-then-kind-eq65
returns-then-kind-eq65 c =
    let t : c.args.kind ≡ 65 = omega arith in
    rw t (refl, omega arith)

pub returns : goal.returns
returns c = rw (ne_eqb c.args.kind 65 (λ q. omega arith)) (c.fixed_size.ensures.0, omega arith)
