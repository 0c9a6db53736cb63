-- `ahead` starts at the place itself, or behind whole blocks.
-- Assumes nothing.
use mathlib.Core.Path.{◌≡◌, ap, refl, sym}
use mathlib.Core.Bool.{true}
use native.Mathlib.Omega.{arith}
use lib.ListN.{length}
use Rattle.strides.proofs.StrideLaws.{between_none}
use Rattle.places.proofs.ahead.Goals as goal

pub returns-then-skip-lt6 : goal.returns-then-skip-lt6
returns-then-skip-lt6 c =
    let a = c.args in
    (omega arith, omega arith, omega arith, sym (ap length (between_none a.base a.seq.now a.from)))

pub pass_blocks-requires : goal.pass_blocks-requires
pass_blocks-requires c =
    let a = c.args in
    (omega arith, omega arith, c.if-base-eq78.false, λ (e : true ≡ true). (refl, refl))
