-- `counts`: the base is 'N', or the byte is the base.
-- Assumes nothing.
use native.Mathlib.Omega.{arith}
use borrow.Author.Tests.{eq-eqb, ne_eqb}
use Rattle.samtags.specs.Spots.{holds}
use Rattle.strides.proofs.counts.Goals as goal

pub returns-then-base-eq78 : goal.returns-then-base-eq78
unfolding holds
returns-then-base-eq78 c = rw (eq-eqb c.args.base 78 (omega arith))

pub returns-else-base-eq78 : goal.returns-else-base-eq78
unfolding holds
returns-else-base-eq78 c = rw (ne_eqb c.args.base 78 (λ e. omega arith))
