-- `is_mark`: '.' or '?'.
-- Assumes nothing.
use native.Mathlib.Omega.{arith}
use borrow.Author.Tests.{eq-eqb, ne_eqb}
use Rattle.samtags.specs.Bytes.{is_mark}
use Rattle.headers.proofs.is_mark.Goals as goal

pub returns-then-b-eq46 : goal.returns-then-b-eq46
unfolding is_mark
returns-then-b-eq46 c = rw (eq-eqb c.args.b 46 (omega arith))

pub returns-else-b-eq46 : goal.returns-else-b-eq46
unfolding is_mark
returns-else-b-eq46 c = rw (ne_eqb c.args.b 46 (λ e. omega arith))
