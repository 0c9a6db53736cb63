-- `is_count`: by cases.
-- Assumes nothing.
use native.Mathlib.Omega.{arith}
use borrow.Author.Tests.{eq-eqb, ne_eqb}
use Rattle.duplex.proofs.is_count.Goals as goal

pub returns-then-strands-eq1 : goal.returns-then-strands-eq1
returns-then-strands-eq1 c = rw (eq-eqb c.args.strands 1 (omega arith))

pub returns-else-strands-eq1 : goal.returns-else-strands-eq1
returns-else-strands-eq1 c = rw (ne_eqb c.args.strands 1 (omega arith))
