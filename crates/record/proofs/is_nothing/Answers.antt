-- `is_nothing` compares each number with 0.
-- Assumes nothing.
use native.Mathlib.Omega.{arith}
use borrow.Author.Tests.{eq-eqb, ne_eqb}
use Rattle.record.proofs.is_nothing.Goals as goal

pub returns-then-letters-ne0 : goal.returns-then-letters-ne0
returns-then-letters-ne0 c = rw (ne_eqb c.args.letters 0 (λ e. omega (arith, e)))

pub returns : goal.returns
returns c = rw (eq-eqb c.args.letters 0 (omega arith))
