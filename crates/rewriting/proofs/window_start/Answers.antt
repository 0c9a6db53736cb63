-- `window_start`: 0 if the lengths agree, and otherwise the given start.
-- Assumes nothing.
use native.Mathlib.Omega.{arith}
use borrow.Author.Tests.{eq-eqb, ne_eqb}
use Rattle.rewriting.proofs.window_start.Goals as goal

pub returns-then-before-after : goal.returns-then-before-after
returns-then-before-after c = rw (eq-eqb c.args.before c.args.after (omega arith))

pub returns : goal.returns
returns c = rw (ne_eqb c.args.before c.args.after (omega arith))
