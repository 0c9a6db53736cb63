-- `any_goes` looks for a 1.
-- Assumes nothing.
use native.Mathlib.Omega.{arith}
use borrow.Author.Tests.{eq-eqb, ne_eqb}
use Rattle.record_edits.proofs.any_goes.Goals as goal

pub returns-then-mm-eq-GOES : goal.returns-then-mm-eq-GOES
returns-then-mm-eq-GOES c = rw (eq-eqb c.args.mm 1 (omega arith))

pub returns-then-am-eq-GOES : goal.returns-then-am-eq-GOES
returns-then-am-eq-GOES c = rw (ne_eqb c.args.mm 1 c.if-mm-eq-GOES.false, eq-eqb c.args.am 1 (omega arith))

pub returns : goal.returns
returns c = rw (ne_eqb c.args.mm 1 c.if-mm-eq-GOES.false, ne_eqb c.args.am 1 c.if-am-eq-GOES.false)
