-- `stands`: the byte is the one that was there, or one of the two that mask.
-- Assumes nothing.
use native.Mathlib.Omega.{arith}
use borrow.Author.Tests.{eq-eqb, ne_eqb}
use Rattle.windows.proofs.stands.Goals as goal

pub returns-then-b-stood : goal.returns-then-b-stood
returns-then-b-stood c = rw (eq-eqb c.args.b c.args.stood (omega arith))

pub returns-then-b-eq78 : goal.returns-then-b-eq78
returns-then-b-eq78 c =
    let a = c.args in
    rw (ne_eqb a.b a.stood (omega arith), eq-eqb a.b 78 (omega arith))

pub returns-else-b-eq78 : goal.returns-else-b-eq78
returns-else-b-eq78 c =
    let a = c.args in
    rw (ne_eqb a.b a.stood (omega arith), ne_eqb a.b 78 (omega arith))
