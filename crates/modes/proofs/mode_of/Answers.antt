-- `mode_of`, by cases of the number.
-- Assumes nothing.
use native.Mathlib.Omega.{arith}
use mathlib.Core.Path.{refl}
use borrow.Author.Tests.{eq-eqb, ne_eqb}
use Rattle.modes.proofs.mode_of.Goals as goal

pub returns-then-number-eq0 : goal.returns-then-number-eq0
returns-then-number-eq0 c = rw (eq-eqb c.args.number 0 (omega arith)) refl

pub returns-then-number-eq1 : goal.returns-then-number-eq1
returns-then-number-eq1 c =
    let n = c.args.number in
    rw (ne_eqb n 0 (omega arith), eq-eqb n 1 (omega arith)) refl

pub returns-then-number-eq2 : goal.returns-then-number-eq2
returns-then-number-eq2 c =
    let n = c.args.number in
    rw (ne_eqb n 0 (omega arith), ne_eqb n 1 (omega arith), eq-eqb n 2 (omega arith)) refl

pub returns : goal.returns
returns c =
    let n = c.args.number in
    rw (ne_eqb n 0 (omega arith), ne_eqb n 1 (omega arith), ne_eqb n 2 (omega arith)) refl
