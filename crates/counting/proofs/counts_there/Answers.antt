-- `counts_there`, by cases: all positions count, the position is not informative, or the aligned byte decides.
-- Assumes nothing.
use mathlib.Core.Path.{refl}
use native.Mathlib.Omega.{arith}
use borrow.Author.Tests.{eq-eqb, ne_eqb}
use Rattle.counting.proofs.counts_there.Goals as goal

pub returns-then-count_all_positions : goal.returns-then-count_all_positions
returns-then-count_all_positions c = rw c.if-count_all_positions.true

pub returns-then-informative-eq0 : goal.returns-then-informative-eq0
returns-then-informative-eq0 c =
    rw (c.if-count_all_positions.false, eq-eqb c.args.informative 0 (omega arith))

pub returns : goal.returns
returns c =
    rw (c.if-count_all_positions.false, ne_eqb c.args.informative 0 (λ e. omega arith)) refl
