-- `lengths_now`: ML's new length is the number of values left; without ML it is unchanged.
-- Assumes nothing.
use native.Mathlib.Omega.{arith}
use Rattle.stepping.proofs.lengths_now.Goals as goal

pub returns-then-has_ml : goal.returns-then-has_ml
returns-then-has_ml c = (omega arith, omega arith, rw c.if-has_ml.true (omega arith))

pub returns : goal.returns
returns c = (omega arith, omega arith, rw c.if-has_ml.false (omega arith))
