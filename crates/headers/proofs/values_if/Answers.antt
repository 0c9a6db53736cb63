-- `values_if`: none without ML.
-- Assumes nothing.
use Rattle.samtags.specs.Reading.{values_if}
use Rattle.headers.proofs.values_if.Goals as goal

pub returns-then-has_ml : goal.returns-then-has_ml
unfolding values_if
returns-then-has_ml c = rw c.if-has_ml.true c.values_per.ensures

pub returns : goal.returns
unfolding values_if
returns c = rw c.if-has_ml.false
