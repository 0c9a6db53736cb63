-- `one_more` adds one if the answer is yes.
-- Assumes nothing.
use native.Mathlib.Omega.{arith}
use Rattle.entries.proofs.one_more.Goals as goal

pub returns-then-yes : goal.returns-then-yes
returns-then-yes c = rw c.if-yes.true

pub returns : goal.returns
returns c = rw c.if-yes.false (omega arith)
