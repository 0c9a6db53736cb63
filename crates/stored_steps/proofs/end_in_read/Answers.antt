-- `end_in_read` exchanges the two ends of a reverse read.
-- Assumes nothing.
use mathlib.Core.Path.{ap, sym}
use mathlib.Core.Bool.{Bool, cond}
use Rattle.stored_steps.proofs.end_in_read.Goals as goal

pub returns-then-reverse : goal.returns-then-reverse
returns-then-reverse c = ap (λ (r : Bool). cond r c.args.other c.args.this) (sym c.if-reverse.true)

pub returns : goal.returns
returns c = ap (λ (r : Bool). cond r c.args.other c.args.this) (sym c.if-reverse.false)
