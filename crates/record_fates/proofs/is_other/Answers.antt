-- `is_other`: at the limit and above it an integer is negative.
-- Assumes nothing.
use native.Mathlib.Omega.{arith}
use borrow.Author.Tests.{le-leb, lt-leb}
use Rattle.record_fates.proofs.is_other.Goals as goal

pub returns-then-limit-value : goal.returns-then-limit-value
returns-then-limit-value c =
    rw (le-leb c.args.limit c.args.value (omega arith))

pub returns : goal.returns
returns c =
    rw (lt-leb c.args.limit c.args.value (omega arith))
