-- `is_digit`: from '0' to '9'.
-- Assumes nothing.
use native.Mathlib.Omega.{arith}
use borrow.Author.Tests.{le-leb, lt-leb}
use Rattle.samtags.specs.Bytes.{is_digit}
use Rattle.headers.proofs.is_digit.Goals as goal

pub returns-then-b-ge48 : goal.returns-then-b-ge48
unfolding is_digit
returns-then-b-ge48 c = rw (le-leb 48 c.args.b (omega arith))

pub returns-else-b-ge48 : goal.returns-else-b-ge48
unfolding is_digit
returns-else-b-ge48 c = rw (lt-leb 48 c.args.b (omega arith))
