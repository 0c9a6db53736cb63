-- `both_few` compares each number.
-- Assumes nothing.
use native.Mathlib.Omega.{arith}
use borrow.Author.Tests.{le-leb, lt-leb}
use Rattle.record.proofs.both_few.Goals as goal

pub returns-then-n-gt1024 : goal.returns-then-n-gt1024
returns-then-n-gt1024 c = rw (lt-leb c.args.n 1024 (omega arith))

pub returns : goal.returns
returns c = rw (le-leb c.args.n 1024 (omega arith))
