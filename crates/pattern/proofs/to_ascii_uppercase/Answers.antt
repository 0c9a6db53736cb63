-- `to_ascii_uppercase` returns the upper case of its byte, by cases: below 'a', past 'z', or between them.
-- Assumes nothing.
use native.Mathlib.Omega.{arith}
use borrow.Author.Tests.{le-leb, lt-leb}
use Rattle.pattern.specs.Case.{upper}
use Rattle.pattern.proofs.to_ascii_uppercase.Goals as goal

pub returns-then-b-lt97 : goal.returns-then-b-lt97
unfolding upper
returns-then-b-lt97 c = rw (lt-leb 97 c.args.b (omega arith))

pub returns-then-b-gt122 : goal.returns-then-b-gt122
unfolding upper
returns-then-b-gt122 c =
    let b = c.args.b in
    rw (le-leb 97 b (omega arith), lt-leb b 122 (omega arith))

pub returns : goal.returns
unfolding upper
returns c =
    let b = c.args.b in
    rw (le-leb 97 b (omega arith), le-leb b 122 (omega arith))
