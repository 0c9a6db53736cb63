-- `eq_ignore_ascii_case`: a byte that is not a letter is the same only as itself. A letter is the same as each byte that differs from it in case at most.
-- Assumes nothing.
use native.Mathlib.Omega.{arith}
use Rattle.pattern.proofs.Cases.{same_below, same_letter, same_past}
use Rattle.pattern.proofs.eq_ignore_ascii_case.Goals as goal

pub returns-then-capital-lt65 : goal.returns-then-capital-lt65
returns-then-capital-lt65 c =
    let a = c.args in
    same_below a.a a.b (omega arith) (omega arith)

pub returns-then-capital-gt90 : goal.returns-then-capital-gt90
returns-then-capital-gt90 c =
    let a = c.args in
    same_past a.a a.b (omega arith) (omega arith)

pub returns : goal.returns
returns c =
    let a = c.args in
    same_letter a.a a.b (omega arith) (omega arith) (omega arith) (omega arith)
