-- `has_mark`, by cases: the line is too short, its first byte differs, or the second byte decides.
-- Assumes nothing.
use mathlib.Core.Path.{sym}
use native.Mathlib.Omega.{arith}
use Rattle.lines.proofs.MarkLaws.{mark_first, mark_second, mark_short}
use Rattle.lines.proofs.has_mark.Goals as goal

pub returns-then-line-lt2 : goal.returns-then-line-lt2
returns-then-line-lt2 c = sym (mark_short c.args.line.now c.args.a c.args.b (omega arith))

pub returns-then-line-a : goal.returns-then-line-a
returns-then-line-a c = let a = c.args in sym (mark_first a.line.now a.a a.b (omega arith) (omega arith))

pub returns : goal.returns
returns c = let a = c.args in sym (mark_second a.line.now a.a a.b (omega arith) (omega arith))
