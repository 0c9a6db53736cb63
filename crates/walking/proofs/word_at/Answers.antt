-- `word_at`: backward the words are counted from the last.
-- Assumes nothing.
use mathlib.Core.Path.{sym}
use native.Mathlib.Omega.{arith}
use Rattle.lent.proofs.Reversed.{get_d_reverse}
use Rattle.walking.proofs.word_at.Goals as goal

pub returns-then-is_reverse : goal.returns-then-is_reverse
returns-then-is_reverse c =
    let a = c.args in
    rw c.if-is_reverse.true (sym (get_d_reverse a.cigar.now a.i 0 (omega arith)))

pub returns : goal.returns
returns c = rw c.if-is_reverse.false
