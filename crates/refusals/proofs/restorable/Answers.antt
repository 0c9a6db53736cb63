-- `restorable` answers 1 if an input is too long, then 2 if the lengths disagree.
-- Assumes nothing.
use native.Mathlib.Omega.{arith}
use borrow.Author.Tests.{eq-eqb, le-leb, lt-leb, ne_eqb}
use Rattle.refusals.specs.Refusals.{restorable}
use Rattle.refusals.proofs.restorable.Goals as goal

pub returns-then-bases-gt-POSITIONS : goal.returns-then-bases-gt-POSITIONS
unfolding restorable
returns-then-bases-gt-POSITIONS c =
    let a = c.args in
    rw (lt-leb a.bases 16000 (omega arith))

pub returns-then-informative-gt-POSITIONS : goal.returns-then-informative-gt-POSITIONS
unfolding restorable
returns-then-informative-gt-POSITIONS c =
    let a = c.args in
    rw (le-leb a.bases 16000 (omega arith), lt-leb a.informative 16000 (omega arith))

pub returns-then-informative-bases : goal.returns-then-informative-bases
unfolding restorable
returns-then-informative-bases c =
    let a = c.args in
    rw (le-leb a.bases 16000 (omega arith), le-leb a.informative 16000 (omega arith), ne_eqb a.informative a.bases (λ e. omega arith))

pub returns : goal.returns
unfolding restorable
returns c =
    let a = c.args in
    rw (le-leb a.bases 16000 (omega arith), le-leb a.informative 16000 (omega arith), eq-eqb a.informative a.bases (omega arith))
