-- `columns_of` answers 1 for a column that is too long, then 2 for one that is not as long as the first.
-- Assumes nothing.
use native.Mathlib.Omega.{arith}
use borrow.Author.Tests.{eq-eqb, le-leb, lt-leb, ne_eqb}
use Rattle.refusals.specs.Refusals.{columns_of}
use Rattle.refusals.proofs.columns_of.Goals as goal

pub returns-then-informative-gt-POSITIONS : goal.returns-then-informative-gt-POSITIONS
unfolding columns_of
returns-then-informative-gt-POSITIONS c =
    let a = c.args in
    rw (lt-leb a.informative 16000 (omega arith))

pub returns-then-unconverted-gt-POSITIONS : goal.returns-then-unconverted-gt-POSITIONS
unfolding columns_of
returns-then-unconverted-gt-POSITIONS c =
    let a = c.args in
    rw (le-leb a.informative 16000 (omega arith), lt-leb a.unconverted 16000 (omega arith))

pub returns-then-converted-gt-POSITIONS : goal.returns-then-converted-gt-POSITIONS
unfolding columns_of
returns-then-converted-gt-POSITIONS c =
    let a = c.args in
    rw (le-leb a.informative 16000 (omega arith), le-leb a.unconverted 16000 (omega arith), lt-leb a.converted 16000 (omega arith))

pub returns-then-unconverted-informative : goal.returns-then-unconverted-informative
unfolding columns_of
returns-then-unconverted-informative c =
    let a = c.args in
    rw (
      le-leb a.informative 16000 (omega arith),
      le-leb a.unconverted 16000 (omega arith),
      le-leb a.converted 16000 (omega arith),
      ne_eqb a.unconverted a.informative (λ e. omega arith),
    )

pub returns-then-converted-informative : goal.returns-then-converted-informative
unfolding columns_of
returns-then-converted-informative c =
    let a = c.args in
    rw (
      le-leb a.informative 16000 (omega arith),
      le-leb a.unconverted 16000 (omega arith),
      le-leb a.converted 16000 (omega arith),
      eq-eqb a.unconverted a.informative (omega arith),
      ne_eqb a.converted a.informative (λ e. omega arith),
    )

pub returns : goal.returns
unfolding columns_of
returns c =
    let a = c.args in
    rw (
      le-leb a.informative 16000 (omega arith),
      le-leb a.unconverted 16000 (omega arith),
      le-leb a.converted 16000 (omega arith),
      eq-eqb a.unconverted a.informative (omega arith),
      eq-eqb a.converted a.informative (omega arith),
    )
