-- `in_domain` compares each length with the bound.
-- Assumes nothing.
use native.Mathlib.Omega.{arith}
use lib.ListN.{length}
use borrow.Author.Tests.{le-leb, lt-leb}
use Rattle.strand.proofs.in_domain.Goals as goal

pub returns-then-seq-gt-POSITIONS : goal.returns-then-seq-gt-POSITIONS
returns-then-seq-gt-POSITIONS c = rw (lt-leb (length c.args.seq.now) 16000 (omega arith))

pub returns-then-informative-gt-POSITIONS : goal.returns-then-informative-gt-POSITIONS
returns-then-informative-gt-POSITIONS c =
    let a = c.args in
    rw (le-leb (length a.seq.now) 16000 (omega arith), lt-leb (length a.informative.now) 16000 (omega arith))

pub returns-then-unconverted-gt-POSITIONS : goal.returns-then-unconverted-gt-POSITIONS
returns-then-unconverted-gt-POSITIONS c =
    let a = c.args in
    rw (
      le-leb (length a.seq.now) 16000 (omega arith),
      le-leb (length a.informative.now) 16000 (omega arith),
      lt-leb (length a.unconverted.now) 16000 (omega arith),
    )

pub returns : goal.returns
returns c =
    let a = c.args in
    rw (
      le-leb (length a.seq.now) 16000 (omega arith),
      le-leb (length a.informative.now) 16000 (omega arith),
      le-leb (length a.unconverted.now) 16000 (omega arith),
    )
