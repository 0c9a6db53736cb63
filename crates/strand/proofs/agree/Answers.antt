-- `agree` compares each length with SEQ's.
-- Assumes nothing.
use native.Mathlib.Omega.{arith}
use lib.ListN.{length}
use borrow.Author.Tests.{eq-eqb, ne_eqb}
use Rattle.strand.proofs.agree.Goals as goal

pub returns-then-informative-seq : goal.returns-then-informative-seq
returns-then-informative-seq c =
    let a = c.args in
    rw (ne_eqb (length a.informative.now) (length a.seq.now) (omega arith))

pub returns-then-unconverted-seq : goal.returns-then-unconverted-seq
returns-then-unconverted-seq c =
    let a = c.args in
    rw (
      eq-eqb (length a.informative.now) (length a.seq.now) (omega arith),
      ne_eqb (length a.unconverted.now) (length a.seq.now) (omega arith),
    )

pub returns : goal.returns
returns c =
    let a = c.args in
    rw (
      eq-eqb (length a.informative.now) (length a.seq.now) (omega arith),
      eq-eqb (length a.unconverted.now) (length a.seq.now) (omega arith),
    )
