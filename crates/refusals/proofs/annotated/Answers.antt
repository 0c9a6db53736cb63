-- `annotated` answers 1 if an input is too long, then 2 if lengths, bases and aligned bytes disagree, then 12 if a column has no room.
-- Assumes nothing.
use native.Mathlib.Omega.{arith}
use borrow.Author.Tests.{eq-eqb, ne_eqb, le-leb, lt-leb}
use lib.ListN.{length}
use Rattle.refusals.specs.Refusals.{annotated}
use Rattle.lent.specs.Lists.{sum}
use Rattle.refusals.proofs.annotated.Goals as goal

pub returns-then-consensus_len-gt-POSITIONS : goal.returns-then-consensus_len-gt-POSITIONS
unfolding annotated
returns-then-consensus_len-gt-POSITIONS c =
    let a = c.args in
    rw
    (lt-leb a.consensus_len 16000 (omega arith))

pub returns-then-read_lengths-gt-READS : goal.returns-then-read_lengths-gt-READS
unfolding annotated
returns-then-read_lengths-gt-READS c =
    let a = c.args in
    rw (
      le-leb a.consensus_len 16000 (omega arith),
      lt-leb (length a.read_lengths.now) 4096 (omega arith),
    )

pub returns-then-read_bases-gt-BASES : goal.returns-then-read_bases-gt-BASES
unfolding annotated
returns-then-read_bases-gt-BASES c =
    let a = c.args in
    rw (
      le-leb a.consensus_len 16000 (omega arith),
      le-leb (length a.read_lengths.now) 4096 (omega arith),
      lt-leb (length a.read_bases.now) 1048576 (omega arith),
    )

pub returns-then-read_aligned-gt-BASES : goal.returns-then-read_aligned-gt-BASES
unfolding annotated
returns-then-read_aligned-gt-BASES c =
    let a = c.args in
    rw (
      le-leb a.consensus_len 16000 (omega arith),
      le-leb (length a.read_lengths.now) 4096 (omega arith),
      le-leb (length a.read_bases.now) 1048576 (omega arith),
      lt-leb (length a.read_aligned.now) 1048576 (omega arith),
    )

pub returns-then-total-read_bases : goal.returns-then-total-read_bases
unfolding annotated
returns-then-total-read_bases c =
    let a = c.args in
    rw (
      le-leb a.consensus_len 16000 (omega arith),
      le-leb (length a.read_lengths.now) 4096 (omega arith),
      le-leb (length a.read_bases.now) 1048576 (omega arith),
      le-leb (length a.read_aligned.now) 1048576 (omega arith),
      ne_eqb (sum a.read_lengths.now) (length a.read_bases.now) (λ e. omega arith),
    )

pub returns-then-read_aligned-read_bases : goal.returns-then-read_aligned-read_bases
unfolding annotated
returns-then-read_aligned-read_bases c =
    let a = c.args in
    rw (
      le-leb a.consensus_len 16000 (omega arith),
      le-leb (length a.read_lengths.now) 4096 (omega arith),
      le-leb (length a.read_bases.now) 1048576 (omega arith),
      le-leb (length a.read_aligned.now) 1048576 (omega arith),
      eq-eqb (sum a.read_lengths.now) (length a.read_bases.now) (omega arith),
      ne_eqb (length a.read_aligned.now) (length a.read_bases.now) (λ e. omega arith),
    )

pub returns : goal.returns
unfolding annotated
returns c =
    let a = c.args in
    rw (
      c.in_room.ensures,
      le-leb a.consensus_len 16000 (omega arith),
      le-leb (length a.read_lengths.now) 4096 (omega arith),
      le-leb (length a.read_bases.now) 1048576 (omega arith),
      le-leb (length a.read_aligned.now) 1048576 (omega arith),
      eq-eqb (sum a.read_lengths.now) (length a.read_bases.now) (omega arith),
      eq-eqb (length a.read_aligned.now) (length a.read_bases.now) (omega arith),
    )
