-- `is_whole`: a record of fewer than 32 bytes has no head.
-- Assumes nothing.
use mathlib.Core.Path.{refl}
use native.Mathlib.Omega.{arith}
use lib.ListN.{length}
use borrow.Author.Tests.{le-leb, lt-leb}
use Rattle.record_fields.proofs.is_whole.Goals as goal

pub returns-then-bam-lt32 : goal.returns-then-bam-lt32
returns-then-bam-lt32 c = rw (lt-leb 32 (length c.args.bam.now) (omega arith)) refl

pub returns : goal.returns
returns c =
    let bam = c.args.bam.now in
    rw (le-leb 32 (length bam) (omega arith), c.head_of-head.ensures.3) refl
