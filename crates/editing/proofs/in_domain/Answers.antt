-- `in_domain` checks each length by itself.
-- Assumes nothing.
use native.Mathlib.Omega.{arith}
use lib.ListN.{length}
use borrow.Author.Tests.{le-leb, lt-leb}
use Rattle.samtags.proofs.Taken.{taken_fits}
use Rattle.editing.proofs.in_domain.Goals as goal

pub returns-then-seq-gt16000 : goal.returns-then-seq-gt16000
returns-then-seq-gt16000 c = rw (lt-leb (length c.args.seq.now) 16000 (omega arith))

pub returns-then-mm-gt65536 : goal.returns-then-mm-gt65536
returns-then-mm-gt65536 c =
    rw (le-leb (length c.args.seq.now) 16000 (omega arith), lt-leb (length c.args.mm.now) 65536 (omega arith))

pub returns : goal.returns
returns c =
    rw (
      le-leb (length c.args.seq.now) 16000 (omega arith),
      le-leb (length c.args.mm.now) 65536 (omega arith),
      taken_fits c.args.has_ml c.args.ml.now,
      ← c.values_taken-taken.ensures,
    )
