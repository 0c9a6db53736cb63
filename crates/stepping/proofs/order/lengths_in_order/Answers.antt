-- `lengths_in_order` checks each length in turn for 1, and then each of them for 2.
-- Assumes nothing.
use native.Mathlib.Omega.{arith}
use mathlib.Core.Bool.{cond}
use borrow.Author.Tests.{le-leb, lt-leb}
use Rattle.stepping.proofs.OrderLaws.{values_leb}
use Rattle.stepping.proofs.order.lengths_in_order.Goals as goal

pub returns-then-lengths-gt16000 : goal.returns-then-lengths-gt16000
returns-then-lengths-gt16000 c =
    rw (lt-leb c.args.lengths.seq 16000 (omega arith))

pub returns-then-lengths-gt65536 : goal.returns-then-lengths-gt65536
returns-then-lengths-gt65536 c =
    rw (
      le-leb c.args.lengths.seq 16000 (omega arith),
      lt-leb c.args.lengths.mm 65536 (omega arith),
    )

pub returns-then-taken-gt65536 : goal.returns-then-taken-gt65536
returns-then-taken-gt65536 c =
    let taken = c.values_taken-taken.ensures in
    rw (
      values_leb c.args.has_ml c.args.lengths.ml 65536,
      le-leb c.args.lengths.seq 16000 (omega arith),
      le-leb c.args.lengths.mm 65536 (omega arith),
      lt-leb (cond c.args.has_ml c.args.lengths.ml 0) 65536 (omega (arith, taken)),
    )

pub returns-then-seq-lengths : goal.returns-then-seq-lengths
returns-then-seq-lengths c =
    let taken = c.values_taken-taken.ensures in
    rw (
      values_leb c.args.has_ml c.args.lengths.ml 65536,
      le-leb c.args.lengths.seq 16000 (omega arith),
      le-leb c.args.lengths.mm 65536 (omega arith),
      le-leb (cond c.args.has_ml c.args.lengths.ml 0) 65536 (omega (arith, taken)),
      lt-leb c.args.lengths.seq c.args.seq (omega arith),
    )

pub returns-then-mm-lengths : goal.returns-then-mm-lengths
returns-then-mm-lengths c =
    let taken = c.values_taken-taken.ensures in
    rw (
      values_leb c.args.has_ml c.args.lengths.ml 65536,
      le-leb c.args.lengths.seq 16000 (omega arith),
      le-leb c.args.lengths.mm 65536 (omega arith),
      le-leb (cond c.args.has_ml c.args.lengths.ml 0) 65536 (omega (arith, taken)),
      le-leb c.args.lengths.seq c.args.seq (omega arith),
      lt-leb c.args.lengths.mm c.args.mm (omega arith),
    )

pub returns-then-ml-taken : goal.returns-then-ml-taken
returns-then-ml-taken c =
    let taken = c.values_taken-taken.ensures in
    rw (
      values_leb c.args.has_ml c.args.lengths.ml 65536,
      values_leb c.args.has_ml c.args.lengths.ml c.args.ml,
      le-leb c.args.lengths.seq 16000 (omega arith),
      le-leb c.args.lengths.mm 65536 (omega arith),
      le-leb (cond c.args.has_ml c.args.lengths.ml 0) 65536 (omega (arith, taken)),
      le-leb c.args.lengths.seq c.args.seq (omega arith),
      le-leb c.args.lengths.mm c.args.mm (omega arith),
      lt-leb (cond c.args.has_ml c.args.lengths.ml 0) c.args.ml (omega (arith, taken)),
    )

pub returns : goal.returns
returns c =
    let taken = c.values_taken-taken.ensures in
    rw (
      values_leb c.args.has_ml c.args.lengths.ml 65536,
      values_leb c.args.has_ml c.args.lengths.ml c.args.ml,
      le-leb c.args.lengths.seq 16000 (omega arith),
      le-leb c.args.lengths.mm 65536 (omega arith),
      le-leb (cond c.args.has_ml c.args.lengths.ml 0) 65536 (omega (arith, taken)),
      le-leb c.args.lengths.seq c.args.seq (omega arith),
      le-leb c.args.lengths.mm c.args.mm (omega arith),
      le-leb (cond c.args.has_ml c.args.lengths.ml 0) c.args.ml (omega (arith, taken)),
    )
