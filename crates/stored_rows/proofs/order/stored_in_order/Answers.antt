-- `stored_in_order` checks each length in turn for 1, and then the packed bytes for 2.
-- Assumes nothing.
use native.Mathlib.Omega.{arith}
use mathlib.Core.Bool.{cond}
use borrow.Author.Tests.{eq-eqb, le-leb, lt-leb, ne_eqb}
use Rattle.stepping.proofs.OrderLaws.{values_leb}
use Rattle.packed.specs.Packed.{bytes_for}
use Rattle.stored_rows.proofs.order.stored_in_order.Goals as goal

pub returns-then-bases-gt16000 : goal.returns-then-bases-gt16000
returns-then-bases-gt16000 c =
    rw (lt-leb c.args.bases 16000 (omega arith))

pub returns-then-mm-gt65536 : goal.returns-then-mm-gt65536
returns-then-mm-gt65536 c =
    rw (
      le-leb c.args.bases 16000 (omega arith),
      lt-leb c.args.mm 65536 (omega arith),
    )

pub returns-then-taken-gt65536 : goal.returns-then-taken-gt65536
returns-then-taken-gt65536 c =
    let taken = c.values_taken-taken.ensures in
    rw (
      values_leb c.args.has_ml c.args.ml 65536,
      le-leb c.args.bases 16000 (omega arith),
      le-leb c.args.mm 65536 (omega arith),
      lt-leb (cond c.args.has_ml c.args.ml 0) 65536 (omega (arith, taken)),
    )

pub returns-then-packed-bytes_for : goal.returns-then-packed-bytes_for
returns-then-packed-bytes_for c =
    let taken = c.values_taken-taken.ensures in
    rw (
      values_leb c.args.has_ml c.args.ml 65536,
      le-leb c.args.bases 16000 (omega arith),
      le-leb c.args.mm 65536 (omega arith),
      le-leb (cond c.args.has_ml c.args.ml 0) 65536 (omega (arith, taken)),
      ne_eqb c.args.packed (bytes_for c.args.bases) (λ e. omega (arith, e)),
    )

pub returns : goal.returns
returns c =
    let taken = c.values_taken-taken.ensures in
    rw (
      values_leb c.args.has_ml c.args.ml 65536,
      le-leb c.args.bases 16000 (omega arith),
      le-leb c.args.mm 65536 (omega arith),
      le-leb (cond c.args.has_ml c.args.ml 0) 65536 (omega (arith, taken)),
      eq-eqb c.args.packed (bytes_for c.args.bases) (omega arith),
    )
