use native.Mathlib.Omega.{arith}
use lib.ListN.{drop, length, length-drop}
use borrow.Author.Tests.{le-leb}
use Rattle.windows.proofs.LiesLaws.{lies_short}
use Rattle.windows.proofs.lies_in.Goals as goal

pub returns-then-seq-lo-2 : goal.returns-then-seq-lo-2
returns-then-seq-lo-2 c =
    let a = c.args in
    rw (
      le-leb a.lo (length a.seq.now) (omega arith),
      lies_short a.after.now (drop a.lo a.seq.now) (omega (
        arith,
        length-drop
            a.lo a.seq.now,
      )),
    )
