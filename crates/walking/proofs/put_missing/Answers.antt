use native.Mathlib.Omega.{arith}
use lib.ListN.{replicate, length-replicate}
use Rattle.lent.proofs.Filled.{over_none, over_one_more}
use Rattle.cigar.specs.Cigar.{missing}
use Rattle.walking.proofs.Walks.{missing_more}
use Rattle.walking.proofs.put_missing.Goals as goal

pub loop-i-init : goal.loop-i-init
loop-i-init c = over_none c.args.out.now

pub loop-i-preserved : goal.loop-i-preserved
loop-i-preserved c =
    let i = c.loop-i.i in
    rw (c.loop-i.invariant, missing_more i) (over_one_more (replicate i missing) c.args.out.now i missing (length-replicate i missing) (omega arith))
