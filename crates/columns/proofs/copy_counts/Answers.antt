use mathlib.Core.Path.{◌≡◌}
use native.Mathlib.Numerals.{add-one}
use native.Mathlib.Omega.{arith}
use lib.ListN.{get_or, length, take}
use lib.Seq.{length-take-le, take-suc}
use Rattle.lent.proofs.Filled.{over_none, over_one_more}
use Rattle.columns.proofs.copy_counts.Goals as goal

pub loop-i-init : goal.loop-i-init
loop-i-init c = over_none c.args.out.now

pub loop-i-preserved : goal.loop-i-preserved
loop-i-preserved c =
    let from = c.args.counts.now in
    let i = c.loop-i.i in
    let n : length (take i from) ≡ i = length-take-le i from (omega arith) in
    rw (c.loop-i.invariant, over_one_more (take i from) c.args.out.now i (get_or from i 0) n (omega arith), add-one, take-suc from i 0 (omega arith))
