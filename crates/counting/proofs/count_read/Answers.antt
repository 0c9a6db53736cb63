use mathlib.Core.Path.{◌∙◌}
use native.Mathlib.Omega.{arith}
use lib.ListN.{get_or}
use Rattle.pattern.specs.Patterns.{bases_of}
use Rattle.counting.specs.Reads.{Read}
use Rattle.counting.specs.Counting.{count_after}
use Rattle.lent.proofs.Tabulate.{changed_turn}
use Rattle.counting.proofs.Counted.{there_unconverted, there_converted, read_added}
use Rattle.counting.proofs.count_read.Goals as goal

pub loop-i-preserved : goal.loop-i-preserved
loop-i-preserved c =
    let p = c.args.pattern in
    let all? = c.args.count_all_positions in
    let inf = c.args.informative.now in
    let unc = c.loop-i.unconverted in
    let con = c.loop-i.converted in
    let i = c.loop-i.i in
    let r : Read = record { bases = c.args.bases.now; aligned = c.args.aligned.now } in (
      rw c.count_base.ensures.0
          (changed_turn (count_after (bases_of p).unconverted all? inf r) 0 c.args.unconverted.now unc i _ c.loop-i.invariant.0 (omega arith)
          (there_unconverted all? p inf r i (get_or unc i 0) (get_or con i 0) (omega arith))),
      rw c.count_base.ensures.1
          (changed_turn (count_after (bases_of p).converted all? inf r) 0 c.args.converted.now con i _ c.loop-i.invariant.1 (omega arith)
          (there_converted all? p inf r i (get_or unc i 0) (get_or con i 0) (omega arith))),
    )

pub returns : goal.returns
returns c =
    let all? = c.args.count_all_positions in
    let inf = c.args.informative.now in
    let r : Read = record { bases = c.args.bases.now; aligned = c.args.aligned.now } in (
      c.loop-i.invariant.0 ∙ read_added (bases_of c.args.pattern).unconverted all? inf r c.loop-i.i c.args.unconverted.now (omega arith),
      c.loop-i.invariant.1 ∙ read_added (bases_of c.args.pattern).converted all? inf r c.loop-i.i c.args.converted.now (omega arith),
    )
