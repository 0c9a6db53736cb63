use mathlib.Core.Path.{refl, sym, ◌∙◌}
use Prim.Native.Nat.{◌+◌}
use native.Mathlib.Omega.{arith}
use lib.ListN.{get_or}
use Rattle.pattern.specs.Patterns.{bases_of}
use Rattle.refusals.proofs.Sum.{sum_turn}
use Rattle.counting.proofs.Joined.{rest_turn, rest_end}
use Rattle.counting.proofs.count_reads.Goals as goal

pub loop-length-preserved : goal.loop-length-preserved
loop-length-preserved c =
    let all? = c.args.count_all_positions in
    let inf = c.args.informative.now in
    let ls = c.args.read_lengths.now in
    let bs = c.args.read_bases.now in
    let marks = c.args.read_aligned.now in
    let k = c.loop-length.length-index in
    let from = c.loop-length.from in
    let to = from + get_or ls k 0 in (
      omega (arith, sum_turn ls k (omega arith)),
      rest_turn (bases_of c.args.pattern).unconverted all? inf ls bs marks k from to c.loop-length.unconverted _ (omega arith) refl
          c.count_read.ensures.0
          ∙ c.loop-length.invariant.1,
      rest_turn (bases_of c.args.pattern).converted all? inf ls bs marks k from to c.loop-length.converted _ (omega arith) refl
          c.count_read.ensures.1
          ∙ c.loop-length.invariant.2,
    )

pub returns : goal.returns
returns c =
    let all? = c.args.count_all_positions in
    let inf = c.args.informative.now in
    let ls = c.args.read_lengths.now in
    let bs = c.args.read_bases.now in
    let marks = c.args.read_aligned.now in
    let k = c.loop-length.length-index in
    let from = c.loop-length.from in (
      sym (rest_end (bases_of c.args.pattern).unconverted all? inf ls bs marks k from c.loop-length.unconverted (omega arith)) ∙ c.loop-length.invariant.1,
      sym (rest_end (bases_of c.args.pattern).converted all? inf ls bs marks k from c.loop-length.converted (omega arith)) ∙ c.loop-length.invariant.2,
    )
