-- `fill` marks, zeroes and counts, and the columns are then those of the definition.
-- Assumes nothing.
use native.Mathlib.Omega.{arith}
use lib.ListN.{length}
use Rattle.pattern.specs.Patterns.{bases_of}
use Rattle.counting.specs.Reads.{reads_of}
use Rattle.counting.proofs.Counted.{filled_column}
use Rattle.counting.proofs.fill.Goals as goal

pub returns : goal.returns
returns c =
    let row = c.args.ref_bases.now in
    let all? = c.args.count_all_positions in
    let reads = reads_of c.args.read_lengths.now c.args.read_bases.now c.args.read_aligned.now in
    let n = length c.args.informative.now in
    let e = c.mark.ensures in (
      e,
      filled_column (bases_of c.args.pattern).unconverted c.args.pattern all? row reads n (length c.args.unconverted.now) _ _ _ e c.clear.ensures
          (omega (arith, c.requires)) c.count_reads.ensures.0,
      filled_column (bases_of c.args.pattern).converted c.args.pattern all? row reads n (length c.args.converted.now) _ _ _ e c.clear-2.ensures
          (omega (arith, c.requires)) c.count_reads.ensures.1,
    )
