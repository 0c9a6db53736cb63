-- `count_reads`. Invariant: counting the remaining reads over the present counts gives the counts of all reads.
-- Assumes nothing.
use mathlib.Core.Path.{◌≡◌}
use Prim.Native.Nat.{◌+◌}
use lib.ListN.{length, drop}
use Rattle.pattern.specs.Patterns.{bases_of}
use Rattle.lent.specs.Lists.{sum}
use Rattle.counting.proofs.Joined.{rest_over}
use Rattle.counting.proofs.count_reads.Given as goal

abbrev pub invariant-loop-length : goal.invariant-loop-length
invariant-loop-length l = (l.from + sum (drop l.length-index l.read_lengths) ≡ length l.read_bases)
    × (rest_over (bases_of l.pattern).unconverted l.count_all_positions l.informative l.read_lengths l.read_bases l.read_aligned l.length-index l.from l.unconverted
    ≡ rest_over (bases_of l.pattern).unconverted l.count_all_positions l.informative l.read_lengths l.read_bases l.read_aligned 0 0 l.initial.unconverted)
    × (rest_over (bases_of l.pattern).converted l.count_all_positions l.informative l.read_lengths l.read_bases l.read_aligned l.length-index l.from l.converted
    ≡ rest_over (bases_of l.pattern).converted l.count_all_positions l.informative l.read_lengths l.read_bases l.read_aligned 0 0 l.initial.converted)
