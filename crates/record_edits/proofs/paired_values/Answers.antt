-- `paired_values`: the part of the record, or no byte of it.
-- Assumes nothing.
use mathlib.Core.Path.{sym}
use Prim.Native.Nat.{◌+◌, ◌-◌}
use native.Mathlib.Omega.{arith}
use lib.ListN.{drop, length-take}
use Rattle.record_fates.proofs.FateLaws.{part_values}
use Rattle.record_edits.proofs.paired_values.Goals as goal

pub slice_bounds-result-count : goal.slice_bounds-result-count
slice_bounds-result-count c = let k = c.requires.1 c.if-fate-eq-PAIRED.true in omega (arith, k)

pub slice_bounds-result-start : goal.slice_bounds-result-start
slice_bounds-result-start c = let k = c.requires.1 c.if-fate-eq-PAIRED.true in omega (arith, k)

pub returns-then-fate-eq-PAIRED : goal.returns-then-fate-eq-PAIRED
returns-then-fate-eq-PAIRED c =
    let k = c.requires.1 c.if-fate-eq-PAIRED.true in
    (λ e. sym (part_values c.args.bam.now c.args.at c.args.size c.requires.0 k.0), omega (arith, k, length-take ((c.args.at + c.args.size) - (c.args.at + 8)) (drop (c.args.at + 8) c.args.bam.now)))

pub returns : goal.returns
returns c = (λ e. absurd (c.if-fate-eq-PAIRED.false e), omega arith)
