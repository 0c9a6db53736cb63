-- `paired_text`: the part of the record, or no byte of it.
-- Assumes nothing.
use mathlib.Core.Path.{sym}
use Prim.Native.Nat.{◌+◌, ◌-◌}
use native.Mathlib.Omega.{arith}
use lib.ListN.{drop, length-take}
use Rattle.record_fates.proofs.FateLaws.{part_text}
use Rattle.record_edits.proofs.paired_text.Goals as goal

pub overflow_sub-result : goal.overflow_sub-result
overflow_sub-result c = let k = c.requires.1 c.if-fate-eq-PAIRED.true in omega (arith, k)

pub slice_bounds-result-count : goal.slice_bounds-result-count
slice_bounds-result-count c = let k = c.requires.1 c.if-fate-eq-PAIRED.true in omega (arith, k)

pub slice_bounds-result-start : goal.slice_bounds-result-start
slice_bounds-result-start c = let k = c.requires.1 c.if-fate-eq-PAIRED.true in omega (arith, k)

pub returns-then-fate-eq-PAIRED : goal.returns-then-fate-eq-PAIRED
returns-then-fate-eq-PAIRED c =
    let k = c.requires.1 c.if-fate-eq-PAIRED.true in
    (λ e. sym (part_text c.args.bam.now c.args.at c.args.size c.requires.0 k.0), omega (arith, k, length-take ((c.args.at + c.args.size - 1) - (c.args.at + 3)) (drop (c.args.at + 3) c.args.bam.now)))

pub returns : goal.returns
returns c = (λ e. absurd (c.if-fate-eq-PAIRED.false e), omega arith)
