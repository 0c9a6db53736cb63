-- `text_fits`: a text takes four bytes besides its own.
-- Assumes nothing.
use mathlib.Core.Path.{sym}
use Prim.Native.Nat.{◌≤◌}
use native.Mathlib.Omega.{arith}
use Rattle.record_fates.proofs.FateLaws.{fits_none, fits_other, fits_text, part_least}
use Rattle.record_fates.proofs.text_fits.Goals as goal

pub returns-then-size-eq0 : goal.returns-then-size-eq0
returns-then-size-eq0 c =
    sym (fits_none c.args.bam.now c.args.at c.args.size c.requires.0 c.requires.1 (omega arith))

pub bounds-bam-at : goal.bounds-bam-at
bounds-bam-at c =
    let least : 4 ≤ c.args.size = part_least c.args.bam.now c.args.at c.args.size c.requires.0 c.requires.1 (λ q. omega arith) in
    omega (arith, least)

pub returns-then-bam-at-ne90 : goal.returns-then-bam-at-ne90
returns-then-bam-at-ne90 c =
    sym (fits_other c.args.bam.now c.args.at c.args.size c.requires.0 c.requires.1 (λ q. omega arith) (λ q. omega arith))

pub overflow_sub-result : goal.overflow_sub-result
overflow_sub-result c =
    let least : 4 ≤ c.args.size = part_least c.args.bam.now c.args.at c.args.size c.requires.0 c.requires.1 (λ q. omega arith) in
    least

pub returns : goal.returns
returns c =
    sym (fits_text c.args.bam.now c.args.at c.args.size c.requires.0 c.requires.1 (λ q. omega arith) (omega arith))
