-- `array_fits`: an array of bytes takes eight bytes besides its own.
-- Assumes nothing.
use mathlib.Core.Path.{sym}
use native.Mathlib.Omega.{arith}
use Rattle.record_fates.proofs.FateLaws.{fits_array, fits_no_array, fits_no_bytes, fits_short}
use Rattle.record_fates.proofs.array_fits.Goals as goal

pub returns-then-size-lt8 : goal.returns-then-size-lt8
returns-then-size-lt8 c =
    sym (fits_short c.args.bam.now c.args.at c.args.size c.requires.0 c.requires.1 (omega arith))

pub returns-then-bam-at-ne66 : goal.returns-then-bam-at-ne66
returns-then-bam-at-ne66 c =
    sym (fits_no_array c.args.bam.now c.args.at c.args.size c.requires.0 c.requires.1 (λ q. omega arith) (λ q. omega arith))

pub returns-then-bam-at-ne67 : goal.returns-then-bam-at-ne67
returns-then-bam-at-ne67 c =
    sym (fits_no_bytes c.args.bam.now c.args.at c.args.size c.requires.0 c.requires.1 (λ q. omega arith) (λ q. omega arith))

pub returns : goal.returns
returns c =
    sym (fits_array c.args.bam.now c.args.at c.args.size c.requires.0 c.requires.1 (λ q. omega arith) (omega arith) (omega arith))
