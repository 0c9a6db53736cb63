-- `mask_opened` lends the short rows if both SEQs are short, and else the long ones.
-- Assumes nothing.
use native.Mathlib.Omega.{arith}
use lib.ListN.{length}
use Rattle.record.proofs.RecordLaws.{bases_short, few_fit, letters_short}
use Rattle.record.proofs.mask_opened.Goals as goal

pub mask_with-requires : goal.mask_with-requires
mask_with-requires c =
    let fits = few_fit c.args.bam.now (length c.args.before.now) c.args.ats.now c.args.sizes.now c.args.head c.requires.opened_as
    c.both_few-few.result c.both_few-few.ensures c.if-few.true in
    let one = c.few_marks-first.ensures.0 in
    let two = c.few_marks-second.ensures.0 in
    record { opened_as = c.requires.opened_as; bam_value = (c.requires.bam_value.0, c.requires.bam_value.1, omega (arith, fits, one), omega (arith, fits, two)) }

pub mask_with-requires-2 : goal.mask_with-requires-2
mask_with-requires-2 c =
    let n = bases_short c.args.bam.now (length c.args.before.now) c.args.ats.now c.args.sizes.now c.args.head c.requires.opened_as in
    let k = letters_short c.args.bam.now (length c.args.before.now) c.args.ats.now c.args.sizes.now c.args.head c.requires.opened_as in
    let one = c.no_marks-first.ensures.0 in
    let two = c.no_marks-second.ensures.0 in
    record { opened_as = c.requires.opened_as; bam_value = (c.requires.bam_value.0, c.requires.bam_value.1, omega (arith, k, one), omega (arith, n, two)) }
