-- `drop_opened` lends the short rows if SEQ is short, and else the long ones.
-- Assumes nothing.
use mathlib.Core.Path.{refl}
use native.Mathlib.Omega.{arith}
use Rattle.record.proofs.RecordLaws.{bases_few, bases_short}
use Rattle.record.proofs.drop_opened.Goals as goal

pub drop_with-requires : goal.drop_with-requires
drop_with-requires c =
    let n = bases_few c.args.bam.now 0 c.args.ats.now c.args.sizes.now c.args.head c.requires.opened_as c.if-head-le1024.true in
    let one = c.few_marks-row.ensures.0 in
    let size = c.few_marks-marks.ensures.0 in
    record { opened_as = c.requires.opened_as; bam_value = (c.requires.bam_value.0, c.requires.bam_value.1, c.requires.bam_value.2, omega (arith, n, one), omega (arith, n, size), (refl, c.few_marks-marks.ensures.1)) }

pub drop_with-requires-2 : goal.drop_with-requires-2
drop_with-requires-2 c =
    let n = bases_short c.args.bam.now 0 c.args.ats.now c.args.sizes.now c.args.head c.requires.opened_as in
    let one = c.no_marks-row.ensures.0 in
    let size = c.no_marks-marks.ensures.0 in
    record { opened_as = c.requires.opened_as; bam_value = (c.requires.bam_value.0, c.requires.bam_value.1, c.requires.bam_value.2, omega (arith, n, one), omega (arith, n, size), (refl, c.no_marks-marks.ensures.1)) }
