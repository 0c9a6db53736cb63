-- `lengths_fit`: the two lengths, and after them each tag where it was noted.
-- Assumes nothing.
use mathlib.Core.Path.{sym}
use native.Mathlib.Omega.{arith}
use Rattle.record_fates.proofs.OpeningLaws.{by_spots, past_bases, past_letters}
use Rattle.record_fates.proofs.lengths_fit.Goals as goal

pub returns-then-bases-gt16000 : goal.returns-then-bases-gt16000
returns-then-bases-gt16000 c =
    λ fs spots. sym (past_bases c.args.bases c.args.letters fs (omega arith))

pub returns-then-letters-gt16000 : goal.returns-then-letters-gt16000
returns-then-letters-gt16000 c =
    λ fs spots. sym (past_letters c.args.bases c.args.letters fs (omega arith))

pub text_fits-mm-requires : goal.text_fits-mm-requires
text_fits-mm-requires c = c.requires 0 (omega arith)

pub array_fits-ml-requires : goal.array_fits-ml-requires
array_fits-ml-requires c = c.requires 1 (omega arith)

pub text_fits-am-requires : goal.text_fits-am-requires
text_fits-am-requires c = c.requires 3 (omega arith)

pub text_fits-bm-requires : goal.text_fits-bm-requires
text_fits-bm-requires c = c.requires 4 (omega arith)

pub returns : goal.returns
returns c =
    λ fs spots.
    by_spots c.args.bam.now fs c.args.ats.now c.args.sizes.now c.args.bases c.args.letters (omega arith) (omega arith)
    c.text_fits-mm.result c.array_fits-ml.result c.text_fits-am.result c.text_fits-bm.result c.text_fits-mm.ensures c.array_fits-ml.ensures c.text_fits-am.ensures c.text_fits-bm.ensures spots
