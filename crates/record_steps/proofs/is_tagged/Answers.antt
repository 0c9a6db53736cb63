-- `is_tagged` looks for a size that is not 0.
-- Assumes nothing.
use lib.ListN.{get_or}
use borrow.Author.Tests.{eq-eqb, ne_eqb}
use native.Mathlib.Omega.{arith}
use Rattle.record_steps.proofs.HeadLaws.{tagged_by}
use Rattle.record_steps.proofs.is_tagged.Goals as goal

pub returns-then-sizes-ne0 : goal.returns-then-sizes-ne0
returns-then-sizes-ne0 c =
    let sizes = c.args.sizes.now in
    λ bam fs ats s. rw (ne_eqb (get_or sizes 0 0) 0 c.if-sizes-ne0.true) at (tagged_by bam fs ats sizes s)

pub returns-then-sizes-ne0-2 : goal.returns-then-sizes-ne0-2
returns-then-sizes-ne0-2 c =
    let sizes = c.args.sizes.now in
    λ bam fs ats s. rw (eq-eqb (get_or sizes 0 0) 0 (omega arith), ne_eqb (get_or sizes 3 0) 0 c.if-sizes-ne0-2.true) at (tagged_by bam fs ats sizes s)

pub returns : goal.returns
returns c =
    let sizes = c.args.sizes.now in
    λ bam fs ats s. rw (eq-eqb (get_or sizes 0 0) 0 (omega arith), eq-eqb (get_or sizes 3 0) 0 (omega arith)) at (tagged_by bam fs ats sizes s)
