-- `length_fate`: MN goes with MM; an MN that is still there is set, if SEQ's length changed.
-- Assumes nothing.
use mathlib.Core.Path.{◌≡◌, sym}
use native.Mathlib.Omega.{arith}
use borrow.Author.Tests.{ne_eqb}
use Rattle.record_fates.specs.Fates.{length_fate}
use Rattle.record_fates.proofs.fates.length_fate.Goals as goal

pub returns-then-set : goal.returns-then-set
returns-then-set c =
    let t : c.args.mm ≡ 1 = omega arith in
    let next : length_fate c.args.mm c.args.set ≡ 6 = rw (t, c.if-set.true) in
    sym next

pub returns-then-mm-eq-GOES : goal.returns-then-mm-eq-GOES
returns-then-mm-eq-GOES c =
    let t : c.args.mm ≡ 1 = omega arith in
    rw (t, c.if-set.false)

pub returns-then-set-2 : goal.returns-then-set-2
returns-then-set-2 c = rw (ne_eqb c.args.mm 1 (λ q. omega arith), c.if-set-2.true)

pub returns : goal.returns
returns c = rw (ne_eqb c.args.mm 1 (λ q. omega arith), c.if-set-2.false)
