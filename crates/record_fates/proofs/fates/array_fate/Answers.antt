-- `array_fate`: ML goes with MM, or is edited with it.
-- Assumes nothing.
use mathlib.Core.Path.{◌≡◌}
use native.Mathlib.Omega.{arith}
use borrow.Author.Tests.{ne_eqb}
use Rattle.record_fates.proofs.fates.array_fate.Goals as goal

pub returns-then-mm-eq-GOES : goal.returns-then-mm-eq-GOES
returns-then-mm-eq-GOES c =
    let t : c.args.mm ≡ 1 = omega arith in
    rw t

pub returns-then-mm-eq-PAIRED : goal.returns-then-mm-eq-PAIRED
returns-then-mm-eq-PAIRED c =
    let t : c.args.mm ≡ 3 = omega arith in
    rw t

pub returns : goal.returns
returns c =
    let mm = c.args.mm in
    rw (ne_eqb mm 1 (λ q. omega arith), ne_eqb mm 3 (λ q. omega arith))
