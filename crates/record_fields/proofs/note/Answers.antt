-- `note`: the first field of a name is noted, a later one is not.
-- Assumes nothing.
use mathlib.Core.Path.{refl}
use native.Mathlib.Omega.{arith}
use lib.ListN.{get_or}
use borrow.Author.Tests.{eq-eqb, ne_eqb}
use Rattle.record_fields.proofs.note.Goals as goal

pub returns-then-sizes-name-eq0 : goal.returns-then-sizes-name-eq0
returns-then-sizes-name-eq0 c =
    let a = c.args in
    rw (eq-eqb (get_or a.sizes.now a.name 0) 0 (omega arith)) (refl, refl)

pub returns-else-sizes-name-eq0 : goal.returns-else-sizes-name-eq0
returns-else-sizes-name-eq0 c =
    let a = c.args in
    rw (ne_eqb (get_or a.sizes.now a.name 0) 0 (λ q. omega arith)) (refl, refl)
