-- `unpack_row` unpacks backward or forward.
-- Assumes nothing.
use mathlib.Core.Path.{◌∙◌, ap, sym}
use mathlib.Core.Bool.{Bool}
use Rattle.lent.specs.Filled.{over}
use Rattle.packed.specs.Stored.{in_read}
use Rattle.packed_rows.proofs.unpack_row.Goals as goal

pub returns-then-reverse : goal.returns-then-reverse
unfolding in_read
returns-then-reverse c =
    let a = c.args in
    c.unpack_backward.ensures
    ∙ ap (λ (b : Bool). over (in_read b a.n a.packed.now) a.row.now) (sym c.if-reverse.true)

pub returns : goal.returns
unfolding in_read
returns c =
    let a = c.args in
    c.unpack_forward.ensures
    ∙ ap (λ (b : Bool). over (in_read b a.n a.packed.now) a.row.now) (sym c.if-reverse.false)
