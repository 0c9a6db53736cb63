-- `pack_row` packs backward or forward.
-- Assumes nothing.
use mathlib.Core.Path.{◌∙◌, ap, sym}
use mathlib.Core.Bool.{Bool}
use Rattle.lent.specs.Filled.{over}
use Rattle.packed.specs.Stored.{as_stored}
use Rattle.packed_rows.proofs.pack_row.Goals as goal

pub returns-then-reverse : goal.returns-then-reverse
unfolding as_stored
returns-then-reverse c =
    let a = c.args in
    c.pack_backward.ensures
    ∙ ap (λ (b : Bool). over (as_stored b a.bases.now) a.out.now) (sym c.if-reverse.true)

pub returns : goal.returns
unfolding as_stored
returns c =
    let a = c.args in
    c.pack_forward.ensures
    ∙ ap (λ (b : Bool). over (as_stored b a.bases.now) a.out.now) (sym c.if-reverse.false)
