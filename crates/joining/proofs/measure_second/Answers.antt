-- `measure_second`: nothing if there is no second strand.
-- Assumes nothing.
use mathlib.Core.Path.{refl}
use Rattle.joining.proofs.measure_second.Goals as goal

pub returns-then-not-two : goal.returns-then-not-two
returns-then-not-two c =
    let off = c.if-not-two.true in
    rw off (refl, refl)

pub measure-requires : goal.measure-requires
measure-requires c =
    c.requires (c.if-not-two.false)

pub returns : goal.returns
returns c =
    let on = c.if-not-two.false in
    rw on c.measure.ensures
