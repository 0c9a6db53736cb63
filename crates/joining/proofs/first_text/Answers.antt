-- `first_text`: the text of the strand that comes first, as a part of its row.
-- Assumes nothing.
use mathlib.Core.Path.{◌∙◌, ◌≡◌, sym}
use mathlib.Core.Bool.{false, true}
use Rattle.joining.specs.Order.{second_first}
use Rattle.lent.proofs.Tabulate.{front_is}
use Rattle.joining.proofs.first_text.Goals as goal

pub returns-then-swapped : goal.returns-then-swapped
returns-then-swapped c =
    let swapped : second_first c.args.first c.args.second ≡ true = sym c.second_first-swapped.ensures ∙ c.if-swapped.true in
    rw swapped (front_is c.args.b_len c.args.b.now)

pub returns : goal.returns
returns c =
    let kept : second_first c.args.first c.args.second ≡ false = sym c.second_first-swapped.ensures ∙ c.if-swapped.false in
    rw kept (front_is c.args.a_len c.args.a.now)
