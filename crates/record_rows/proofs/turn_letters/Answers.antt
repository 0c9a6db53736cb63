-- `turn_letters` writes the letters backward or forward.
-- Assumes nothing.
use mathlib.Core.Path.{◌∙◌, ap, sym}
use mathlib.Core.Bool.{Bool}
use Rattle.lent.specs.Filled.{over}
use Rattle.record_rows.specs.Letters.{turned_letters}
use Rattle.record_rows.proofs.turn_letters.Goals as goal

pub returns-then-reverse : goal.returns-then-reverse
returns-then-reverse c =
    c.letters_backward.ensures
    ∙ ap (λ (b : Bool). over (turned_letters b c.args.letters.now) c.args.row.now) (sym c.if-reverse.true)

pub returns : goal.returns
returns c =
    c.letters_forward.ensures
    ∙ ap (λ (b : Bool). over (turned_letters b c.args.letters.now) c.args.row.now) (sym c.if-reverse.false)
