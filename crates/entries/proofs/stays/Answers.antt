-- `stays`: yes if nothing changed, and otherwise the byte decides.
-- Assumes nothing.
use mathlib.Core.Path.{◌∙◌, ap, sym}
use mathlib.Core.Bool.{Bool, ◌||◌}
use Rattle.changing.specs.Windows.{held_in}
use Rattle.entries.proofs.stays.Goals as goal

pub returns : goal.returns
returns c =
    c.still_held.ensures
    ∙ ap (λ (t : Bool). t || held_in c.args.window.lo c.args.after.now c.args.base c.args.place.0) (sym c.if-window.false)
