-- `start_in_read` mirrors the start of a reverse read.
-- Assumes nothing.
use mathlib.Core.Path.{◌∙◌, ap, sym}
use mathlib.Core.Bool.{Bool}
use Rattle.packed.specs.Stored.{start_in_read}
use Rattle.stored_rows.proofs.start_in_read.Goals as goal

pub returns-then-reverse : goal.returns-then-reverse
returns-then-reverse c =
    c.start_mirrored.ensures ∙ ap (λ (r : Bool). start_in_read r c.args.n c.args.k c.args.start) (sym c.if-reverse.true)
