-- `mark_in_read` marks the mirrors of the places of a reverse read.
-- Assumes nothing.
use mathlib.Core.Path.{◌∙◌, ◌≡◌, ap, sym}
use mathlib.Core.Bool.{Bool, true}
use Rattle.changing.specs.Windows.{stored_at}
use Rattle.packed.specs.Stored.{places_in_read}
use Rattle.stored_rows.proofs.mark_in_read.Goals as goal

pub returns-then-reverse : goal.returns-then-reverse
returns-then-reverse c =
    let marked : c.mark_mirrored.new.row ≡ stored_at c.args.b (places_in_read true c.args.n c.args.places.now) c.args.row.now =
    c.mark_mirrored.ensures in
    marked
    ∙ ap (λ (r : Bool). stored_at c.args.b (places_in_read r c.args.n c.args.places.now) c.args.row.now) (sym c.if-reverse.true)

pub returns : goal.returns
returns c =
    c.mark_places.ensures
    ∙ ap (λ (r : Bool). stored_at c.args.b (places_in_read r c.args.n c.args.places.now) c.args.row.now) (sym c.if-reverse.false)
