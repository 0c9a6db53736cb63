-- `mask_copy` copies SEQ to the front of the row. Storing N at the places of the copy, in read orientation, masks it.
-- Assumes nothing.
use mathlib.Core.Path.{◌∙◌, ◌≡◌, ap}
use lib.ListN.{length, take}
use lib.Seq.{sets}
use Rattle.changing.proofs.WindowLaws.{stored_is_masked, take_stored}
use Rattle.changing.specs.Windows.{stored_at}
use Rattle.lent.proofs.Filled.{over_front, over_stored}
use Rattle.packed.specs.Stored.{places_in_read}
use Rattle.stored_steps.proofs.mask_copy.Goals as goal

pub returns : goal.returns
returns c =
    let seq = c.args.seq.now in
    let places = places_in_read c.args.reverse (length seq) c.args.places.now in
    let copied = c.put_all.new.out in
    let copy : copied ≡ sets c.args.row.now 0 seq = c.put_all.ensures.1 in
    let marked : c.mark_in_read.new.row ≡ stored_at 78 places copied = c.mark_in_read.ensures in
    ap (take (length seq)) (marked ∙ ap (stored_at 78 places) (copy ∙ over_stored seq c.args.row.now c.requires.1))
    ∙ take_stored (length seq) 78 places _
    ∙ ap (stored_at 78 places) (over_front seq c.args.row.now)
    ∙ stored_is_masked places seq
