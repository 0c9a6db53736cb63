-- `drop_with` unpacks the bases in read orientation, marks the places in read orientation, and then edits over all of the bases.
-- Assumes nothing.
use mathlib.Core.Path.{◌≡◌, ap}
use native.Mathlib.Omega.{arith}
use Prim.Native.Nat.{◌-◌}
use lib.ListN.{length, take}
use Rattle.changing.specs.Windows.{stored_at, window_edit}
use Rattle.editing.specs.Rewrote.{leaves_tag, rewrote}
use Rattle.lent.specs.Filled.{over}
use Rattle.packed.proofs.Turning.{length_in_read}
use Rattle.packed.specs.Stored.{in_read, places_in_read}
use Rattle.samtags.proofs.Taken.{in_domain_lem}
use Rattle.samtags.specs.Edits.{edited, in_room}
use Rattle.packed.proofs.Turning.{read_front}
use Rattle.stored_edits.proofs.EditLaws.{drops_on, read_fits}
use Rattle.stored_edits.proofs.drop_with.Goals as goal

pub unpack_row-requires : goal.unpack_row-requires
unpack_row-requires c =
    (read_fits c.args.reverse c.args.has_ml c.args.n c.args.packed.now c.args.mm.now c.args.ml.now c.requires.2, c.requires.0, c.requires.1)

pub edit_tag-requires : goal.edit_tag-requires
edit_tag-requires c =
    let front : take (c.args.n - 0) c.unpack_row.new.row ≡ in_read c.args.reverse c.args.n c.args.packed.now = (let row : c.unpack_row.new.row ≡ over (in_read c.args.reverse c.args.n c.args.packed.now) c.args.row.now = c.unpack_row.ensures in
    read_front c.args.reverse c.args.n c.args.packed.now _ c.args.row.now (c.args.n - 0) (omega arith) row) in
    let d = in_domain_lem c.args.has_ml (in_read c.args.reverse c.args.n c.args.packed.now) c.args.mm.now c.args.ml.now c.requires.2 in
    (omega (arith, d.0, ap length (front)), d.1, d.2)

pub returns : goal.returns
returns c =
    let front : take (c.args.n - 0) c.unpack_row.new.row ≡ in_read c.args.reverse c.args.n c.args.packed.now = (let row : c.unpack_row.new.row ≡ over (in_read c.args.reverse c.args.n c.args.packed.now) c.args.row.now = c.unpack_row.ensures in
    read_front c.args.reverse c.args.n c.args.packed.now _ c.args.row.now (c.args.n - 0) (omega arith) row) in
    let marks : c.mark_in_read.new.row ≡ stored_at 1 (places_in_read c.args.reverse c.args.n c.args.places.now) c.args.marks.now = c.mark_in_read.ensures in
    let row = c.unpack_row.new.row in
    let made : rewrote c.edit_tag.result c.edit_tag.new.mm_out c.edit_tag.new.ml_out
    ≡ leaves_tag c.args.has_ml (in_room c.args.has_ml (length c.args.mm_out.now) (length c.args.ml_out.now)
    (edited (window_edit 0 (take (c.args.n - 0) row) c.mark_in_read.new.row) c.args.has_ml (take (c.args.n - 0) row) c.args.mm.now c.args.ml.now))
    c.args.mm_out.now c.args.ml_out.now =
    c.edit_tag.ensures in
    drops_on c.args.has_ml c.args.mm.now c.args.ml.now c.args.mm_out.now c.args.ml_out.now c.edit_tag.result c.edit_tag.new.mm_out c.edit_tag.new.ml_out
    _ _ _ (places_in_read c.args.reverse c.args.n c.args.places.now) c.args.marks.now (front) marks
    c.requires.2 (omega (arith, c.requires.3, length_in_read c.args.reverse c.args.n c.args.packed.now)) c.requires.4.1 made
