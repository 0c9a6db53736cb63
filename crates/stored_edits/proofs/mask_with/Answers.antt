-- `mask_with` unpacks both reads in read orientation, and then masks.
-- Assumes nothing.
use mathlib.Core.Path.{◌≡◌}
use native.Mathlib.Omega.{arith}
use Prim.Native.Nat.{◌-◌}
use lib.ListN.{take}
use Rattle.lent.specs.Filled.{over}
use Rattle.packed.specs.Stored.{in_read}
use Rattle.rewriting.specs.PublicContracts.{Masks}
use Rattle.packed.proofs.Turning.{read_front}
use Rattle.stored_edits.proofs.EditLaws.{masks_on}
use Rattle.stored_edits.proofs.mask_with.Goals as goal

pub returns : goal.returns
returns c =
    let one : c.unpack_row.new.row ≡ over (in_read c.args.reverse c.args.n c.args.before.now) c.args.first.now = c.unpack_row.ensures in
    let two : c.unpack_row-2.new.row ≡ over (in_read c.args.reverse c.args.k c.args.after.now) c.args.second.now = c.unpack_row-2.ensures in
    let made : Masks c.args.has_ml (take (c.args.n - 0) c.unpack_row.new.row) (take (c.args.k - 0) c.unpack_row-2.new.row) c.args.mm.now c.args.ml.now
    c.args.mm_out.now c.args.ml_out.now c.drop_masked_modifications.result c.drop_masked_modifications.new.mm_out c.drop_masked_modifications.new.ml_out = c.drop_masked_modifications.ensures in
    masks_on c.args.has_ml c.args.mm.now c.args.ml.now c.args.mm_out.now c.args.ml_out.now c.drop_masked_modifications.result c.drop_masked_modifications.new.mm_out c.drop_masked_modifications.new.ml_out _ _ _ _
    (read_front c.args.reverse c.args.n c.args.before.now _ c.args.first.now (c.args.n - 0) (omega arith) one)
    (read_front c.args.reverse c.args.k c.args.after.now _ c.args.second.now (c.args.k - 0) (omega arith) two)
    made
