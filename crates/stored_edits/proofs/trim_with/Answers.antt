-- `trim_with` unpacks both reads in read orientation, and then trims.
-- Assumes nothing.
use mathlib.Core.Path.{◌≡◌}
use native.Mathlib.Omega.{arith}
use Prim.Native.Nat.{◌-◌}
use lib.ListN.{take}
use Rattle.lent.specs.Filled.{over}
use Rattle.packed.specs.Stored.{in_read}
use Rattle.rewriting.specs.PublicContracts.{Trims}
use Rattle.packed.proofs.Turning.{read_front}
use Rattle.stored_edits.proofs.EditLaws.{trims_on}
use Rattle.stored_edits.proofs.trim_with.Goals as goal

pub returns : goal.returns
returns c =
    let one : c.unpack_row.new.row ≡ over (in_read c.args.reverse c.args.n c.args.before.now) c.args.first.now = c.unpack_row.ensures in
    let two : c.unpack_row-2.new.row ≡ over (in_read c.args.reverse c.args.k c.args.after.now) c.args.second.now = c.unpack_row-2.ensures in
    let made : Trims c.args.has_ml c.args.start (take (c.args.n - 0) c.unpack_row.new.row) (take (c.args.k - 0) c.unpack_row-2.new.row) c.args.mm.now c.args.ml.now
    c.args.mm_out.now c.args.ml_out.now c.trim_clipped_modifications.result c.trim_clipped_modifications.new.mm_out c.trim_clipped_modifications.new.ml_out = c.trim_clipped_modifications.ensures in
    trims_on c.args.has_ml c.args.mm.now c.args.ml.now c.args.mm_out.now c.args.ml_out.now c.trim_clipped_modifications.result c.trim_clipped_modifications.new.mm_out c.trim_clipped_modifications.new.ml_out c.args.start _ _ _ _
    (read_front c.args.reverse c.args.n c.args.before.now _ c.args.first.now (c.args.n - 0) (omega arith) one)
    (read_front c.args.reverse c.args.k c.args.after.now _ c.args.second.now (c.args.k - 0) (omega arith) two)
    made
