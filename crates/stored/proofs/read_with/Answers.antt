-- `read_with` unpacks SEQ, and then reads the calls on it.
-- Assumes nothing.
use mathlib.Core.Path.{◌∙◌, ◌≡◌, ap}
use Prim.Native.Nat.{ℕ, ◌-◌}
use native.Mathlib.Omega.{arith}
use mathlib.Core.List.{List}
use lib.ListN.{take}
use Rattle.reading.specs.Calls.{calls_read, read_calls}
use Rattle.packed.proofs.Turning.{read_front}
use Rattle.stored.proofs.read_with.Goals as goal

pub returns : goal.returns
returns c =
    let row = c.unpack_row.new.row in
    let made : calls_read c.read_calls.result c.read_calls.new.groups c.read_calls.new.places c.read_calls.new.starts
    ≡ read_calls c.args.has_ml (take (c.args.n - 0) row) c.args.mm.now c.args.ml.now c.args.groups.now c.args.places.now c.args.starts.now =
    c.read_calls.ensures in
    made
    ∙ ap (λ (s : List ℕ). read_calls c.args.has_ml s c.args.mm.now c.args.ml.now c.args.groups.now c.args.places.now c.args.starts.now)
    (read_front c.args.reverse c.args.n c.args.packed.now row c.args.row.now (c.args.n - 0) (omega arith) c.unpack_row.ensures)
