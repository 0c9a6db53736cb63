-- `check_with` unpacks SEQ, and then checks the tag on it.
-- Assumes nothing.
use mathlib.Core.Path.{◌∙◌, ◌≡◌, ap}
use Prim.Native.Nat.{ℕ, ◌-◌}
use native.Mathlib.Omega.{arith}
use mathlib.Core.List.{List}
use lib.ListN.{take}
use Rattle.lent.specs.Outcome.{on_done}
use Rattle.reading.specs.Calls.{counts_of}
use Rattle.samtags.specs.Reading.{read_tag}
use Rattle.packed.proofs.Turning.{read_front}
use Rattle.stored.proofs.check_with.Goals as goal

pub returns : goal.returns
returns c =
    let row = c.unpack_row.new.row in
    let read : c.check_tag.result ≡ on_done counts_of (read_tag c.args.has_ml (take (c.args.n - 0) row) c.args.mm.now c.args.ml.now) =
    c.check_tag.ensures in
    read
    ∙ ap (λ (s : List ℕ). on_done counts_of (read_tag c.args.has_ml s c.args.mm.now c.args.ml.now))
    (read_front c.args.reverse c.args.n c.args.packed.now row c.args.row.now (c.args.n - 0) (omega arith) c.unpack_row.ensures)
