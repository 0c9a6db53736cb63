-- `tally_with` unpacks SEQ, and then tallies on it.
-- Assumes nothing.
use mathlib.Core.Path.{◌∙◌, ◌≡◌, ap}
use Prim.Native.Nat.{ℕ, ◌-◌}
use native.Mathlib.Omega.{arith}
use mathlib.Core.List.{List}
use lib.ListN.{take}
use Rattle.reading.specs.Answers.{tally_says}
use Rattle.samtags.specs.Reading.{tally_tag}
use Rattle.packed.proofs.Turning.{read_front}
use Rattle.stored.proofs.tally_with.Goals as goal

pub returns : goal.returns
returns c =
    let row = c.unpack_row.new.row in
    let made : tally_says c.tally.result ≡ tally_tag (take (c.args.n - 0) row) c.args.mm.now c.args.ml.now = c.tally.ensures in
    made
    ∙ ap (λ (s : List ℕ). tally_tag s c.args.mm.now c.args.ml.now)
    (read_front c.args.reverse c.args.n c.args.packed.now row c.args.row.now (c.args.n - 0) (omega arith) c.unpack_row.ensures)
