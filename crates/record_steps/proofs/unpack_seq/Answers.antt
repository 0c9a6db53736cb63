-- `unpack_seq` lends SEQ's bytes of the record, as many as its bases take.
-- Assumes nothing.
use mathlib.Core.Path.{◌≡◌, ◌∙◌, ap}
use Prim.Native.Nat.{ℕ, ◌+◌, ◌-◌}
use native.Mathlib.Omega.{arith}
use lib.ListN.{drop, take}
use Rattle.lent.specs.Filled.{over}
use Rattle.packed.specs.Packed.{bytes_for}
use Rattle.packed.specs.Stored.{in_read}
use Rattle.record_steps.proofs.unpack_seq.Goals as goal

pub returns : goal.returns
returns c =
    let size : (c.args.at + bytes_for c.args.n) - c.args.at ≡ bytes_for c.args.n = omega arith in
    c.unpack_row.ensures ∙ ap (λ (m : ℕ). over (in_read c.args.turned c.args.n (take m (drop c.args.at c.args.bam.now))) c.args.row.now) size
