-- `entry` reads the table at the index.
-- Assumes nothing.
use Prim.Native.Nat.{ℕ, ◌<◌}
use Rattle.packed.proofs.Codes.{entry_is}
use Rattle.packed.specs.Walks.{TableOf}
use borrow.Author.Rules.{rules}
use Rattle.packed_rows.proofs.entry.Goals as goal

pub returns : goal.returns
returns c =
    let a = c.args in
    let small : a.index < 256 = search rules in
    λ (rule : ℕ → ℕ) (is : TableOf rule a.table.now). entry_is rule a.table.now is a.index small
