-- `put_pair` stores two entries.
-- Assumes nothing.
use mathlib.Core.Path.{◌≡◌}
use Prim.Native.Nat.{ℕ, ◌+◌}
use lib.ListN.{set}
use Rattle.packed.specs.Walks.{TableOf}
use Rattle.packed_rows.proofs.put_pair.Goals as goal

pub returns : goal.returns
returns c =
    let a = c.args in
    λ (f g : ℕ → ℕ) (is_f : TableOf f a.first.now) (is-g : TableOf g a.second.now).
    let first : c.entry.result ≡ f a.pair = c.entry.ensures f is_f in
    let second : c.entry-2.result ≡ g a.pair = c.entry-2.ensures g is-g in
    λ j. set (set a.row.now a.at (first j)) (a.at + 1) (second j)
