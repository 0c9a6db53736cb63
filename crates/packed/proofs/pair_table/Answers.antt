-- `pair_table`: each entry has the eight bits of its index in reverse order. All 256 are shown at once.
-- Assumes nothing.
use mathlib.Core.Path.{refl}
use Rattle.packed.proofs.pair_table.Goals as goal

pub returns : goal.returns
returns c = refl
