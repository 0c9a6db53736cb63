-- `turned_second_table`: each entry is the second letter of its index, a packed pair that is turned. All 256 are shown at once.
-- Assumes nothing.
use mathlib.Core.Path.{refl}
use Rattle.packed.specs.Packed.{complement}
use Rattle.packed.proofs.turned_second_table.Goals as goal

pub returns : goal.returns
unfolding complement
returns c = refl
