-- `code_table`: each entry is the code of its index. All 256 are shown at once.
-- Assumes nothing.
use mathlib.Core.Path.{refl}
use Rattle.packed.specs.Packed.{code_of}
use Rattle.packed.proofs.code_table.Goals as goal

pub returns : goal.returns
unfolding code_of
returns c = refl
