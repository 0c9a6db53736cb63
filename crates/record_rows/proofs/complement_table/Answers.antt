-- `complement_table`: each entry is the complement of its index. All 256 are shown at once.
-- Assumes nothing.
use mathlib.Core.Path.{refl}
use Rattle.record_rows.specs.Letters.{complement_of}
use Rattle.record_rows.proofs.complement_table.Goals as goal

pub returns : goal.returns
unfolding complement_of
returns c = refl
