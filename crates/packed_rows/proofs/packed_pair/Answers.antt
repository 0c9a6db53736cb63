-- `packed_pair`: no code is over 15, so the two fill a byte.
-- Assumes nothing.
use native.Mathlib.Omega.{arith}
use Rattle.packed.proofs.Codes.{code_small}
use Rattle.packed.specs.Packed.{code_of}
use Rattle.packed_rows.proofs.packed_pair.Goals as goal

pub overflow_mul-result : goal.overflow_mul-result
overflow_mul-result c =
    omega (arith, c.entry-high.ensures code_of c.requires, code_small c.args.first)

pub overflow_add-result : goal.overflow_add-result
overflow_add-result c =
    omega (arith, c.entry-high.ensures code_of c.requires, c.entry-low.ensures code_of c.requires, code_small c.args.first, code_small c.args.second)

pub returns : goal.returns
returns c =
    omega (arith, c.entry-high.ensures code_of c.requires, c.entry-low.ensures code_of c.requires)
