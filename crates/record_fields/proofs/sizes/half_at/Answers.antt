-- `half_at`: two bytes make a number below 65,536.
-- Assumes nothing.
use Prim.Native.Nat.{◌+◌}
use native.Mathlib.Omega.{arith}
use Rattle.record_fields.proofs.sizes.half_at.Goals as goal

pub overflow_cast-result : goal.overflow_cast-result
overflow_cast-result c = omega (arith, c.type_inv.bytes c.args.i)

pub overflow_cast-result-2 : goal.overflow_cast-result-2
overflow_cast-result-2 c = omega (arith, c.type_inv.bytes (c.args.i + 1))

pub overflow_mul-result : goal.overflow_mul-result
overflow_mul-result c = omega (arith, c.type_inv.bytes (c.args.i + 1))

pub overflow_add-result-2 : goal.overflow_add-result-2
overflow_add-result-2 c =
    let a = c.args in
    omega (arith, c.type_inv.bytes a.i, c.type_inv.bytes (a.i + 1))

pub returns : goal.returns
returns c =
    let a = c.args in
    (omega arith, omega (arith, c.type_inv.bytes a.i, c.type_inv.bytes (a.i + 1)))
