-- `ml_value`: the floor of the scaled fraction, and at most 255.
-- Assumes nothing.
use Prim.Native.Nat.{◌*◌, ◌/◌, ◌<◌, ◌≤◌}
use native.Mathlib.Omega.{arith}
use Rattle.samtags.specs.Building.{ml_value}
use Rattle.strand.proofs.ml_value.Goals as goal

pub returns-then-scaled-gt255 : goal.returns-then-scaled-gt255
unfolding ml_value
returns-then-scaled-gt255 c =
    let a = c.args in
    let above : 255 < 256 * a.speaking / a.total = c.if-scaled-gt255.true in
    omega arith

pub returns : goal.returns
unfolding ml_value
returns c =
    let a = c.args in
    let below : 256 * a.speaking / a.total ≤ 255 = c.if-scaled-gt255.false in
    omega arith
