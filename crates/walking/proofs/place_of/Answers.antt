-- `place_of`: backward it counts down from the place behind, and forward it counts up from the place itself.
-- Assumes nothing.
use mathlib.Core.Path.{◌≡◌, ap, ◌∙◌}
use mathlib.Core.Bool.{true, false}
use Prim.Native.Nat.{◌+◌, ◌-◌, suc}
use native.Mathlib.Omega.{arith}
use lib.IntN.{pos}
use mir.Syntax.{w64}
use mir.Val.{to_z}
use mir.Facts.{to_z_pos}
use Rattle.walking.specs.Walk.{Reaches}
use Rattle.walking.proofs.place_of.Goals as goal
use Rattle.walking.proofs.place_of.Goals.{Else-is_reverse, Then-is_reverse}

-- what was asked, by the direction
back : (c : Then-is_reverse) → Reaches true c.args.place (c.args.i + 1)
back c = rw c.if-is_reverse.true at c.requires

on : (c : Else-is_reverse) → Reaches false c.args.place (c.args.i + 1)
on c = rw c.if-is_reverse.false at c.requires

pub overflow_sub-result : goal.overflow_sub-result
overflow_sub-result c = omega (arith, back c)

pub overflow_sub-result-then-is_reverse : goal.overflow_sub-result-then-is_reverse
overflow_sub-result-then-is_reverse c = omega (arith, back c)

pub overflow_cast-result : goal.overflow_cast-result
overflow_cast-result c = record { sfits = omega (arith, back c) }

pub returns-then-is_reverse : goal.returns-then-is_reverse
returns-then-is_reverse c =
    let p = c.args.place in
    let i = c.args.i in
    let e : p - i - 1 ≡ p - suc i = omega arith in
    let kept : to_z w64 (p - i - 1) ≡ pos (p - suc i) = to_z_pos w64 {n = p - i - 1} (omega (arith, back c)) ∙ ap pos e in
    rw c.if-is_reverse.true kept

pub overflow_add-result : goal.overflow_add-result
overflow_add-result c = omega (arith, on c)

pub overflow_cast-result-2 : goal.overflow_cast-result-2
overflow_cast-result-2 c = record { sfits = omega (arith, on c) }

pub returns : goal.returns
returns c = to_z_pos w64 {n = c.args.place + c.args.i} (omega (arith, on c)) ∙ rw c.if-is_reverse.false
