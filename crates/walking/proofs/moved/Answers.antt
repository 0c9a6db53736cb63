-- `moved`: backward the place falls, and forward it rises.
-- Assumes nothing.
use mathlib.Core.Bool.{true, false}
use native.Mathlib.Omega.{arith}
use Rattle.walking.specs.Walk.{Reaches}
use Rattle.walking.proofs.moved.Goals as goal
use Rattle.walking.proofs.moved.Goals.{Else-is_reverse, Then-is_reverse}

-- what was asked, by the direction
back : (c : Then-is_reverse) → Reaches true c.args.place c.args.n
back c = rw c.if-is_reverse.true at c.requires

on : (c : Else-is_reverse) → Reaches false c.args.place c.args.n
on c = rw c.if-is_reverse.false at c.requires

pub overflow_sub-result : goal.overflow_sub-result
overflow_sub-result c = omega (arith, back c)

pub returns-then-is_reverse : goal.returns-then-is_reverse
returns-then-is_reverse c = rw c.if-is_reverse.true

pub overflow_add-result : goal.overflow_add-result
overflow_add-result c = omega (arith, on c)

pub returns : goal.returns
returns c = rw c.if-is_reverse.false
