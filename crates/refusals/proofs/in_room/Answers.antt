-- `in_room` answers 12 if one of the three rows is too short.
-- Assumes nothing.
use native.Mathlib.Omega.{arith}
use borrow.Author.Tests.{le-leb, lt-leb}
use Rattle.refusals.specs.Refusals.{in_room}
use Rattle.refusals.proofs.in_room.Goals as goal

pub returns-then-informative-n : goal.returns-then-informative-n
unfolding in_room
returns-then-informative-n c =
    let a = c.args in
    rw (lt-leb a.n a.informative (omega arith))

pub returns-then-unconverted-n : goal.returns-then-unconverted-n
unfolding in_room
returns-then-unconverted-n c =
    let a = c.args in
    rw (le-leb a.n a.informative (omega arith), lt-leb a.n a.unconverted (omega arith))

pub returns-then-converted-n : goal.returns-then-converted-n
unfolding in_room
returns-then-converted-n c =
    let a = c.args in
    rw (le-leb a.n a.informative (omega arith), le-leb a.n a.unconverted (omega arith), lt-leb a.n a.converted (omega arith))

pub returns : goal.returns
unfolding in_room
returns c =
    let a = c.args in
    rw (le-leb a.n a.informative (omega arith), le-leb a.n a.unconverted (omega arith), le-leb a.n a.converted (omega arith))
