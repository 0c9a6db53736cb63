-- `move_left`. Invariant: moving the remaining bytes gives the result of moving all of them, and the remaining bytes are unchanged.
-- Assumes nothing.
use mathlib.Core.Path.{◌≡◌}
use Prim.Native.Nat.{◌+◌}
use lib.ListN.{drop, take}
use lib.Seq.{sets}
use Rattle.moving.proofs.move_left.Given as goal

abbrev pub invariant-loop-i : goal.invariant-loop-i
invariant-loop-i l = (sets l.initial.row l.to (take l.n (drop l.from l.initial.row)) ≡ sets l.row (l.to + l.i) (drop l.i (take l.n (drop l.from l.initial.row))))
    × (drop (l.from + l.i) l.row ≡ drop (l.from + l.i) l.initial.row)
