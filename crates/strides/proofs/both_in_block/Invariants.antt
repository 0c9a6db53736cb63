-- `both_in_block` looks at one place after the other.
-- Assumes nothing.
use mathlib.Core.Path.{◌≡◌}
use Prim.Native.Nat.{◌≤◌}
use lib.ListN.{drop, take}
use Rattle.strides.specs.Counts.{hold_both}
use Rattle.strides.proofs.both_in_block.Given as goal

abbrev pub invariant-loop-i : goal.invariant-loop-i
invariant-loop-i l = (l.n ≤ l.i) × (l.n ≡ hold_both l.base (take l.i (drop l.from l.seq)) (take l.i (drop l.there l.after)))
