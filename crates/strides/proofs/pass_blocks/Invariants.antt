-- `pass_blocks` counts the bases that are passed, and those of them that are still held, block by block.
-- Assumes nothing.
use mathlib.Core.Path.{◌≡◌}
use Prim.Native.Nat.{◌-◌, ◌≤◌}
use lib.ListN.{length}
use Rattle.strides.specs.Counts.{between, held_between}
use Rattle.strides.proofs.pass_blocks.Given as goal

abbrev pub invariant-loop-window : goal.invariant-loop-window
invariant-loop-window l = (l.initial.place ≤ l.place) × (l.place ≤ length l.seq) × (l.passed ≤ l.skip)
    × (l.passed ≡ length (between l.base l.seq l.initial.place l.place)) × (l.held ≡ held_between l.window.lo l.after l.base l.seq l.initial.place l.place)

abbrev pub decreases-loop-window : goal.decreases-loop-window
decreases-loop-window l = length l.seq - l.place
