-- `same_block` compares one byte after the other.
-- Assumes nothing.
use mathlib.Core.Path.{◌≡◌}
use lib.ListN.{drop, take}
use Rattle.samtags.specs.Edits.{same_bytes_of}
use Rattle.windows.proofs.same_block.Given as goal

abbrev pub invariant-loop-i : goal.invariant-loop-i
invariant-loop-i l = l.same ≡ same_bytes_of (take l.i (drop l.from l.a)) (take l.i (drop l.from l.b))
