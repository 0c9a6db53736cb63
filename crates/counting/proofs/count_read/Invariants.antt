-- `count_read`. Invariant: the read is counted at the positions so far, and the others are unchanged.
-- Assumes nothing.
use mathlib.Core.Path.{◌≡◌}
use mathlib.Core.Bool.{Bool}
use mathlib.Core.List.{List}
use Prim.Native.Nat.{ℕ}
use Rattle.lent.proofs.InPlace.{changed_up_to}
use Rattle.pattern.specs.Patterns.{bases_of}
use Rattle.counting.specs.Counting.{count_after}
use Rattle.counting.proofs.count_read.Given as goal

-- a base's count at a position, after the read with these bases and aligned bytes
abbrev pub after : ℕ → Bool → List ℕ → List ℕ → List ℕ → ℕ → ℕ → ℕ
after base all? informative shown marks i n = count_after base all? informative (record { bases = shown; aligned = marks }) i n

abbrev pub invariant-loop-i : goal.invariant-loop-i
invariant-loop-i l = (l.unconverted ≡ changed_up_to (after (bases_of l.pattern).unconverted l.count_all_positions l.informative l.bases l.aligned) l.i l.initial.unconverted)
    × (l.converted ≡ changed_up_to (after (bases_of l.pattern).converted l.count_all_positions l.informative l.bases l.aligned) l.i l.initial.converted)
