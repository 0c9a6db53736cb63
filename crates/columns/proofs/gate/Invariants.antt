-- `gate`. Invariant: the counts so far are gated, and the others are unchanged.
-- Assumes nothing.
use mathlib.Core.Path.{◌≡◌}
use mathlib.Core.Bool.{cond}
use mathlib.Core.List.{List}
use Prim.Native.Nat.{ℕ}
use lib.ListN.{get_or}
use Rattle.lent.proofs.InPlace.{changed_up_to}
use Rattle.columns.specs.Columns.{is_yes}
use Rattle.columns.proofs.gate.Given as goal

abbrev pub gate_one : ℕ → ℕ → ℕ
gate_one y n = cond (is_yes y) n 0

abbrev pub gate_at : List ℕ → ℕ → ℕ → ℕ
gate_at informative i n = gate_one (get_or informative i 0) n

abbrev pub invariant-loop-i : goal.invariant-loop-i
invariant-loop-i l = l.counts ≡ changed_up_to (gate_at l.informative) l.i l.initial.counts
