-- `mirror_all`. Invariant: the places so far are mirrored, and the others are unchanged.
-- Assumes nothing.
use mathlib.Core.Path.{◌≡◌}
use Prim.Native.Nat.{ℕ}
use lib.ListN.{length}
use Rattle.lent.proofs.InPlace.{changed_up_to}
use Rattle.packed.specs.Stored.{mirrored}
use Rattle.stored_rows.proofs.mirror_all.Given as goal

abbrev pub invariant-loop-place : goal.invariant-loop-place
invariant-loop-place l = (length l.places ≡ length l.initial.places) × (l.places ≡ changed_up_to (λ (j p : ℕ). mirrored l.n p) l.place-index l.initial.places)
