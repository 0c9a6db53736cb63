-- `answer_rest`. Invariant: the output so far, followed by the output for the remaining lines, is the whole output.
-- Assumes nothing.
use mathlib.Core.Path.{◌≡◌}
use Prim.Native.Nat.{◌+◌, ◌-◌, ◌≤◌}
use lib.ListN.{length}
use lib.Seq.{sets}
use Rattle.stepping.specs.Steps.{Ordered, memory}
use Rattle.serving.proofs.RestLaws.{said_from}
use Rattle.serving.proofs.answer_rest.Given as goal

abbrev pub invariant-loop-place : goal.invariant-loop-place
invariant-loop-place l = Ordered l.has_ml (memory l.seq l.mm l.ml l.held)
    × (sets l.initial.out l.initial.end (said_from l.has_ml l.input l.initial.place (memory l.initial.seq l.initial.mm l.initial.ml l.initial.held)) ≡ sets l.out l.end (said_from l.has_ml l.input l.place (memory l.seq l.mm l.ml l.held)))
    × (l.initial.end + length (said_from l.has_ml l.input l.initial.place (memory l.initial.seq l.initial.mm l.initial.ml l.initial.held)) ≡ l.end + length (said_from l.has_ml l.input l.place (memory l.seq l.mm l.ml l.held)))
    × (length l.seq ≡ length l.initial.seq) × (length l.mm ≡ length l.initial.mm) × (length l.ml ≡ length l.initial.ml) × (length l.out ≡ length l.initial.out) × (l.place ≤ 65538)

abbrev pub decreases-loop-place : goal.decreases-loop-place
decreases-loop-place l = length l.input - l.place
