-- `cut_ends` answers 21 if the sum is 0 and 11 if it is more than SEQ has, and otherwise cuts.
-- Assumes nothing.
use mathlib.Core.Path.{◌∙◌, ◌≡◌, ap}
use Prim.Native.Nat.{◌+◌, ◌-◌, ◌≤◌}
use native.Mathlib.Omega.{arith}
use lib.ListN.{length, length-take}
use Rattle.samtags.specs.Session.{Memory, held_in}
use Rattle.stepping.proofs.StepLaws.{cut_is_step, cut_nothing, cut_too_much, left_as_was}
use Rattle.stepping.specs.Steps.{leaves_memory, memory}
use Rattle.cutting.proofs.cut_ends.Goals as goal

pub returns-then-off-eq0 : goal.returns-then-off-eq0
returns-then-off-eq0 c =
    let before : Memory = memory c.args.seq.now c.args.mm.now c.args.ml.now c.args.lengths in
    left_as_was (before) _ _ (cut_nothing c.args.has_ml (before) c.requires c.args.front c.args.back (omega arith))

pub returns-then-lengths-off : goal.returns-then-lengths-off
returns-then-lengths-off c =
    let before : Memory = memory c.args.seq.now c.args.mm.now c.args.ml.now c.args.lengths in
    let seq_long : length (held_in (before)).seq ≡ c.args.lengths.seq = omega (arith, c.requires.3, length-take c.args.lengths.seq c.args.seq.now) in
    left_as_was (before) _ _
    (cut_too_much c.args.has_ml (before) c.requires c.args.front c.args.back (omega arith) (omega (arith, seq_long)))

pub cut_to-requires : goal.cut_to-requires
cut_to-requires c = (c.requires, omega arith)

pub returns : goal.returns
returns c =
    let before : Memory = memory c.args.seq.now c.args.mm.now c.args.ml.now c.args.lengths in
    let seq_long : length (held_in (before)).seq ≡ c.args.lengths.seq = omega (arith, c.requires.3, length-take c.args.lengths.seq c.args.seq.now) in
    let sum : c.args.front + c.args.back ≤ length (held_in (before)).seq = omega (arith, seq_long) in
    let n : c.args.lengths.seq - (c.args.front + c.args.back) ≡ length (held_in (before)).seq - (c.args.front + c.args.back) = omega (arith, seq_long) in
    c.cut_to.ensures
    ∙ ap (leaves_memory (before)) (cut_is_step c.args.has_ml (before) c.requires c.args.front c.args.back (omega arith) _ sum n)
