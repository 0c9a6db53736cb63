-- `mask_with` makes the masked copy of SEQ, and then the step.
-- Assumes nothing.
use mathlib.Core.Path.{◌∙◌, ◌≡◌, ap, sym}
use Prim.Native.Nat.{◌-◌, ℕ}
use native.Mathlib.Nat.{sub-zero}
use native.Mathlib.Omega.{arith}
use lib.ListN.{length, take}
use lib.Seq.{length-take-le}
use Rattle.lent.specs.Lists.{among}
use Rattle.samtags.specs.Session.{held_in, masked}
use Rattle.stepping.proofs.StepLaws.{mask_is_step}
use Rattle.stepping.specs.Steps.{leaves_memory, memory}
use Rattle.masking.proofs.mask_with.Goals as goal

pub returns : goal.returns
returns c =
    let before = memory c.args.seq.now c.args.mm.now c.args.ml.now c.args.lengths in
    let n = c.args.lengths.seq - 0 in
    let row = c.mask_copy.new.row in
    let long : length (take n c.args.seq.now) ≡ n = length-take-le n c.args.seq.now (omega (arith, c.requires.0.3)) in
    let masks : take n row ≡ masked (among c.args.places.now) (held_in before).seq =
    ap (λ (i : ℕ). take i row) (sym long) ∙ c.mask_copy.ensures
    ∙ ap (λ (i : ℕ). masked (among c.args.places.now) (take i c.args.seq.now)) (sub-zero c.args.lengths.seq) in
    c.mask_to.ensures ∙ ap (leaves_memory before) (mask_is_step c.args.has_ml before c.requires.0 c.args.places.now (take n row) masks)
