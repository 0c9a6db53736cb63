-- `drop_with` marks the places in the lent row, and then makes the step.
-- Assumes nothing.
use mathlib.Core.Path.{◌∙◌, ◌≡◌, ap}
use Prim.Native.Nat.{◌<◌, ◌≤◌, ℕ}
use native.Mathlib.Omega.{arith}
use mathlib.Core.List.{List}
use lib.ListN.{length, length-take}
use Rattle.changing.proofs.WindowLaws.{marked_only}
use Rattle.changing.specs.Windows.{is_marked, stored_at}
use Rattle.lent.specs.Lists.{among}
use Rattle.samtags.specs.Session.{held_in}
use Rattle.stepping.proofs.StepLaws.{drop_is_step}
use Rattle.stepping.specs.Steps.{leaves_memory, memory}
use Rattle.dropping.proofs.drop_with.Goals as goal

pub returns : goal.returns
returns c =
    let before = memory c.args.seq.now c.args.mm.now c.args.ml.now c.args.lengths in
    let marks = c.mark_places.new.row in
    let put : marks ≡ stored_at 1 c.args.places.now c.args.marks.now = c.mark_places.ensures in
    let in_row : length (held_in before).seq ≤ length c.args.marks.now =
    omega (arith, c.requires.1, length-take c.args.lengths.seq c.args.seq.now) in
    let named : (p : ℕ) → p < length (held_in before).seq → is_marked marks p ≡ among c.args.places.now p =
    λ p l. ap (λ (r : List ℕ). is_marked r p) put ∙ marked_only c.args.places.now c.args.marks.now c.requires.2.1 p (omega (arith, l, in_row)) in
    c.drop_marked.ensures ∙ ap (leaves_memory before) (drop_is_step c.args.has_ml before c.requires.0 c.args.places.now marks named)
