-- `edit_front` lends on the front of each row, which is edited in place and comes back.
-- Assumes nothing.
use mathlib.Core.Path.{◌≡◌}
use Prim.Native.Nat.{◌-◌, ◌≤◌, ℕ}
use native.Mathlib.Omega.{arith}
use mathlib.Core.Bool.{Bool, cond, false, true}
use mathlib.Core.List.{List}
use lib.ListN.{length, length-take, take}
use Rattle.changing.specs.Windows.{window_edit}
use Rattle.editing.specs.Rewrote.{leaves_tag, rewrote}
use Rattle.samtags.specs.Edits.{edited}
use Rattle.stepping.proofs.StepLaws.{front_edited}
use Rattle.stepping.proofs.tags.edit_front.Goals as goal

few : (b : Bool) (n k : ℕ) (row : List ℕ) → n ≡ cond b k 0 → cond b k 0 ≤ 65536 → cond b (length (take n row)) 0 ≤ 65536
few true n k row e h = omega (arith, e, h, length-take n row)
few false n k row e h = omega arith

pub edit_in_place-requires : goal.edit_in_place-requires
edit_in_place-requires c = (
  c.requires.0,
  omega (arith, c.requires.1, length-take (c.args.text - 0) c.args.mm.now),
  few c.args.has_ml (c.values_taken-taken.result - 0) c.args.values c.args.ml.now (omega (arith, c.values_taken-taken.ensures)) c.requires.2,
)

pub returns : goal.returns
returns c =
    let n = c.args.text - 0 in
    let k = c.values_taken-taken.result - 0 in
    let e = window_edit c.args.lo c.args.after.now c.args.marks.now in
    let made : rewrote c.edit_in_place.result c.edit_in_place.new.text c.edit_in_place.new.ml
    ≡ leaves_tag c.args.has_ml (edited e c.args.has_ml c.args.seq.now (take n c.args.mm.now) (take k c.args.ml.now)) (take n c.args.mm.now) (take k c.args.ml.now) =
    c.edit_in_place.ensures in
    front_edited c.args.has_ml e c.args.seq.now c.args.mm.now c.args.ml.now c.args.text c.args.values n k c.edit_in_place.result c.edit_in_place.new.text c.edit_in_place.new.ml
    (omega arith) (omega (arith, c.values_taken-taken.ensures)) made
