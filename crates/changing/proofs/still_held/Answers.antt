-- `still_held`: a place before the window or past it is gone; inside, the byte decides.
-- Assumes nothing.
use mathlib.Core.Path.{◌∙◌, ◌≡◌, sym}
use Prim.Native.Nat.{◌-◌}
use native.Mathlib.Omega.{arith}
use lib.ListN.{get_or}
use Rattle.samtags.specs.Spots.{holds}
use Rattle.changing.proofs.EntryLaws.{held_before, held_inside, held_past}
use Rattle.changing.proofs.still_held.Goals as goal

pub returns-then-p-lo : goal.returns-then-p-lo
returns-then-p-lo c =
    let a = c.args in
    sym (held_before a.lo a.after.now a.base a.place.0 (omega arith))

pub returns-then-after-d : goal.returns-then-after-d
returns-then-after-d c =
    let a = c.args in
    sym (held_past a.lo a.after.now a.base a.place.0 (omega arith) (omega arith))

pub returns : goal.returns
returns c =
    let a = c.args in
    let counted : c.counts.result ≡ holds a.base (get_or a.after.now (a.place.0 - a.lo) 0) = c.counts.ensures in
    counted ∙ sym (held_inside a.lo a.after.now a.base a.place.0 (omega arith) (omega arith))
