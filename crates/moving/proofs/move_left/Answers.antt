use mathlib.Core.Path.{◌∙◌, ◌≡◌, ap, refl, sym}
use Prim.Native.Nat.{◌+◌, ◌≤◌, ℕ}
use native.Mathlib.Omega.{arith}
use lib.ListN.{drop, drop_of_length-le, get_or, length, length-take, take}
use lib.Seq.{drop-set-lt, sets}
use Rattle.moving.proofs.RowLaws.{move_turn, same_later}
use Rattle.moving.proofs.move_left.Goals as goal

pub loop-i-init : goal.loop-i-init
loop-i-init c =
    let a = c.args in
    let z : a.to ≡ a.to + 0 = omega arith in
    (ap (λ (m : ℕ). sets a.row.now m (take a.n (drop a.from a.row.now))) z, refl)

pub loop-i-preserved : goal.loop-i-preserved
loop-i-preserved c =
    let h = c.loop-i in
    let a = c.args in
    let b = get_or h.row (a.from + h.i) 0 in (
      h.invariant.0 ∙ move_turn a.row.now h.row a.from a.to a.n h.i 0 (omega arith) (omega arith) h.invariant.1,
      drop-set-lt (a.from + (h.i + 1)) h.row (a.to + h.i) b (omega arith)
          ∙ same_later h.row a.row.now (a.from + h.i) (a.from + (h.i + 1)) (omega arith) h.invariant.1,
    )

pub returns : goal.returns
returns c =
    let h = c.loop-i in
    let a = c.args in
    let src = take a.n (drop a.from a.row.now) in
    let all : length src ≤ h.i = omega (arith, length-take a.n (drop a.from a.row.now)) in
    sym (h.invariant.0 ∙ ap (sets h.row (a.to + h.i)) (drop_of_length-le src all))
