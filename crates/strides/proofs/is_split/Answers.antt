-- `is_split`: no means that the block lies before the window, in it, or behind it, or that the window is SEQ itself.
-- Assumes nothing.
use mathlib.Core.Path.{◌≡◌}
use mathlib.Core.Bool.{false}
use mathlib.Core.Logic.{inl, inr}
use Prim.Native.Nat.{◌+◌, ◌-◌, ◌≤◌}
use native.Mathlib.Omega.{arith}
use borrow.Author.Tests.{ltb-false}
use lib.Dec.{ltb}
use Rattle.strides.proofs.is_split.Goals as goal

pub returns-then-window : goal.returns-then-window
returns-then-window c = λ (e : false ≡ false). inl c.if-window.true

pub returns-then-place-window : goal.returns-then-place-window
returns-then-place-window c =
    let a = c.args in
    λ (e : ltb a.window.lo (a.place + 32) ≡ false). inr (inl (ltb-false a.window.lo (a.place + 32) e))

pub returns-then-bases-there : goal.returns-then-bases-there
returns-then-bases-there c = λ (e : false ≡ false). inr (inr (omega arith, inl (omega arith)))

pub returns : goal.returns
returns c =
    let a = c.args in
    λ e.
    let room : 32 ≤ a.bases - (a.place - a.window.lo) = ltb-false (a.bases - (a.place - a.window.lo)) 32 e in
    inr (inr (omega arith, inr (omega (arith, room))))
