-- `call_of`: no call if the place is not informative or nothing was counted there, and otherwise the call's value.
-- Assumes nothing.
use Rattle.std.specs.Prelude.{Some}
use mathlib.Core.Path.{◌∙◌, ◌≡◌, ap}
use Prim.Native.Nat.{◌+◌, ℕ}
use native.Mathlib.Omega.{arith}
use borrow.Author.Tests.{ne_eqb}
use Rattle.samtags.specs.Building.{called, ml_value}
use Rattle.strand.proofs.call_of.Goals as goal

pub returns-then-informative-eq0 : goal.returns-then-informative-eq0
unfolding called
returns-then-informative-eq0 c =
    let no : c.args.informative ≡ 0 = omega arith in
    rw no

pub returns-then-total-eq0 : goal.returns-then-total-eq0
unfolding called
returns-then-total-eq0 c =
    let a = c.args in
    let yes = ne_eqb a.informative 0 (omega arith) in
    let none-counted : a.unconverted + a.converted ≡ 0 = omega arith in
    rw (yes, none-counted)

pub returns : goal.returns
unfolding called
returns c =
    let a = c.args in
    let yes = ne_eqb a.informative 0 (omega arith) in
    let counted = ne_eqb (a.unconverted + a.converted) 0 (omega arith) in
    rw (yes, counted) (ap Some (c.ml_value.ensures ∙ ap (λ (n : ℕ). ml_value n (a.unconverted + a.converted)) c.numerator.ensures))
