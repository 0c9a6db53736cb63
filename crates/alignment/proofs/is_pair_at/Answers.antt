-- `is_pair_at`: a C at the place, and a G at the next one.
-- Assumes nothing.
use mathlib.Core.Path.{◌≡◌, sym, ◌∙◌}
use mathlib.Core.Bool.{true}
use Prim.Native.Nat.{◌<◌}
use native.Mathlib.Omega.{arith}
use lib.Dec.{ltb}
use lib.ListN.{length, get_or}
use borrow.Author.Tests.{ltb-true}
use Rattle.lent.proofs.Tests.{and_true_l}
use Rattle.pattern.specs.Case.{same_in_any_case}
use Rattle.alignment.specs.Reference.{holds_at}
use Rattle.alignment.proofs.is_pair_at.Goals as goal

pub returns-then-not-holds_at : goal.returns-then-not-holds_at
returns-then-not-holds_at c = rw (sym c.holds_at.ensures ∙ c.if-not-holds_at.true)

pub overflow_add-place : goal.overflow_add-place
overflow_add-place c =
    let stands : holds_at c.args.reference.now c.args.place 67 ≡ true = sym c.holds_at.ensures ∙ c.if-not-holds_at.false in
    let p = c.args.place in
    let row = c.args.reference.now in
    let on : p < length row = ltb-true p (length row) (and_true_l (ltb p (length row)) (same_in_any_case (get_or row p 0) 67) (stands)) in
    omega arith

pub returns : goal.returns
returns c =
    let stands : holds_at c.args.reference.now c.args.place 67 ≡ true = sym c.holds_at.ensures ∙ c.if-not-holds_at.false in
    rw (stands) c.holds_at-2.ensures
