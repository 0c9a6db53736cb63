-- `put_decimal` writes one digit itself, and calls `put_digits` for more.
-- Assumes nothing.
use mathlib.Core.Path.{◌∙◌, ap, sym}
use Prim.Native.Nat.{◌<◌}
use native.Mathlib.Omega.{arith}
use lib.Seq.{sets}
use Rattle.numbers.proofs.SkipLaws.{digits_small, length_small}
use Rattle.numbers.proofs.put_decimal.Goals as goal

pub returns-then-n-gt9 : goal.returns-then-n-gt9
returns-then-n-gt9 c = c.put_digits.ensures

pub returns : goal.returns
returns c =
    let a = c.args in
    let small : a.n < 10 = omega arith in
    (omega (arith, length_small a.n small), c.put.ensures ∙ ap (sets a.out.now a.at) (sym (digits_small a.n small)))
