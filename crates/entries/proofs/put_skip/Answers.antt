-- `put_skip` writes the comma, and then the digits.
-- Assumes nothing.
use mathlib.Core.Path.{◌∙◌, ◌≡◌, ap}
use Prim.Native.Nat.{◌+◌, suc, ℕ}
use native.Mathlib.Omega.{arith}
use mathlib.Core.List.{List}
use lib.ListN.{set}
use lib.Seq.{sets}
use Rattle.samtags.specs.Decimal.{digits}
use Rattle.entries.proofs.put_skip.Goals as goal

pub returns : goal.returns
returns c =
    let next : c.args.at + 1 ≡ suc c.args.at = omega arith in (
      omega (arith, c.put_decimal.ensures.0),
      c.put_decimal.ensures.1 ∙ ap (λ (l : List ℕ). sets l (c.args.at + 1) (digits c.args.skip)) c.put.ensures
          ∙ ap (λ (n : ℕ). sets (set c.args.out.now c.args.at 44) n (digits c.args.skip)) next,
    )
