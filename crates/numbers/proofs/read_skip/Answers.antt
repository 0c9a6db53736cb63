use mathlib.Core.Path.{◌∙◌, refl, sym}
use Prim.Native.Nat.{◌*◌, ◌+◌, ◌-◌}
use native.Mathlib.Omega.{arith}
use lib.ListN.{drop, get_or}
use borrow.Author.Tests.{eqb-false, eqb-true}
use Rattle.lent.proofs.Lists.{every_on, every_stop}
use Rattle.samtags.specs.Bytes.{is_digit}
use Rattle.samtags.specs.Decimal.{value}
use Rattle.numbers.proofs.SkipLaws.{bounded, digit_high, digit_is, digit_low, no_number, number_is, value_on}
use Rattle.numbers.proofs.read_skip.Goals as goal

pub returns-then-is_empty : goal.returns-then-is_empty
returns-then-is_empty c = rw (no_number c.args.field.now (eqb-true _ 0 (sym c.is_empty.ensures ∙ c.if-is_empty.true)))

pub loop-digit-init : goal.loop-digit-init
unfolding value
loop-digit-init c = record { bounded = omega arith; value = refl; digits = number_is c.args.field.now (eqb-false _ 0 (sym c.is_empty.ensures ∙ c.if-is_empty.false)) }

pub returns-then-digit-lt48 : goal.returns-then-digit-lt48
returns-then-digit-lt48 c =
    let h = c.loop-digit in
    rw (h.invariant.digits ∙ every_stop is_digit c.args.field.now h.digit-index 0 (omega arith)
    (digit_low _ (omega arith)))

pub returns-then-digit-gt57 : goal.returns-then-digit-gt57
returns-then-digit-gt57 c =
    let h = c.loop-digit in
    rw (h.invariant.digits ∙ every_stop is_digit c.args.field.now h.digit-index 0 (omega arith)
    (digit_high _ (omega arith)))

pub loop-digit-preserved : goal.loop-digit-preserved
loop-digit-preserved c =
    let h = c.loop-digit in
    let l = c.args.field.now in
    let most = c.args.most in
    let i = h.digit-index in
    record {
      bounded = omega arith;
      value = h.invariant.value ∙ rw (value_on l i h.n (omega arith))
          (bounded most (10 * h.n + (get_or l i 0 - 48)) c.with_digit-n.result (drop (i + 1) l) (omega arith));
      digits = h.invariant.digits ∙ every_on is_digit l i 0 (omega arith) (digit_is _ (omega arith) (omega arith));
    }
