use Rattle.std.specs.Prelude.{Some}
use mathlib.Core.Path.{◌∙◌, ◌≡◌, ap, sym}
use Prim.Native.Nat.{◌+◌, ◌≤◌, ◌<◌, suc, ℕ}
use native.Mathlib.Omega.{arith}
use mathlib.Core.List.{List, map}
use lib.ListN.{length, set}
use lib.Seq.{sets}
use Rattle.samtags.specs.Decimal.{value}
use Rattle.operands.proofs.NumberLaws.{fields_bad, fields_end, fields_on, next_within, values_are, values_bad, values_end, values_here}
use Rattle.lines.proofs.UpToLaws.{fields_from}
use Rattle.operands.specs.Answers.{number_to}
use Rattle.lines.specs.Lines.{joined}
use Rattle.operands.proofs.put_values.Goals as goal

pub returns-in_err-value : goal.returns-in_err-value
returns-in_err-value c =
    let bad = fields_bad c.args.body.now c.loop-at.at (omega arith) c.up_to-field.result.now c.up_to-field.ensures 255
    (sym c.in_err-value.was ∙ c.read_number.ensures) in
    rw c.from_residual.ensures (values_bad c.args.body.now c.if-body-eq0.false (c.loop-at.invariant.1 ∙ bad))

pub loop-at-preserved : goal.loop-at-preserved
loop-at-preserved c =
    let within : c.loop-at.at + length c.up_to-field.result.now ≤ length c.args.body.now = next_within c.args.body.now c.loop-at.at (omega arith)
    c.up_to-field.result.now c.up_to-field.ensures in
    let n : Some c.in_ok-value.value ≡ number_to 255 c.up_to-field.result.now = sym c.in_ok-value.was ∙ c.read_number.ensures in
    let at = c.loop-at.at + length c.up_to-field.result.now + 1 in
    let inside : c.loop-at.at ≤ length c.args.body.now = omega arith in
    let here = values_here c.args.body.now c.loop-at.at inside c.up_to-field.result.now c.up_to-field.ensures 255 c.in_ok-value.value n in
    let next : suc c.loop-at.n ≡ c.loop-at.n + 1 = omega arith in (
      omega (arith, within),
      c.loop-at.invariant.1 ∙ fields_on c.args.body.now c.loop-at.at inside c.up_to-field.result.now c.up_to-field.ensures 255 c.in_ok-value.value n,
      c.loop-at.invariant.2 ∙ ap (sets c.loop-at.row c.loop-at.n) here ∙ ap (λ (k : ℕ). sets (set c.loop-at.row c.loop-at.n c.in_ok-value.value) k (map value (fields_from c.args.body.now at)))
          next
          ∙ ap (λ (r : List ℕ). sets r (c.loop-at.n + 1) (map value (fields_from c.args.body.now at))) (sym c.put.ensures),
      omega (arith, ap length here, c.loop-at.invariant.3),
      c.put.auto.out ∙ c.loop-at.invariant.4,
      omega arith,
    )

pub returns : goal.returns
returns c =
    let past : length c.args.body.now < c.loop-at.at = omega arith in
    let none = values_end c.args.body.now c.loop-at.at past in (
      map value (joined c.args.body.now),
      values_are c.args.body.now c.if-body-eq0.false (c.loop-at.invariant.1 ∙ fields_end c.args.body.now c.loop-at.at 255 past),
      omega (arith, ap length none, c.loop-at.invariant.3),
      sym (c.loop-at.invariant.2 ∙ ap (sets c.loop-at.row c.loop-at.n) none),
    )
