use Rattle.std.specs.Prelude.{Some}
use mathlib.Core.Path.{◌∙◌, ◌≡◌, ap, sym}
use Prim.Native.Nat.{◌+◌, ◌≤◌, ◌<◌, ℕ}
use native.Mathlib.Omega.{arith}
use mathlib.Core.Bool.{false, true}
use mathlib.Core.List.{List, map}
use lib.ListN.{length}
use Rattle.samtags.specs.Decimal.{value}
use Rattle.changing.specs.Windows.{stored_at}
use Rattle.operands.proofs.NumberLaws.{fields_bad, fields_end, fields_on, next_within, values_end, values_here}
use Rattle.lines.proofs.UpToLaws.{fields_from}
use Rattle.operands.specs.Answers.{number_to}
use Rattle.operands.proofs.put_listed.Goals as goal

pub returns-in_default : goal.returns-in_default
returns-in_default c =
    let bad = fields_bad c.args.body.now c.loop-at.at (omega arith) c.up_to-field.result.now c.up_to-field.ensures 4294967295
    (sym c.in_default.is ∙ c.read_number.ensures) in
    (sym (c.loop-at.invariant.1 ∙ bad), λ (t : false ≡ true). let z : ◌≡◌ {A = ℕ} 0 1 = cc in absurd (omega arith))

pub loop-at-preserved : goal.loop-at-preserved
loop-at-preserved c =
    let within : c.loop-at.at + length c.up_to-field.result.now ≤ length c.args.body.now = next_within c.args.body.now c.loop-at.at (omega arith)
    c.up_to-field.result.now c.up_to-field.ensures in
    let n : Some c.in-Some.place ≡ number_to 4294967295 c.up_to-field.result.now = sym c.in-Some.is ∙ c.read_number.ensures in
    let at = c.loop-at.at + length c.up_to-field.result.now + 1 in
    let inside : c.loop-at.at ≤ length c.args.body.now = omega arith in (
      omega (arith, within),
      c.loop-at.invariant.1 ∙ fields_on c.args.body.now c.loop-at.at inside c.up_to-field.result.now c.up_to-field.ensures 4294967295 c.in-Some.place n,
      c.loop-at.invariant.2 ∙ ap (λ (ns : List ℕ). stored_at c.args.b ns c.loop-at.row)
          (values_here c.args.body.now c.loop-at.at inside c.up_to-field.result.now c.up_to-field.ensures 4294967295 c.in-Some.place n)
          ∙ ap (stored_at c.args.b (map value (fields_from c.args.body.now at))) (sym c.put.ensures),
      c.put.auto.out ∙ c.loop-at.invariant.3,
    )

pub returns : goal.returns
returns c =
    let past : length c.args.body.now < c.loop-at.at = omega arith in (
      sym (c.loop-at.invariant.1 ∙ fields_end c.args.body.now c.loop-at.at 4294967295 past),
      λ (t : true ≡ true). sym (c.loop-at.invariant.2 ∙ ap (λ (ns : List ℕ). stored_at c.args.b ns c.loop-at.row) (values_end c.args.body.now c.loop-at.at past)),
    )
