-- `read_ends` takes exactly two fields, and each must be a number.
-- Assumes nothing.
use Rattle.std.specs.Prelude.{Some}
use mathlib.Core.Path.{◌∙◌, ◌≡◌, ap, sym}
use Prim.Native.Nat.{◌+◌, ◌≤◌}
use native.Mathlib.Omega.{arith}
use lib.ListN.{length}
use Rattle.operands.proofs.NumberLaws.{back_bad, front_bad, more_numbers, next_within, one_number, two_numbers}
use Rattle.operands.specs.Answers.{ends_says, number_to}
use Rattle.operands.proofs.read_ends.Goals as goal

pub returns-then-front-body : goal.returns-then-front-body
returns-then-front-body c =
    sym (one_number 4294967295 c.args.body.now c.up_to-front.result.now c.up_to-front.ensures (omega arith))

pub up_to-back-requires : goal.up_to-back-requires
up_to-back-requires c =
    omega (arith, next_within c.args.body.now 0 (omega arith) c.up_to-front.result.now c.up_to-front.ensures)

pub returns-then-second-back : goal.returns-then-second-back
returns-then-second-back c =
    let second : length c.up_to-front.result.now + 1 ≤ length c.args.body.now = omega (arith, next_within c.args.body.now 0 (omega arith) c.up_to-front.result.now c.up_to-front.ensures) in
    sym (more_numbers 4294967295 c.args.body.now c.up_to-front.result.now c.up_to-front.ensures second c.up_to-back.result.now c.up_to-back.ensures
    (omega arith))

pub returns-in_err-a : goal.returns-in_err-a
returns-in_err-a c =
    let second : length c.up_to-front.result.now + 1 ≤ length c.args.body.now = omega (arith, next_within c.args.body.now 0 (omega arith) c.up_to-front.result.now c.up_to-front.ensures) in
    ap ends_says c.from_residual.ensures ∙ sym (front_bad 4294967295 c.args.body.now c.up_to-front.result.now c.up_to-front.ensures second c.up_to-back.result.now
    c.up_to-back.ensures (omega arith)
    (sym c.in_err-a.was ∙ c.read_number.ensures))

pub returns-in_err-b : goal.returns-in_err-b
returns-in_err-b c =
    let second : length c.up_to-front.result.now + 1 ≤ length c.args.body.now = omega (arith, next_within c.args.body.now 0 (omega arith) c.up_to-front.result.now c.up_to-front.ensures) in
    ap ends_says c.from_residual-in_err-b.ensures ∙ sym (back_bad 4294967295 c.args.body.now c.up_to-front.result.now c.up_to-front.ensures
    second c.up_to-back.result.now c.up_to-back.ensures (omega arith)
    (sym c.in_err-b.was ∙ c.read_number-2.ensures))

pub returns : goal.returns
returns c =
    let second : length c.up_to-front.result.now + 1 ≤ length c.args.body.now = omega (arith, next_within c.args.body.now 0 (omega arith) c.up_to-front.result.now c.up_to-front.ensures) in
    let front : Some c.in_ok-a.a ≡ number_to 4294967295 c.up_to-front.result.now = sym c.in_ok-a.was ∙ c.read_number.ensures in
    let back : Some c.in_ok-b.b ≡ number_to 4294967295 c.up_to-back.result.now = sym c.in_ok-b.was ∙ c.read_number-2.ensures in
    sym (two_numbers 4294967295 c.args.body.now c.up_to-front.result.now c.up_to-front.ensures
    second c.up_to-back.result.now c.up_to-back.ensures (omega arith)
    c.in_ok-a.a c.in_ok-b.b front back)
