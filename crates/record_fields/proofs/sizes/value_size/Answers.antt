-- `value_size`: an array, a text, or a value of fixed size.
-- Assumes nothing.
use mathlib.Core.Path.{◌≡◌}
use native.Mathlib.Omega.{arith}
use borrow.Author.Tests.{ne_eqb}
use Rattle.record_fields.specs.Fields.{value_size}
use Rattle.record_fields.proofs.sizes.value_size.Goals as goal

pub returns-then-kind-eq66 : goal.returns-then-kind-eq66
unfolding value_size
returns-then-kind-eq66 c =
    let t : c.args.kind ≡ 66 = omega arith in
    rw t c.array_size.ensures.0

pub returns-then-kind-eq90 : goal.returns-then-kind-eq90
unfolding value_size
returns-then-kind-eq90 c =
    let t : c.args.kind ≡ 90 = omega arith in
    rw t c.text_size.ensures

pub returns-then-kind-eq72 : goal.returns-then-kind-eq72
unfolding value_size
returns-then-kind-eq72 c =
    let t : c.args.kind ≡ 72 = omega arith in
    rw t c.text_size-then-kind-eq72.ensures

pub returns : goal.returns
unfolding value_size
returns c =
    let k = c.args.kind in
    rw (ne_eqb k 66 (λ q. omega arith), ne_eqb 90 k (λ q. omega arith), ne_eqb 72 k (λ q. omega arith)) c.fixed_size.ensures.0
