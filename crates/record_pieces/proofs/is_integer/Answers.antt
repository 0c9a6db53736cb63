-- `is_integer`: six types are integers.
-- Assumes nothing.
use mathlib.Core.Path.{◌≡◌, refl}
use native.Mathlib.Omega.{arith}
use borrow.Author.Tests.{ne_eqb}
use Rattle.record_pieces.proofs.is_integer.Goals as goal

pub returns-then-kind-eq99 : goal.returns-then-kind-eq99
returns-then-kind-eq99 c =
    let t : c.args.kind ≡ 99 = omega arith in
    rw t refl

pub returns-then-kind-eq67 : goal.returns-then-kind-eq67
returns-then-kind-eq67 c =
    let t : c.args.kind ≡ 67 = omega arith in
    rw t refl

pub returns-then-kind-eq115 : goal.returns-then-kind-eq115
returns-then-kind-eq115 c =
    let t : c.args.kind ≡ 115 = omega arith in
    rw t refl

pub returns-then-kind-eq83 : goal.returns-then-kind-eq83
returns-then-kind-eq83 c =
    let t : c.args.kind ≡ 83 = omega arith in
    rw t refl

pub returns-then-kind-eq105 : goal.returns-then-kind-eq105
returns-then-kind-eq105 c =
    let t : c.args.kind ≡ 105 = omega arith in
    rw t refl

pub returns-then-kind-eq73 : goal.returns-then-kind-eq73
returns-then-kind-eq73 c =
    let t : c.args.kind ≡ 73 = omega arith in
    rw t refl

pub returns : goal.returns
returns c =
    let k = c.args.kind in
    rw (
      ne_eqb 99 k (λ e. absurd (omega (arith, e))),
      ne_eqb 67 k (λ e. absurd (omega (arith, e))),
      ne_eqb 115 k (λ e. absurd (omega (arith, e))),
      ne_eqb 83 k (λ e. absurd (omega (arith, e))),
      ne_eqb 105 k (λ e. absurd (omega (arith, e))),
      ne_eqb 73 k (λ e. absurd (omega (arith, e))),
    )
    refl
