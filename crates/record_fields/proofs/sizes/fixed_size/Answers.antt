-- `fixed_size`: eight types have a fixed size.
-- Assumes nothing.
use mathlib.Core.Path.{◌≡◌, refl, sym}
use native.Mathlib.Omega.{arith}
use borrow.Author.Tests.{ne_eqb}
use Rattle.record_fields.proofs.sizes.fixed_size.Goals as goal

pub returns-then-kind-eq65 : goal.returns-then-kind-eq65
returns-then-kind-eq65 c =
    let t : c.args.kind ≡ 65 = omega arith in
    rw t (refl, omega arith)

pub returns-then-kind-eq99 : goal.returns-then-kind-eq99
returns-then-kind-eq99 c =
    let t : c.args.kind ≡ 99 = omega arith in
    rw t (refl, omega arith)

pub returns-then-kind-eq67 : goal.returns-then-kind-eq67
returns-then-kind-eq67 c =
    let t : c.args.kind ≡ 67 = omega arith in
    rw t (refl, omega arith)

pub returns-then-kind-eq115 : goal.returns-then-kind-eq115
returns-then-kind-eq115 c =
    let t : c.args.kind ≡ 115 = omega arith in
    rw t (refl, omega arith)

pub returns-then-kind-eq83 : goal.returns-then-kind-eq83
returns-then-kind-eq83 c =
    let t : c.args.kind ≡ 83 = omega arith in
    rw t (refl, omega arith)

pub returns-then-kind-eq105 : goal.returns-then-kind-eq105
returns-then-kind-eq105 c =
    let t : c.args.kind ≡ 105 = omega arith in
    rw t (refl, omega arith)

pub returns-then-kind-eq73 : goal.returns-then-kind-eq73
returns-then-kind-eq73 c =
    let t : c.args.kind ≡ 73 = omega arith in
    rw t (refl, omega arith)

pub returns-then-kind-eq102 : goal.returns-then-kind-eq102
returns-then-kind-eq102 c =
    let t : c.args.kind ≡ 102 = omega arith in
    rw t (refl, omega arith)

pub returns : goal.returns
returns c =
    let k = c.args.kind in
    rw (
      ne_eqb 65 k (λ q. c.if-kind-eq65.false (sym q)),
      ne_eqb 99 k (λ q. c.if-kind-eq99.false (sym q)),
      ne_eqb 67 k (λ q. c.if-kind-eq67.false (sym q)),
      ne_eqb 115 k (λ q. c.if-kind-eq115.false (sym q)),
      ne_eqb 83 k (λ q. c.if-kind-eq83.false (sym q)),
      ne_eqb 105 k (λ q. c.if-kind-eq105.false (sym q)),
      ne_eqb 73 k (λ q. c.if-kind-eq73.false (sym q)),
      ne_eqb 102 k (λ q. c.if-kind-eq102.false (sym q)),
    )
    (refl, omega arith)
