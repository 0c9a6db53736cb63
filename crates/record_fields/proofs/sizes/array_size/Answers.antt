-- `array_size`: the count is below 2 ^ 32 and an element takes at most 4 bytes, so that their product fits in 64 bits.
-- Assumes nothing.
use mathlib.Core.Path.{sym}
use native.Mathlib.Omega.{arith}
use Rattle.record_fields.proofs.SizeLaws.{array_short, array_sized, array_untyped, product_at_most}
use Rattle.record_fields.proofs.sizes.array_size.Goals as goal

pub returns-then-bytes-from-lt5 : goal.returns-then-bytes-from-lt5
returns-then-bytes-from-lt5 c =
    let a = c.args in
    (sym (array_short a.bytes.now a.from (omega arith)), omega arith)

pub returns-then-size-eq0 : goal.returns-then-size-eq0
returns-then-size-eq0 c =
    let a = c.args in
    (sym (array_untyped a.bytes.now a.from (omega arith)), omega arith)

pub overflow_mul-result : goal.overflow_mul-result
overflow_mul-result c = omega (arith, product_at_most c.word_at.result c.element_size-size.result (omega arith) (omega arith))

pub overflow_add-result : goal.overflow_add-result
overflow_add-result c = omega (arith, product_at_most c.word_at.result c.element_size-size.result (omega arith) (omega arith))

pub returns : goal.returns
returns c =
    let a = c.args in
    let w = c.word_at in
    let s = c.element_size-size in (
      rw (w.ensures.0, s.ensures.0) (omega (arith, array_sized a.bytes.now a.from (omega arith) (λ q. omega arith))),
      omega (arith, product_at_most w.result s.result (omega arith) (omega arith)),
    )
