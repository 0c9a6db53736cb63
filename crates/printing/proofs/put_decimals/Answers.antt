use mathlib.Core.Path.{◌∙◌, ◌≡◌, ap, sym}
use Prim.Native.Nat.{ℕ, ◌+◌, ◌≤◌, ◌<◌}
use native.Mathlib.Omega.{arith}
use lib.ListN.{get_or, length}
use lib.Seq.{sets}
use Rattle.samtags.specs.Writing.{entry_text}
use Rattle.printing.proofs.OutputLaws.{after_first, byte_short, first_end, first_put, next_end, next_put, no_decimals, none_left}
use Rattle.printing.proofs.put_decimals.Goals as goal

pub returns-then-values-eq0 : goal.returns-then-values-eq0
returns-then-values-eq0 c =
    let none = no_decimals c.args.values.now c.if-values-eq0.true in
    (omega (arith, ap length none), sym (ap (sets c.args.out.now c.args.at) none), omega arith)

pub put_skip-end-requires : goal.put_skip-end-requires
put_skip-end-requires c =
    let close : c.put_decimal-end.result ≤ c.args.at + 256 = omega (arith, c.put_decimal-end.ensures.0, byte_short (get_or c.args.values.now 0 0) (omega (arith, c.type_inv.values 0))) in
    omega (arith, close)

pub loop-value-preserved : goal.loop-value-preserved
loop-value-preserved c =
    let h = c.loop-value in
    let p = c.put_skip-end in
    let values = c.args.values.now in
    let some : h.value-index + 1 < length values = omega arith in
    let byte : get_or values (h.value-index + 1) 0 ≤ 255 = omega (arith, c.type_inv.values (h.value-index + 1)) in
    let here = after_first values h.value-index in
    let end : p.result ≡ h.end + length (entry_text (get_or values (h.value-index + 1) 0)) = p.ensures.0 ∙ ap (λ (v : ℕ). h.end + length (entry_text v)) here in
    let put : p.new.out ≡ sets h.out h.end (entry_text (get_or values (h.value-index + 1) 0)) = p.ensures.1 ∙ ap (λ (v : ℕ). sets h.out h.end (entry_text v)) here in (
      h.invariant.0 ∙ next_put h.out h.end values (h.value-index + 1) some p.new.out p.result end put,
      h.invariant.1 ∙ next_end h.out h.end values (h.value-index + 1) some p.new.out p.result end put,
      p.auto.out ∙ h.invariant.2,
      omega (arith, byte_short (get_or values (h.value-index + 1) 0) byte, end, h.invariant.3),
    )

pub returns : goal.returns
returns c =
    let close : c.put_decimal-end.result ≤ c.args.at + 256 = omega (arith, c.put_decimal-end.ensures.0, byte_short (get_or c.args.values.now 0 0) (omega (arith, c.type_inv.values 0))) in
    let some : 0 < length c.args.values.now = omega arith in
    let none = none_left c.args.values.now (c.loop-value.value-index + 1) (omega arith) in (
      omega (
        arith,
        ap length none,
        c.loop-value.invariant.1,
        first_end c.args.out.now c.args.at c.args.values.now some c.put_decimal-end.new.out c.put_decimal-end.result c.put_decimal-end.ensures.0 c.put_decimal-end.ensures.1,
      ),
      sym
          (first_put c.args.out.now c.args.at c.args.values.now some c.put_decimal-end.new.out c.put_decimal-end.result c.put_decimal-end.ensures.0 c.put_decimal-end.ensures.1 ∙ c.loop-value.invariant.0
          ∙ ap (sets c.loop-value.out c.loop-value.end) none),
      omega (arith, close),
    )
