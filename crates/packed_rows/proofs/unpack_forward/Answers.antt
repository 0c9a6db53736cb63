use mathlib.Core.Path.{◌∙◌, ◌≡◌, ap, refl, sym}
use Prim.Native.Nat.{◌*◌, ◌+◌, ◌-◌, ◌/◌, ◌%◌, ℕ}
use native.Mathlib.Omega.{arith}
use lib.ListN.{get_or, set}
use Rattle.lent.proofs.Filled.{over_none}
use Rattle.lent.specs.Filled.{over}
use Rattle.lent.specs.Lists.{tabulate}
use Rattle.packed.proofs.Rows.{code_high, code_low, one_more, two_more}
use Rattle.packed.specs.Packed.{letter_of, unpack}
use Rattle.packed.specs.Walks.{first_letter, letter_at, second_letter}
use Rattle.packed_rows.proofs.unpack_forward.Goals as goal

pub loop-i-init : goal.loop-i-init
loop-i-init c = (over_none c.args.row.now, refl)

pub loop-i-preserved : goal.loop-i-preserved
loop-i-preserved c =
    let h = c.loop-i in
    let a = c.args in
    let p = c.put_pair in
    let packed = a.packed.now in
    let pair = get_or packed h.i 0 in
    let high : letter_of (pair / 16) ≡ letter_at packed (2 * h.i) = ap letter_of (sym (code_high packed (2 * h.i) h.i refl)) in
    let low : letter_of (pair % 16) ≡ letter_at packed (2 * h.i + 1) = ap letter_of (sym (code_low packed (2 * h.i + 1) h.i refl)) in
    let sum : 2 * h.i + 2 ≡ 2 * (h.i + 1) = omega arith in (
      p.ensures first_letter second_letter c.first_table-first.ensures c.second_table-second.ensures
          ∙ two_more (letter_at packed) a.row.now h.row (2 * h.i) _ _ h.invariant.0 (omega arith) high low
          ∙ ap (λ (k : ℕ). over (tabulate k (letter_at packed)) a.row.now) sum,
      p.auto.row ∙ h.invariant.1,
    )

pub returns-then-n-eq1 : goal.returns-then-n-eq1
unfolding unpack
returns-then-n-eq1 c =
    let h = c.loop-i in
    let a = c.args in
    let packed = a.packed.now in
    let last : a.n - 1 ≡ 2 * h.i = omega arith in
    let all : 2 * h.i + 1 ≡ a.n = omega arith in
    let read : c.entry.result ≡ letter_of (get_or packed (a.n / 2) 0 / 16) = c.entry.ensures first_letter c.first_table-first.ensures in
    ap (λ (k : ℕ). set h.row k c.entry.result) last
    ∙ one_more (letter_at packed) a.row.now h.row (2 * h.i) _ h.invariant.0 (omega arith) (read
    ∙ ap letter_of (sym (code_high packed (2 * h.i) (a.n / 2) (omega arith))))
    ∙ ap (λ (k : ℕ). over (tabulate k (letter_at packed)) a.row.now) all

pub returns-else-n-eq1 : goal.returns-else-n-eq1
unfolding unpack
returns-else-n-eq1 c =
    let h = c.loop-i in
    let a = c.args in
    let all : 2 * h.i ≡ a.n = omega arith in
    h.invariant.0 ∙ ap (λ (k : ℕ). over (tabulate k (letter_at a.packed.now)) a.row.now) all
