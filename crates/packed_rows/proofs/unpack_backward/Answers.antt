use mathlib.Core.Path.{◌∙◌, ◌≡◌, ap, sym}
use Prim.Native.Nat.{◌*◌, ◌+◌, ◌-◌, ◌/◌, ℕ}
use native.Mathlib.Omega.{arith}
use mathlib.Core.List.{List}
use lib.ListN.{get_or}
use Rattle.lent.specs.Filled.{over}
use Rattle.lent.specs.Lists.{tabulate}
use Rattle.packed.proofs.Rows.{code_high, code_low, two_more, unpack_turned}
use Rattle.packed.specs.Packed.{complement, letter_of}
use Rattle.packed.specs.Walks.{turned_at, turned_first, turned_second}
use Rattle.packed_rows.proofs.unpack_backward.Goals as goal

pub loop-i-preserved : goal.loop-i-preserved
loop-i-preserved c =
    let h = c.loop-i in
    let a = c.args in
    let odd = c.put_odd-odd.result in
    let p = c.put_pair in
    let packed = a.packed.now in
    let at = a.n / 2 - 1 - h.i in
    let b = get_or packed at 0 in
    let first : turned_first b ≡ turned_at a.n packed (odd + 2 * h.i) =
    ap (λ (v : ℕ). complement (letter_of v)) (sym (code_low packed (a.n - 1 - (odd + 2 * h.i)) at (omega (arith, h.invariant.0)))) in
    let second : turned_second b ≡ turned_at a.n packed (odd + 2 * h.i + 1) =
    ap (λ (v : ℕ). complement (letter_of v)) (sym (code_high packed (a.n - 1 - (odd + 2 * h.i + 1)) at (omega (arith, h.invariant.0)))) in
    let sum : odd + 2 * h.i + 2 ≡ odd + 2 * (h.i + 1) = omega arith in (
      h.invariant.0,
      p.auto.row ∙ h.invariant.1,
      λ (out : List ℕ) long e.
          p.ensures turned_first turned_second c.turned_first_table-first.ensures c.turned_second_table-second.ensures
          ∙ two_more (turned_at a.n packed) out h.row (odd + 2 * h.i) _ _ (h.invariant.2 out long e)
          (omega (arith, long, h.invariant.0, h.invariant.1)) first second
          ∙ ap (λ (k : ℕ). over (tabulate k (turned_at a.n packed)) out) sum,
    )

pub returns : goal.returns
returns c =
    let h = c.loop-i in
    let f = c.put_odd-odd in
    let a = c.args in
    let packed = a.packed.now in
    let all : f.result + 2 * h.i ≡ a.n = omega (arith, h.invariant.0) in
    h.invariant.2 a.row.now f.auto.row (f.ensures.1 ∙ ap (λ (k : ℕ). over (tabulate k (turned_at a.n packed)) a.row.now) (sym f.ensures.0))
    ∙ ap (λ (k : ℕ). over (tabulate k (turned_at a.n packed)) a.row.now) all
    ∙ ap (λ (l : List ℕ). over l a.row.now) (sym (unpack_turned a.n packed))
