-- `put_odd`: at an even length it writes nothing; at an odd length the last byte's high half, complemented, comes first.
-- Assumes nothing.
use mathlib.Core.Path.{◌∙◌, ◌≡◌, ap, sym}
use Prim.Native.Nat.{◌%◌, ◌/◌, ◌-◌, ℕ}
use native.Mathlib.Omega.{arith}
use Rattle.lent.proofs.Filled.{over_none}
use Rattle.lent.specs.Filled.{over}
use Rattle.lent.specs.Lists.{tabulate}
use Rattle.packed.proofs.Rows.{code_high, one_more}
use Rattle.packed.specs.Packed.{complement, letter_of}
use Rattle.packed.specs.Walks.{turned_at, turned_second}
use Rattle.packed_rows.proofs.put_odd.Goals as goal

pub returns-then-n-eq0 : goal.returns-then-n-eq0
returns-then-n-eq0 c =
    let a = c.args in
    let even : 0 ≡ a.n % 2 = omega arith in
    (even, over_none a.row.now ∙ ap (λ (k : ℕ). over (tabulate k (turned_at a.n a.packed.now)) a.row.now) even)

pub returns : goal.returns
returns c =
    let a = c.args in
    let odd : 1 ≡ a.n % 2 = omega arith in
    let packed = a.packed.now in
    let first : c.entry.result ≡ turned_at a.n packed 0 =
    c.entry.ensures turned_second c.requires.3
    ∙ ap (λ (v : ℕ). complement (letter_of v)) (sym (code_high packed (a.n - 1 - 0) (a.n / 2) (omega arith))) in (
      odd,
      one_more (turned_at a.n packed) a.row.now a.row.now 0 _ (over_none a.row.now) (omega arith) first
          ∙ ap (λ (k : ℕ). over (tabulate k (turned_at a.n packed)) a.row.now) odd,
    )
