use mathlib.Core.Path.{◌∙◌, ◌≡◌, ap, refl, sym}
use Prim.Native.Nat.{◌-◌, ◌/◌, ℕ}
use native.Mathlib.Omega.{arith}
use mathlib.Core.List.{List}
use lib.ListN.{length-set}
use Rattle.lent.proofs.Filled.{over_none}
use Rattle.lent.specs.Filled.{over}
use Rattle.lent.specs.Lists.{tabulate}
use Rattle.packed.proofs.Rows.{Bytes, one_more, turned_even, turns_as}
use Rattle.packed.specs.Packed.{bits_reversed, bytes_for, reverse_complement, unpack}
use Rattle.packed.specs.Walks.{pair_at}
use Rattle.packed_rows.proofs.turn_even.Goals as goal

pub loop-i-init : goal.loop-i-init
loop-i-init c = (omega arith, over_none _, refl)

pub loop-i-preserved : goal.loop-i-preserved
loop-i-preserved c =
    let h = c.loop-i in
    let a = c.args in
    let packed = a.packed.now in
    let small : Bytes packed = λ p. omega (arith, c.type_inv.packed p) in (
      omega (arith, h.invariant.0),
      one_more (pair_at (reverse_complement (unpack a.n packed))) a.out.now h.out h.i _ h.invariant.1 (omega arith)
          (c.entry.ensures bits_reversed c.pair_table-turned.ensures ∙ turned_even a.n packed small h.i (h.at - 1) (omega arith) (omega (arith, h.invariant.0))),
      length-set h.out h.i _ ∙ h.invariant.2,
    )

pub returns : goal.returns
returns c =
    let h = c.loop-i in
    let a = c.args in
    let turned = reverse_complement (unpack a.n a.packed.now) in
    let all : h.i ≡ bytes_for a.n = omega arith in
    h.invariant.1 ∙ ap (λ (k : ℕ). over (tabulate k (pair_at turned)) a.out.now) all
    ∙ ap (λ (l : List ℕ). over l a.out.now) (sym (turns_as a.n a.packed.now))
