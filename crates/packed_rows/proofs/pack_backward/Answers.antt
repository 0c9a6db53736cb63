use mathlib.Core.Path.{◌∙◌, ◌≡◌, ap, refl, sym}
use Prim.Native.Nat.{◌*◌, ◌+◌, ◌-◌, ◌/◌, ℕ}
use native.Mathlib.Omega.{arith}
use mathlib.Core.List.{List}
use lib.ListN.{length, length-set}
use Rattle.lent.proofs.Filled.{over_none}
use Rattle.lent.specs.Filled.{over}
use Rattle.lent.specs.Lists.{tabulate}
use Rattle.packed.proofs.Rows.{last_backward, length_turned, one_more, packs_as, pair_backward}
use Rattle.packed.specs.Packed.{bits_reversed, bytes_for, code_of, reverse_complement}
use Rattle.packed.specs.Walks.{pair_at}
use Rattle.packed_rows.proofs.pack_backward.Goals as goal

pub loop-i-init : goal.loop-i-init
loop-i-init c = (over_none _, refl)

pub loop-i-preserved : goal.loop-i-preserved
loop-i-preserved c =
    let h = c.loop-i in
    let a = c.args in
    let bases = a.bases.now in
    let at = length bases - 1 - 2 * h.i in (
      one_more (pair_at (reverse_complement bases)) a.out.now h.out h.i _ h.invariant.0 (omega arith)
          (c.entry.ensures bits_reversed c.pair_table-turned.ensures ∙ ap bits_reversed c.packed_pair-pair.ensures ∙ pair_backward bases h.i at (omega arith) refl),
      length-set h.out h.i _ ∙ h.invariant.1,
    )

pub returns-then-n-eq1 : goal.returns-then-n-eq1
returns-then-n-eq1 c =
    let h = c.loop-i in
    let a = c.args in
    let bases = a.bases.now in
    let turned = reverse_complement bases in
    let m = length bases / 2 in
    let here : h.i ≡ m = omega arith in
    let all : m + 1 ≡ bytes_for (length bases) = omega arith in
    one_more (pair_at turned) a.out.now h.out m _ (h.invariant.0 ∙ ap (λ (k : ℕ). over (tabulate k (pair_at turned)) a.out.now) here) (omega arith)
    (c.entry-then-n-eq1-2.ensures bits_reversed c.pair_table-turned.ensures ∙ ap bits_reversed (c.entry-then-n-eq1.ensures code_of c.code_table-coded.ensures) ∙ last_backward bases m (omega arith))
    ∙ ap (λ (k : ℕ). over (tabulate k (pair_at turned)) a.out.now) all
    ∙ ap (λ (l : List ℕ). over l a.out.now) (sym (packs_as turned (length bases) (length_turned bases)))

pub returns-else-n-eq1 : goal.returns-else-n-eq1
returns-else-n-eq1 c =
    let h = c.loop-i in
    let a = c.args in
    let bases = a.bases.now in
    let turned = reverse_complement bases in
    let all : h.i ≡ bytes_for (length bases) = omega arith in
    h.invariant.0 ∙ ap (λ (k : ℕ). over (tabulate k (pair_at turned)) a.out.now) all
    ∙ ap (λ (l : List ℕ). over l a.out.now) (sym (packs_as turned (length bases) (length_turned bases)))
