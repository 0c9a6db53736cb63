use mathlib.Core.Path.{◌∙◌, ◌≡◌, ap, refl, sym}
use Prim.Native.Nat.{◌*◌, ◌+◌, ◌-◌, ◌/◌, ℕ}
use native.Mathlib.Omega.{arith}
use mathlib.Core.List.{List}
use lib.ListN.{get_or, length, length-set, set}
use Rattle.lent.proofs.Filled.{over_none}
use Rattle.lent.specs.Filled.{over}
use Rattle.lent.specs.Lists.{tabulate}
use Rattle.packed.proofs.Codes.{code_small}
use Rattle.packed.proofs.Rows.{last_forward, one_more, packs_as, pair_forward}
use Rattle.packed.specs.Packed.{bytes_for, code_of}
use Rattle.packed.specs.Walks.{pair_at}
use Rattle.packed_rows.proofs.pack_forward.Goals as goal

pub loop-i-init : goal.loop-i-init
loop-i-init c = (over_none _, refl)

pub loop-i-preserved : goal.loop-i-preserved
loop-i-preserved c =
    let h = c.loop-i in
    let a = c.args in
    let bases = a.bases.now in (
      one_more (pair_at bases) a.out.now h.out h.i _ h.invariant.0 (omega arith)
          (c.packed_pair.ensures ∙ pair_forward bases h.i (omega arith)),
      length-set h.out h.i _ ∙ h.invariant.1,
    )

pub overflow_mul-out : goal.overflow_mul-out
overflow_mul-out c =
    let a = c.args in
    omega (arith, c.entry.ensures code_of c.code_table-coded.ensures, code_small (get_or a.bases.now (length a.bases.now - 1) 0))

pub returns-then-n-eq1 : goal.returns-then-n-eq1
returns-then-n-eq1 c =
    let h = c.loop-i in
    let a = c.args in
    let bases = a.bases.now in
    let m = length bases / 2 in
    let here : h.i ≡ m = omega arith in
    let all : m + 1 ≡ bytes_for (length bases) = omega arith in
    let last : c.entry.result * 16 ≡ code_of (get_or bases (length bases - 1) 0) * 16 = omega (arith, c.entry.ensures code_of c.code_table-coded.ensures) in
    let made : set h.out m (c.entry.result * 16) ≡ over (tabulate (m + 1) (pair_at bases)) a.out.now =
    one_more (pair_at bases) a.out.now h.out m _ (h.invariant.0 ∙ ap (λ (k : ℕ). over (tabulate k (pair_at bases)) a.out.now) here) (omega arith)
    (last ∙ last_forward bases m (length bases - 1) (omega arith) (omega arith)) in
    made
    ∙ ap (λ (k : ℕ). over (tabulate k (pair_at bases)) a.out.now) all
    ∙ ap (λ (l : List ℕ). over l a.out.now) (sym (packs_as bases (length bases) refl))

pub returns-else-n-eq1 : goal.returns-else-n-eq1
returns-else-n-eq1 c =
    let h = c.loop-i in
    let a = c.args in
    let bases = a.bases.now in
    let all : h.i ≡ bytes_for (length bases) = omega arith in
    h.invariant.0 ∙ ap (λ (k : ℕ). over (tabulate k (pair_at bases)) a.out.now) all
    ∙ ap (λ (l : List ℕ). over l a.out.now) (sym (packs_as bases (length bases) refl))
