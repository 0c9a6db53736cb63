use mathlib.Core.Path.{◌∙◌, ◌≡◌, ap, refl, sym}
use Prim.Native.Nat.{◌*◌, ◌+◌, ◌-◌, ◌/◌, ◌%◌, ◌<◌, ℕ}
use native.Mathlib.Omega.{arith}
use mathlib.Core.List.{List}
use lib.ListN.{get_or, length-set, set}
use Rattle.lent.proofs.Filled.{over_none}
use Rattle.lent.specs.Filled.{over}
use Rattle.lent.specs.Lists.{tabulate}
use Rattle.packed.proofs.Codes.{reversed_small}
use Rattle.packed.proofs.Rows.{Bytes, one_more, turned_last, turned_odd, turns_as}
use Rattle.packed.specs.Packed.{bits_reversed, bytes_for, reverse_complement, unpack}
use Rattle.packed.specs.Walks.{first_low, pair_at, second_high}
use Rattle.packed_rows.proofs.turn_odd.Goals as goal

-- two halves make no more than a byte
room_for_two : (v w x y : ℕ) → v ≡ x % 16 * 16 → w ≡ y / 16 → y < 256 → v + w < 256
room_for_two v w x y p q l = omega (arith, p, q, l)

pub loop-i-init : goal.loop-i-init
loop-i-init c =
    let none : c.args.n / 2 ≡ c.args.n / 2 - 0 = omega arith in (
      c.entry-last.ensures second_high c.second_high_table-second.ensures ∙ ap (λ (k : ℕ). second_high (get_or c.args.packed.now k 0)) none,
      over_none _,
      refl,
    )

pub overflow_add-out : goal.overflow_add-out
overflow_add-out c =
    let h = c.loop-i in
    let b = get_or c.args.packed.now (c.args.n / 2 - 1 - h.i) 0 in
    omega (arith, room_for_two _ _ _ _ h.invariant.0 (c.entry.ensures first_low c.first_low_table-first.ensures) (reversed_small b))

pub loop-i-preserved : goal.loop-i-preserved
loop-i-preserved c =
    let h = c.loop-i in
    let a = c.args in
    let packed = a.packed.now in
    let small : Bytes packed = λ p. omega (arith, c.type_inv.packed p) in
    let less : a.n / 2 - 1 - h.i ≡ a.n / 2 - (h.i + 1) = omega arith in
    let here : a.n / 2 - 1 - h.i + 1 ≡ a.n / 2 - h.i = omega arith in
    let last : h.last ≡ bits_reversed (get_or packed (a.n / 2 - 1 - h.i + 1) 0) % 16 * 16 =
    h.invariant.0 ∙ ap (λ (k : ℕ). bits_reversed (get_or packed k 0) % 16 * 16) (sym here) in
    let next : c.entry.result ≡ first_low (get_or packed (a.n / 2 - 1 - h.i) 0) =
    c.entry.ensures first_low c.first_low_table-first.ensures in (
      c.entry-last-in-loop-i.ensures second_high c.second_high_table-second.ensures ∙ ap (λ (k : ℕ). second_high (get_or packed k 0)) less,
      one_more (pair_at (reverse_complement (unpack a.n packed))) a.out.now h.out h.i _ h.invariant.1 (omega arith)
          ((λ j. last j + next j) ∙ turned_odd a.n packed small h.i (a.n / 2 - 1 - h.i) (omega arith) (omega arith)),
      length-set h.out h.i _ ∙ h.invariant.2,
    )

pub returns : goal.returns
returns c =
    let h = c.loop-i in
    let a = c.args in
    let packed = a.packed.now in
    let turned = reverse_complement (unpack a.n packed) in
    let small : Bytes packed = λ p. omega (arith, c.type_inv.packed p) in
    let m = a.n / 2 in
    let here : h.i ≡ m = omega arith in
    let first : a.n / 2 - h.i ≡ 0 = omega arith in
    let all : m + 1 ≡ bytes_for a.n = omega arith in
    let last : h.last ≡ bits_reversed (get_or packed 0 0) % 16 * 16 = h.invariant.0 ∙ ap (λ (k : ℕ). bits_reversed (get_or packed k 0) % 16 * 16) first in
    let made : set h.out m h.last ≡ over (tabulate (m + 1) (pair_at turned)) a.out.now =
    one_more (pair_at turned) a.out.now h.out m _ (h.invariant.1 ∙ ap (λ (k : ℕ). over (tabulate k (pair_at turned)) a.out.now) here) (omega arith)
    (last ∙ turned_last a.n packed small m (omega arith)) in
    made
    ∙ ap (λ (k : ℕ). over (tabulate k (pair_at turned)) a.out.now) all
    ∙ ap (λ (l : List ℕ). over l a.out.now) (sym (turns_as a.n packed))
