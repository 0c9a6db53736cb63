-- `join` copies the first text, and then the second into the room behind it.
-- Assumes nothing.
use mathlib.Core.Path.{◌∙◌, ap}
use Prim.Native.Nat.{◌+◌, ◌-◌, ◌≤◌, ℕ}
use native.Mathlib.Omega.{arith}
use mathlib.Core.List.{List, ◌++◌}
use lib.ListN.{length, length-drop, length-take, take}
use Rattle.joining.proofs.Parts.{order_lengths, part_joined}
use Rattle.joining.specs.Order.{second_of}
use Rattle.lent.specs.Filled.{over}
use Rattle.joining.proofs.join.Goals as goal

pub copy-requires : goal.copy-requires
copy-requires c =
    let room : length c.first_text-front.result.now + length (second_of c.args.first c.args.second (take c.args.a_len c.args.a.now) (take c.args.b_len c.args.b.now)) ≤ length c.args.mm.now = (let xs = take c.args.a_len c.args.a.now in
    let ys = take c.args.b_len c.args.b.now in
    omega (
      arith,
      ap (λ (l : List ℕ). length l) c.first_text-front.ensures,
      order_lengths c.args.first c.args.second xs ys,
      length-take c.args.a_len c.args.a.now,
      length-take c.args.b_len c.args.b.now,
    )) in
    omega (arith, room)

pub slice_bounds-copy-count : goal.slice_bounds-copy-count
slice_bounds-copy-count c =
    let room : length c.first_text-front.result.now + length (second_of c.args.first c.args.second (take c.args.a_len c.args.a.now) (take c.args.b_len c.args.b.now)) ≤ length c.args.mm.now = (let xs = take c.args.a_len c.args.a.now in
    let ys = take c.args.b_len c.args.b.now in
    omega (
      arith,
      ap (λ (l : List ℕ). length l) c.first_text-front.ensures,
      order_lengths c.args.first c.args.second xs ys,
      length-take c.args.a_len c.args.a.now,
      length-take c.args.b_len c.args.b.now,
    )) in
    omega (arith, room, c.copy.auto.out)

pub slice_bounds-copy-start : goal.slice_bounds-copy-start
slice_bounds-copy-start c =
    let room : length c.first_text-front.result.now + length (second_of c.args.first c.args.second (take c.args.a_len c.args.a.now) (take c.args.b_len c.args.b.now)) ≤ length c.args.mm.now = (let xs = take c.args.a_len c.args.a.now in
    let ys = take c.args.b_len c.args.b.now in
    omega (
      arith,
      ap (λ (l : List ℕ). length l) c.first_text-front.ensures,
      order_lengths c.args.first c.args.second xs ys,
      length-take c.args.a_len c.args.a.now,
      length-take c.args.b_len c.args.b.now,
    )) in
    omega (arith, room, c.copy.auto.out)

pub copy-requires-2 : goal.copy-requires-2
copy-requires-2 c =
    let room : length c.first_text-front.result.now + length (second_of c.args.first c.args.second (take c.args.a_len c.args.a.now) (take c.args.b_len c.args.b.now)) ≤ length c.args.mm.now = (let xs = take c.args.a_len c.args.a.now in
    let ys = take c.args.b_len c.args.b.now in
    omega (
      arith,
      ap (λ (l : List ℕ). length l) c.first_text-front.ensures,
      order_lengths c.args.first c.args.second xs ys,
      length-take c.args.a_len c.args.a.now,
      length-take c.args.b_len c.args.b.now,
    )) in
    simp (length-take, length-drop) (omega (
      arith,
      room,
      c.copy.auto.out,
      ap (λ (l : List ℕ). length l) c.second_text.ensures,
    ))

pub returns : goal.returns
returns c =
    let room : length c.first_text-front.result.now + length (second_of c.args.first c.args.second (take c.args.a_len c.args.a.now) (take c.args.b_len c.args.b.now)) ≤ length c.args.mm.now = (let xs = take c.args.a_len c.args.a.now in
    let ys = take c.args.b_len c.args.b.now in
    omega (
      arith,
      ap (λ (l : List ℕ). length l) c.first_text-front.ensures,
      order_lengths c.args.first c.args.second xs ys,
      length-take c.args.a_len c.args.a.now,
      length-take c.args.b_len c.args.b.now,
    )) in
    part_joined c.first_text-front.result.now c.second_text.result.now c.args.mm.now c.copy.new.out c.copy-2.new.out _
    c.copy.ensures (ap (λ (n : ℕ). n - length c.first_text-front.result.now) c.copy.auto.out) c.copy-2.ensures
    (omega (arith, room, ap (λ (l : List ℕ). length l) c.second_text.ensures))
    ∙ (λ j. over (c.first_text-front.ensures j ++ c.second_text.ensures j) c.args.mm.now)
