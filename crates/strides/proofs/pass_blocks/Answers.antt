use mathlib.Core.Path.{◌≡◌, ap, sym}
use Prim.Native.Nat.{◌+◌, ◌≤◌, ℕ}
use native.Mathlib.Omega.{arith}
use mathlib.Core.List.{List}
use lib.ListN.{length, length-append}
use Rattle.lent.proofs.Lists.{filter_length}
use Rattle.lent.specs.Lists.{filter}
use Rattle.strides.proofs.StrideLaws.{between_append, between_none, block_count, held_append}
use Rattle.strides.specs.Counts.{between, held_between, held_there}
use Rattle.strides.proofs.pass_blocks.Goals as goal

pub loop-window-init : goal.loop-window-init
loop-window-init c =
    let a = c.args in
    let none = between_none a.base a.seq.now a.from in (
      omega arith,
      omega arith,
      omega arith,
      sym (ap length none),
      sym (ap (λ (ps : List ℕ). length (filter (held_there a.window.lo a.after.now a.base) ps)) none),
    )

pub is_split-split-requires : goal.is_split-split-requires
is_split-split-requires c =
    let block : c.loop-window.place + 32 ≤ length c.args.seq.now = (let far = c.is_far.ensures c.loop-window-test.true in
    omega (arith, far)) in
    omega (arith, block)

pub count_block-n-requires : goal.count_block-n-requires
count_block-n-requires c =
    let block : c.loop-window.place + 32 ≤ length c.args.seq.now = (let far = c.is_far.ensures c.loop-window-test.true in
    omega (arith, far)) in
    (block, omega arith, c.requires.2)

pub returns-then-split : goal.returns-then-split
returns-then-split c = c.loop-window.invariant

pub returns-then-skip-passed : goal.returns-then-skip-passed
returns-then-skip-passed c = c.loop-window.invariant

pub held_in_block-held-requires : goal.held_in_block-held-requires
held_in_block-held-requires c =
    let block : c.loop-window.place + 32 ≤ length c.args.seq.now = (let far = c.is_far.ensures c.loop-window-test.true in
    omega (arith, far)) in (
      block,
      c.requires.2,
      c.requires.3,
      c.is_split-split.ensures c.if-split.false,
      c.count_block-n.ensures,
    )

pub overflow_add-held : goal.overflow_add-held
overflow_add-held c =
    let turned : (c.loop-window.passed + c.count_block-n.result ≡ length (between c.args.base c.args.seq.now c.args.from (c.loop-window.place + 32))) × (c.loop-window.held + c.held_in_block-held.result ≡ held_between c.args.window.lo c.args.after.now c.args.base c.args.seq.now c.args.from (c.loop-window.place + 32)) = (let ps = between_append c.args.base c.args.seq.now c.args.from c.loop-window.place c.loop-window.invariant.0 c.loop-window.invariant.1 (c.loop-window.place + 32) (omega arith) in
    let sizes = length-append (between c.args.base c.args.seq.now c.args.from c.loop-window.place) (between c.args.base c.args.seq.now c.loop-window.place (c.loop-window.place + 32)) in
    let counted = c.count_block-n.ensures in
    let held = held_append c.args.window.lo c.args.after.now c.args.base c.args.seq.now c.args.from c.loop-window.place (c.loop-window.place + 32) c.loop-window.invariant.0 c.loop-window.invariant.1 (omega arith) in (
      omega (arith, c.loop-window.invariant.3, counted, block_count c.args.base c.args.seq.now c.loop-window.place, sizes, ap length ps),
      omega (arith, c.loop-window.invariant.4, c.held_in_block-held.ensures, held),
    )) in
    let few : c.loop-window.passed + c.count_block-n.result ≤ c.args.skip = omega arith in
    let held-few : c.loop-window.held + c.held_in_block-held.result ≤ c.loop-window.passed + c.count_block-n.result = omega (arith, turned, filter_length (held_there c.args.window.lo c.args.after.now c.args.base) (between c.args.base c.args.seq.now c.args.from (c.loop-window.place + 32))) in
    omega (arith, held-few, few)

pub overflow_add-passed : goal.overflow_add-passed
overflow_add-passed c =
    let few : c.loop-window.passed + c.count_block-n.result ≤ c.args.skip = omega arith in
    omega (arith, few)

pub overflow_add-place : goal.overflow_add-place
overflow_add-place c =
    let block : c.loop-window.place + 32 ≤ length c.args.seq.now = (let far = c.is_far.ensures c.loop-window-test.true in
    omega (arith, far)) in
    omega (arith, block)

pub loop-window-smaller : goal.loop-window-smaller
loop-window-smaller c =
    let block : c.loop-window.place + 32 ≤ length c.args.seq.now = (let far = c.is_far.ensures c.loop-window-test.true in
    omega (arith, far)) in
    omega (arith, block)

pub loop-window-preserved : goal.loop-window-preserved
loop-window-preserved c =
    let block : c.loop-window.place + 32 ≤ length c.args.seq.now = (let far = c.is_far.ensures c.loop-window-test.true in
    omega (arith, far)) in
    let turned : (c.loop-window.passed + c.count_block-n.result ≡ length (between c.args.base c.args.seq.now c.args.from (c.loop-window.place + 32))) × (c.loop-window.held + c.held_in_block-held.result ≡ held_between c.args.window.lo c.args.after.now c.args.base c.args.seq.now c.args.from (c.loop-window.place + 32)) = (let ps = between_append c.args.base c.args.seq.now c.args.from c.loop-window.place c.loop-window.invariant.0 c.loop-window.invariant.1 (c.loop-window.place + 32) (omega arith) in
    let sizes = length-append (between c.args.base c.args.seq.now c.args.from c.loop-window.place) (between c.args.base c.args.seq.now c.loop-window.place (c.loop-window.place + 32)) in
    let counted = c.count_block-n.ensures in
    let held = held_append c.args.window.lo c.args.after.now c.args.base c.args.seq.now c.args.from c.loop-window.place (c.loop-window.place + 32) c.loop-window.invariant.0 c.loop-window.invariant.1 (omega arith) in (
      omega (arith, c.loop-window.invariant.3, counted, block_count c.args.base c.args.seq.now c.loop-window.place, sizes, ap length ps),
      omega (arith, c.loop-window.invariant.4, c.held_in_block-held.ensures, held),
    )) in
    let few : c.loop-window.passed + c.count_block-n.result ≤ c.args.skip = omega arith in
    (omega arith, block, few, (turned).0, (turned).1)

pub returns : goal.returns
returns c = c.loop-window.invariant
