use mathlib.Core.Path.{◌≡◌, ap, refl, sym}
use Prim.Native.Nat.{◌+◌, ◌-◌, ◌≤◌, ℕ}
use native.Mathlib.Omega.{arith}
use mathlib.Core.List.{List}
use lib.ListN.{drop, length, length-take, take}
use lib.Seq.{take_all}
use Rattle.lent.proofs.Lists.{filter_length}
use Rattle.lent.specs.Lists.{filter}
use Rattle.samtags.specs.Spots.{holds}
use Rattle.strides.proofs.StrideLaws.{all_tracked, count_part, tracked_count}
use Rattle.strides.proofs.how_many.Goals as goal
use Rattle.strides.proofs.how_many.Goals.{After-count_block, After-count_block-n}

more : (c : After-count_block-n) →
    let h = c.loop-i in
    let a = c.args in
    h.n + c.count_block-n.result ≡ length (filter (holds a.base) (take (h.i + 128) a.seq.now))
more c =
    let h = c.loop-i in
    let a = c.args in
    omega (arith, h.invariant.2, c.count_block-n.ensures, count_part (holds a.base) a.seq.now h.i 128)

few : (c : After-count_block-n) → let h = c.loop-i in h.n + c.count_block-n.result ≤ h.i + 128
few c =
    let h = c.loop-i in
    let a = c.args in
    let l = take (h.i + 128) a.seq.now in
    omega (arith, more c, filter_length (holds a.base) l, length-take (h.i + 128) a.seq.now)

last-few : (c : After-count_block) → c.count_block.result ≤ 16000
last-few c =
    let h = c.loop-i in
    let a = c.args in
    let k = length a.seq.now - h.i in
    let l = take k (drop h.i a.seq.now) in
    omega (arith, c.count_block.ensures, filter_length (holds a.base) l, length-take k (drop h.i a.seq.now))

pub returns-then-base-eq78 : goal.returns-then-base-eq78
returns-then-base-eq78 c = sym (all_tracked c.args.base c.if-base-eq78.true c.args.seq.now)

pub loop-i-init : goal.loop-i-init
loop-i-init c = (omega arith, omega arith, refl)

pub count_block-n-requires : goal.count_block-n-requires
count_block-n-requires c = (omega arith, omega arith, c.if-base-eq78.false)

pub overflow_add-n : goal.overflow_add-n
overflow_add-n c = omega (arith, few c)

pub loop-i-preserved : goal.loop-i-preserved
loop-i-preserved c = (omega arith, few c, more c)

pub count_block-requires : goal.count_block-requires
count_block-requires c = (omega arith, omega arith, c.if-base-eq78.false)

pub overflow_add-result : goal.overflow_add-result
overflow_add-result c = omega (arith, last-few c)

pub returns : goal.returns
returns c =
    let h = c.loop-i in
    let a = c.args in
    let k = length a.seq.now - h.i in
    let whole : take (h.i + k) a.seq.now ≡ a.seq.now = take_all (h.i + k) a.seq.now (omega arith) in
    omega (
      arith,
      h.invariant.2,
      c.count_block.ensures,
      count_part (holds a.base) a.seq.now h.i k,
      ap (λ (l : List ℕ). length (filter (holds a.base) l)) whole,
      tracked_count a.base a.seq.now,
    )
