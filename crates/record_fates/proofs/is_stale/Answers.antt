-- `is_stale`: the integer by its type, with the limit from which on a number of this type is negative.
-- Assumes nothing.
use mathlib.Core.Path.{◌∙◌, ◌≡◌, refl, sym}
use Prim.Native.Nat.{◌+◌, ◌≤◌}
use native.Mathlib.Omega.{arith}
use lib.ListN.{get_or}
use Rattle.record_fates.proofs.FateLaws.{part_least}
use Rattle.record_fates.proofs.StaleLaws.{long_I, long_S, long_i, long_s, other, stale_C, stale_I, stale_S, stale_c, stale_i, stale_none, stale_other, stale_s}
use Rattle.record_fates.proofs.is_stale.Goals as goal

pub returns-then-size-eq0 : goal.returns-then-size-eq0
returns-then-size-eq0 c =
    sym (stale_none c.args.n c.args.bam.now c.args.at c.args.size c.requires.0 c.requires.1 (omega arith))

pub bounds-bam-at : goal.bounds-bam-at
bounds-bam-at c =
    let least : 4 ≤ c.args.size = part_least c.args.bam.now c.args.at c.args.size c.requires.0 c.requires.1 (λ q. omega arith) in
    omega (arith, least)

pub bounds-bam-at-then-kind-eq99 : goal.bounds-bam-at-then-kind-eq99
bounds-bam-at-then-kind-eq99 c =
    let least : 4 ≤ c.args.size = part_least c.args.bam.now c.args.at c.args.size c.requires.0 c.requires.1 (λ q. omega arith) in
    omega (arith, least)

pub overflow_cast-bam : goal.overflow_cast-bam
overflow_cast-bam c = omega (arith, c.type_inv.bam (c.args.at + 3))

pub returns-then-kind-eq99 : goal.returns-then-kind-eq99
returns-then-kind-eq99 c =
    let says : c.is_other.result ≡ other (get_or c.args.bam.now (c.args.at + 3) 0) 128 c.args.n = c.is_other.ensures in
    says ∙ sym (stale_c c.args.n c.args.bam.now c.args.at c.args.size c.requires.0 c.requires.1 (λ q. omega arith) (omega arith))

pub bounds-bam-at-then-kind-eq67 : goal.bounds-bam-at-then-kind-eq67
bounds-bam-at-then-kind-eq67 c =
    let least : 4 ≤ c.args.size = part_least c.args.bam.now c.args.at c.args.size c.requires.0 c.requires.1 (λ q. omega arith) in
    omega (arith, least)

pub overflow_cast-bam-then-kind-eq67 : goal.overflow_cast-bam-then-kind-eq67
overflow_cast-bam-then-kind-eq67 c = omega (arith, c.type_inv.bam (c.args.at + 3))

pub returns-then-kind-eq67 : goal.returns-then-kind-eq67
returns-then-kind-eq67 c =
    c.is_other-then-kind-eq67.ensures
    ∙ sym (stale_C c.args.n c.args.bam.now c.args.at c.args.size c.requires.0 c.requires.1 (λ q. omega arith) (omega arith) (omega (arith, c.type_inv.bam (c.args.at + 3))))

pub half_at-requires : goal.half_at-requires
half_at-requires c =
    omega (arith, long_s c.args.n c.args.bam.now c.args.at c.args.size c.requires.0 c.requires.1 (λ q. omega arith) (omega arith))

pub returns-then-kind-eq115 : goal.returns-then-kind-eq115
returns-then-kind-eq115 c =
    c.is_other-then-kind-eq115.ensures
    ∙ sym (stale_s c.args.n c.args.bam.now c.args.at c.args.size c.requires.0 c.requires.1 (λ q. omega arith) (omega arith) c.half_at.result c.half_at.ensures.0)

pub half_at-requires-then-kind-eq83 : goal.half_at-requires-then-kind-eq83
half_at-requires-then-kind-eq83 c =
    omega (arith, long_S c.args.n c.args.bam.now c.args.at c.args.size c.requires.0 c.requires.1 (λ q. omega arith) (omega arith))

pub returns-then-kind-eq83 : goal.returns-then-kind-eq83
returns-then-kind-eq83 c =
    c.is_other-then-kind-eq83.ensures
    ∙ sym (stale_S c.args.n c.args.bam.now c.args.at c.args.size c.requires.0 c.requires.1 (λ q. omega arith) (omega arith) c.half_at-then-kind-eq83.result c.half_at-then-kind-eq83.ensures.0 c.half_at-then-kind-eq83.ensures.1)

pub word_at-requires : goal.word_at-requires
word_at-requires c =
    omega (arith, long_i c.args.n c.args.bam.now c.args.at c.args.size c.requires.0 c.requires.1 (λ q. omega arith) (omega arith))

pub returns-then-kind-eq105 : goal.returns-then-kind-eq105
returns-then-kind-eq105 c =
    c.is_other-then-kind-eq105.ensures
    ∙ sym (stale_i c.args.n c.args.bam.now c.args.at c.args.size c.requires.0 c.requires.1 (λ q. omega arith) (omega arith) c.word_at.result c.word_at.ensures.0)

pub word_at-requires-then-kind-eq73 : goal.word_at-requires-then-kind-eq73
word_at-requires-then-kind-eq73 c =
    omega (arith, long_I c.args.n c.args.bam.now c.args.at c.args.size c.requires.0 c.requires.1 (λ q. omega arith) (omega arith))

pub returns-then-kind-eq73 : goal.returns-then-kind-eq73
returns-then-kind-eq73 c =
    c.is_other-then-kind-eq73.ensures
    ∙ sym (stale_I c.args.n c.args.bam.now c.args.at c.args.size c.requires.0 c.requires.1 (λ q. omega arith) (omega arith) c.word_at-then-kind-eq73.result c.word_at-then-kind-eq73.ensures.0 c.word_at-then-kind-eq73.ensures.1)

pub returns : goal.returns
returns c =
    sym
    (stale_other c.args.n c.args.bam.now c.args.at c.args.size c.requires.0 c.requires.1 (λ q. omega arith) _ refl
    (λ q. omega arith) (λ q. omega arith) (λ q. omega arith) (λ q. omega arith) (λ q. omega arith) (λ q. omega arith))
