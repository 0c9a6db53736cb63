-- `pair_fate`: without ML as `alone_fate`; with an ML that is an array of bytes `accepts` says whether both can be edited.
-- Assumes nothing.
use mathlib.Core.Path.{◌∙◌, refl, sym}
use mathlib.Core.Bool.{true}
use Prim.Native.Nat.{◌≤◌}
use native.Mathlib.Omega.{arith}
use Rattle.record_fates.proofs.FateLaws.{array_bound, array_least, guarded_not, guarded_so, pair_alone, pair_edited, pair_goes, pair_no_array, pair_no_bytes, pair_none, pair_other, part_least, text_bound}
use Rattle.record_fates.specs.Fates.{guarded}
use Rattle.record_tags.specs.Changes.{TagEdit}
use Rattle.record_tags.specs.Plans.{by_window}
use Rattle.record_fates.proofs.fates.pair_fate.Goals as goal

pub returns-then-ml_size-eq0 : goal.returns-then-ml_size-eq0
returns-then-ml_size-eq0 c =
    let whole : TagEdit = by_window c.args.lo c.args.after.now c.args.marks.now c.args.seq.now in
    let edit : TagEdit = guarded c.args.possible (whole) in
    pair_alone c.args.bam.now c.args.at c.args.size c.args.ml_at c.args.ml_size c.requires.size_in_bounds.0 c.requires.size_in_bounds.1 c.requires.ml_size_in_bounds.0 c.requires.ml_size_in_bounds.1 (edit) (omega arith)
    c.alone_fate.result c.alone_fate.ensures

pub returns-then-size-eq0 : goal.returns-then-size-eq0
returns-then-size-eq0 c =
    let whole : TagEdit = by_window c.args.lo c.args.after.now c.args.marks.now c.args.seq.now in
    let edit : TagEdit = guarded c.args.possible (whole) in
    sym
    (pair_none c.args.bam.now c.args.at c.args.size c.args.ml_at c.args.ml_size c.requires.size_in_bounds.0 c.requires.size_in_bounds.1 c.requires.ml_size_in_bounds.0 c.requires.ml_size_in_bounds.1 (edit)
    (λ q. omega arith) (omega arith))

pub bounds-bam-at : goal.bounds-bam-at
bounds-bam-at c =
    let least : 4 ≤ c.args.size = part_least c.args.bam.now c.args.at c.args.size c.requires.size_in_bounds.0 c.requires.size_in_bounds.1 (λ q. omega arith) in
    omega (arith, least)

pub returns-then-bam-at-ne90 : goal.returns-then-bam-at-ne90
returns-then-bam-at-ne90 c =
    let whole : TagEdit = by_window c.args.lo c.args.after.now c.args.marks.now c.args.seq.now in
    let edit : TagEdit = guarded c.args.possible (whole) in
    sym
    (pair_other c.args.bam.now c.args.at c.args.size c.args.ml_at c.args.ml_size c.requires.size_in_bounds.0 c.requires.size_in_bounds.1 c.requires.ml_size_in_bounds.0 c.requires.ml_size_in_bounds.1 (edit)
    (λ q. omega arith) (λ q. omega arith) (λ q. omega arith))

pub bounds-bam-ml_at : goal.bounds-bam-ml_at
bounds-bam-ml_at c =
    let ml_least : 4 ≤ c.args.ml_size = part_least c.args.bam.now c.args.ml_at c.args.ml_size c.requires.ml_size_in_bounds.0 c.requires.ml_size_in_bounds.1 (λ q. omega arith) in
    omega (arith, ml_least)

pub returns-then-bam-ml_at-ne66 : goal.returns-then-bam-ml_at-ne66
returns-then-bam-ml_at-ne66 c =
    let whole : TagEdit = by_window c.args.lo c.args.after.now c.args.marks.now c.args.seq.now in
    let edit : TagEdit = guarded c.args.possible (whole) in
    sym
    (pair_no_array c.args.bam.now c.args.at c.args.size c.args.ml_at c.args.ml_size c.requires.size_in_bounds.0 c.requires.size_in_bounds.1 c.requires.ml_size_in_bounds.0 c.requires.ml_size_in_bounds.1 (edit)
    (λ q. omega arith) (λ q. omega arith) (omega arith) (λ q. omega arith))

pub bounds-bam-ml_at-2 : goal.bounds-bam-ml_at-2
bounds-bam-ml_at-2 c =
    let ml_least : 4 ≤ c.args.ml_size = part_least c.args.bam.now c.args.ml_at c.args.ml_size c.requires.ml_size_in_bounds.0 c.requires.ml_size_in_bounds.1 (λ q. omega arith) in
    omega (arith, ml_least)

pub returns-then-bam-ml_at-ne67 : goal.returns-then-bam-ml_at-ne67
returns-then-bam-ml_at-ne67 c =
    let whole : TagEdit = by_window c.args.lo c.args.after.now c.args.marks.now c.args.seq.now in
    let edit : TagEdit = guarded c.args.possible (whole) in
    sym
    (pair_no_bytes c.args.bam.now c.args.at c.args.size c.args.ml_at c.args.ml_size c.requires.size_in_bounds.0 c.requires.size_in_bounds.1 c.requires.ml_size_in_bounds.0 c.requires.ml_size_in_bounds.1 (edit)
    (λ q. omega arith) (λ q. omega arith) (omega arith) (λ q. omega arith))

pub returns-then-not-possible : goal.returns-then-not-possible
returns-then-not-possible c =
    let whole : TagEdit = by_window c.args.lo c.args.after.now c.args.marks.now c.args.seq.now in
    let edit : TagEdit = guarded c.args.possible (whole) in
    sym
    (pair_goes c.args.bam.now c.args.at c.args.size c.args.ml_at c.args.ml_size c.requires.size_in_bounds.0 c.requires.size_in_bounds.1 c.requires.ml_size_in_bounds.0 c.requires.ml_size_in_bounds.1 (edit)
    (λ q. omega arith) (λ q. omega arith) (omega arith) (omega arith) (omega arith)
    (guarded_not c.args.possible (whole) true _ _ (c.if-not-possible.true)))

pub slice_bounds-text-count : goal.slice_bounds-text-count
slice_bounds-text-count c =
    let least : 4 ≤ c.args.size = part_least c.args.bam.now c.args.at c.args.size c.requires.size_in_bounds.0 c.requires.size_in_bounds.1 (λ q. omega arith) in
    omega (arith, least)

pub slice_bounds-text-start : goal.slice_bounds-text-start
slice_bounds-text-start c =
    let least : 4 ≤ c.args.size = part_least c.args.bam.now c.args.at c.args.size c.requires.size_in_bounds.0 c.requires.size_in_bounds.1 (λ q. omega arith) in
    omega (arith, least)

pub slice_bounds-values-count : goal.slice_bounds-values-count
slice_bounds-values-count c =
    let ml_long : 8 ≤ c.args.ml_size = array_least c.args.bam.now c.args.ml_at c.args.ml_size c.requires.ml_size_in_bounds.0 c.requires.ml_size_in_bounds.1 (λ q. omega arith) (omega arith) (omega arith) in
    omega (arith, ml_long)

pub slice_bounds-values-start : goal.slice_bounds-values-start
slice_bounds-values-start c =
    let ml_long : 8 ≤ c.args.ml_size = array_least c.args.bam.now c.args.ml_at c.args.ml_size c.requires.ml_size_in_bounds.0 c.requires.ml_size_in_bounds.1 (λ q. omega arith) (omega arith) (omega arith) in
    omega (arith, ml_long)

pub accepts-accepted-requires : goal.accepts-accepted-requires
accepts-accepted-requires c = (
  c.requires.size_in_bounds.3,
  text_bound c.args.bam.now c.args.at c.args.size c.requires.size_in_bounds.0 c.requires.size_in_bounds.1 (λ q. omega arith) (omega arith) c.requires.size_in_bounds.2,
  array_bound c.args.bam.now c.args.ml_at c.args.ml_size c.requires.ml_size_in_bounds.0 c.requires.ml_size_in_bounds.1 (λ q. omega arith) (omega arith) (omega arith) c.requires.ml_size_in_bounds.2,
  refl,
)

pub returns-then-accepted : goal.returns-then-accepted
returns-then-accepted c =
    let whole : TagEdit = by_window c.args.lo c.args.after.now c.args.marks.now c.args.seq.now in
    let edit : TagEdit = guarded c.args.possible (whole) in
    sym
    (pair_edited c.args.bam.now c.args.at c.args.size c.args.ml_at c.args.ml_size c.requires.size_in_bounds.0 c.requires.size_in_bounds.1 c.requires.ml_size_in_bounds.0 c.requires.ml_size_in_bounds.1 (edit)
    (λ q. omega arith) (λ q. omega arith) (omega arith) (omega arith) (omega arith)
    (guarded_so c.args.possible (whole) true _ _ (c.if-not-possible.false) c.accepts-accepted.result c.accepts-accepted.ensures ∙ c.if-accepted.true))

pub returns : goal.returns
returns c =
    let whole : TagEdit = by_window c.args.lo c.args.after.now c.args.marks.now c.args.seq.now in
    let edit : TagEdit = guarded c.args.possible (whole) in
    sym
    (pair_goes c.args.bam.now c.args.at c.args.size c.args.ml_at c.args.ml_size c.requires.size_in_bounds.0 c.requires.size_in_bounds.1 c.requires.ml_size_in_bounds.0 c.requires.ml_size_in_bounds.1 (edit)
    (λ q. omega arith) (λ q. omega arith) (omega arith) (omega arith) (omega arith)
    (guarded_so c.args.possible (whole) true _ _ (c.if-not-possible.false) c.accepts-accepted.result c.accepts-accepted.ensures ∙ c.if-accepted.false))
