-- `alone_fate`: the text is the slice between its type and its NUL, and `accepts` says whether it can be edited.
-- Assumes nothing.
use mathlib.Core.Path.{◌∙◌, ◌≡◌, refl, sym}
use mathlib.Core.Bool.{false}
use mathlib.Core.List.{[]}
use Prim.Native.Nat.{◌+◌, ◌-◌, ◌≤◌}
use lib.ListN.{drop, take}
use native.Mathlib.Omega.{arith}
use Rattle.record_fates.proofs.FateLaws.{alone_edited, alone_goes, alone_none, alone_other, guarded_not, guarded_so, part_least, text_bound}
use Rattle.lent.specs.Answers.{is_done}
use Rattle.record_fates.specs.Fates.{guarded}
use Rattle.record_tags.specs.Changes.{TagEdit}
use Rattle.record_tags.specs.Plans.{by_window}
use Rattle.record_fates.proofs.fates.alone_fate.Goals as goal

pub returns-then-size-eq0 : goal.returns-then-size-eq0
returns-then-size-eq0 c =
    let whole : TagEdit = by_window c.args.lo c.args.after.now c.args.marks.now c.args.seq.now in
    let edit : TagEdit = guarded c.args.possible (whole) in
    sym (alone_none c.args.bam.now c.args.at c.args.size c.requires.0 c.requires.1 (edit) (omega arith))

pub bounds-bam-at : goal.bounds-bam-at
bounds-bam-at c =
    let least : 4 ≤ c.args.size = part_least c.args.bam.now c.args.at c.args.size c.requires.0 c.requires.1 (λ q. omega arith) in
    omega (arith, least)

pub returns-then-bam-at-ne90 : goal.returns-then-bam-at-ne90
returns-then-bam-at-ne90 c =
    let whole : TagEdit = by_window c.args.lo c.args.after.now c.args.marks.now c.args.seq.now in
    let edit : TagEdit = guarded c.args.possible (whole) in
    sym (alone_other c.args.bam.now c.args.at c.args.size c.requires.0 c.requires.1 (edit) (λ q. omega arith) (λ q. omega arith))

pub returns-then-not-possible : goal.returns-then-not-possible
returns-then-not-possible c =
    let whole : TagEdit = by_window c.args.lo c.args.after.now c.args.marks.now c.args.seq.now in
    let edit : TagEdit = guarded c.args.possible (whole) in
    sym
    (alone_goes c.args.bam.now c.args.at c.args.size c.requires.0 c.requires.1 (edit) (λ q. omega arith) (omega arith)
    (guarded_not c.args.possible (whole) false _ [] (c.if-not-possible.true)))

pub slice_bounds-text-count : goal.slice_bounds-text-count
slice_bounds-text-count c =
    let least : 4 ≤ c.args.size = part_least c.args.bam.now c.args.at c.args.size c.requires.0 c.requires.1 (λ q. omega arith) in
    omega (arith, least)

pub slice_bounds-text-start : goal.slice_bounds-text-start
slice_bounds-text-start c =
    let least : 4 ≤ c.args.size = part_least c.args.bam.now c.args.at c.args.size c.requires.0 c.requires.1 (λ q. omega arith) in
    omega (arith, least)

pub accepts-accepted-requires : goal.accepts-accepted-requires
accepts-accepted-requires c =
    (c.requires.3, text_bound c.args.bam.now c.args.at c.args.size c.requires.0 c.requires.1 (λ q. omega arith) (omega arith) c.requires.2, omega arith, refl)

pub returns-then-accepted : goal.returns-then-accepted
returns-then-accepted c =
    let whole : TagEdit = by_window c.args.lo c.args.after.now c.args.marks.now c.args.seq.now in
    let edit : TagEdit = guarded c.args.possible (whole) in
    let text = take ((c.args.at + c.args.size - 1) - (c.args.at + 3)) (drop (c.args.at + 3) c.args.bam.now) in
    let told : c.accepts-accepted.result ≡ is_done (whole false text []) = c.accepts-accepted.ensures in
    sym
    (alone_edited c.args.bam.now c.args.at c.args.size c.requires.0 c.requires.1 (edit) (λ q. omega arith) (omega arith)
    (guarded_so c.args.possible (whole) false text [] (c.if-not-possible.false) c.accepts-accepted.result told ∙ c.if-accepted.true))

pub returns : goal.returns
returns c =
    let whole : TagEdit = by_window c.args.lo c.args.after.now c.args.marks.now c.args.seq.now in
    let edit : TagEdit = guarded c.args.possible (whole) in
    let text = take ((c.args.at + c.args.size - 1) - (c.args.at + 3)) (drop (c.args.at + 3) c.args.bam.now) in
    let told : c.accepts-accepted.result ≡ is_done (whole false text []) = c.accepts-accepted.ensures in
    sym
    (alone_goes c.args.bam.now c.args.at c.args.size c.requires.0 c.requires.1 (edit) (λ q. omega arith) (omega arith)
    (guarded_so c.args.possible (whole) false text [] (c.if-not-possible.false) c.accepts-accepted.result told ∙ c.if-accepted.false))
