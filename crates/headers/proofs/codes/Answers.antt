use mathlib.Core.Path.{◌≡◌, ◌∙◌, ap, sym}
use Prim.Native.Nat.{◌+◌, ◌-◌}
use native.Mathlib.Omega.{arith}
use lib.ListN.{drop, length, length-drop}
use lib.Seq.{take_all}
use Rattle.samtags.specs.Text.{codes_of, without_marks}
use Rattle.headers.proofs.HeaderLaws.{part_code, part_mark, part_none}
use Rattle.headers.proofs.codes.Goals as goal

pub loop-last-init : goal.loop-last-init
unfolding codes_of
loop-last-init c =
    let l = c.args.header.now in
    ap without_marks (sym (take_all (length l - 2) (drop 2 l) (omega (arith, length-drop 2 l))))

pub returns-then-not-is_mark : goal.returns-then-not-is_mark
returns-then-not-is_mark c =
    let l = c.args.header.now in
    let z : c.loop-last.last - 1 + 1 ≡ c.loop-last.last = omega arith in
    rw z (sym (c.loop-last.invariant ∙ part_code l c.loop-last.last (omega arith) (omega arith)
    (sym c.is_mark.ensures ∙ c.if-not-is_mark.true)))

pub loop-last-preserved : goal.loop-last-preserved
loop-last-preserved c =
    let l = c.args.header.now in
    c.loop-last.invariant ∙ part_mark l c.loop-last.last (omega arith) (omega arith)
    (sym c.is_mark.ensures ∙ c.if-not-is_mark.false)

pub returns : goal.returns
returns c =
    let l = c.args.header.now in
    sym (c.loop-last.invariant ∙ part_none l c.loop-last.last (omega arith))
