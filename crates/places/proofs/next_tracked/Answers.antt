use mathlib.Core.Path.{◌∙◌, ap, sym}
use Prim.Native.Nat.{◌+◌, ◌-◌}
use native.Mathlib.Omega.{arith}
use Rattle.places.proofs.WalkLaws.{behind_passed, found_at, found_end, found_miss, found_on}
use Rattle.places.specs.Walk.{first_of}
use Rattle.places.proofs.next_tracked.Goals as goal
use Rattle.places.proofs.next_tracked.Goals.{then-hit+else-ordinal-skip, else-hit}

pub loop-at-init : goal.loop-at-init
loop-at-init c =
    let a = c.args in
    let start = c.ahead-start in
    let e = start.ensures in
    (e.2, behind_passed a.base a.seq.now a.from.0 start.result.place a.skip.0 start.result.passed e.0 e.1 e.2 e.3)

pub returns-then-ordinal-skip : goal.returns-then-ordinal-skip
returns-then-ordinal-skip c =
    let h = c.loop-at in
    let a = c.args in
    sym (ap first_of (h.invariant.1 ∙ found_at a.base a.seq.now h.at (a.skip.0 - h.ordinal.0) (omega arith)
    (sym c.counts-hit.ensures ∙ c.if-hit.true) (omega arith)))

pub loop-at-preserved : goal.loop-at-preserved
loop-at-preserved c =
    let h = c.loop-at in
    let a = c.args in
    let n = a.skip.0 - h.ordinal.0 in
    elim c.if-hit.branch [
      | then-hit+else-ordinal-skip w ↦ rw w.ordinal-is (
        omega (arith, w.if-ordinal-skip.false),
        h.invariant.1 ∙ found_on a.base a.seq.now h.at n (a.skip.0 - (h.ordinal.0 + 1)) (omega arith)
            (sym c.counts-hit.ensures ∙ w.if-hit.true) (omega (arith, w.if-ordinal-skip.false)),
      )
      | else-hit w ↦ rw w.ordinal-is (
        omega arith,
        h.invariant.1 ∙ found_miss a.base a.seq.now h.at n (omega arith)
            (sym c.counts-hit.ensures ∙ w.if-hit.false),
      )
    ]

pub returns : goal.returns
returns c =
    let h = c.loop-at in
    let a = c.args in
    sym (ap first_of (h.invariant.1 ∙ found_end a.base a.seq.now h.at (a.skip.0 - h.ordinal.0) (omega arith)))
