use mathlib.Core.Path.{◌∙◌, ◌≡◌, ap, sym}
use Prim.Native.Nat.{◌+◌, ◌-◌, ℕ}
use native.Mathlib.Omega.{arith}
use mathlib.Core.Bool.{Bool, cond, true}
use lib.ListN.{drop, get_or, length-take, take}
use Rattle.changing.proofs.EntryLaws.{held_anyway, one_at_most, passing_at, passing_behind, passing_end, passing_miss, passing_on}
use Rattle.changing.specs.Drafts.{passing}
use Rattle.changing.specs.Windows.{held_in}
use Rattle.lent.proofs.Lists.{filter_length}
use Rattle.samtags.proofs.Places.{places_length}
use Rattle.samtags.specs.Spots.{holds}
use Rattle.strides.specs.Counts.{between, held_there}
use Rattle.places.specs.Walk.{tracked_from}
use Rattle.entries.proofs.pass_tracked.Goals as goal
use Rattle.entries.proofs.pass_tracked.Goals.{then-hit+else-ordinal-skip, else-hit}

pub loop-at-init : goal.loop-at-init
loop-at-init c =
    let a = c.args in
    let seq = a.seq.now in
    let start = c.ahead-start.result in
    let e = c.ahead-start.ensures in
    let all = between a.base seq a.from.0 start.place in
    let short = places_length (holds a.base) a.from.0 (take (start.place - a.from.0) (drop a.from.0 seq)) in
    let part = length-take (start.place - a.from.0) (drop a.from.0 seq) in
    record {
      not_past = e.2;
      below = omega (arith, e.3, short, part);
      few = omega (arith, e.3, e.4, filter_length (held_there a.window.lo a.after.now a.base) all);
      passes = passing_behind a.window.lo a.after.now a.base seq a.from.0 start.place a.skip.0 start.passed start.held e.0 e.1 e.2 e.3 e.4;
    }

pub returns-then-ordinal-skip : goal.returns-then-ordinal-skip
returns-then-ordinal-skip c =
    let h = c.loop-at in
    let a = c.args in
    sym (h.invariant.passes ∙ passing_at (held_in a.window.lo a.after.now a.base) a.base a.seq.now h.at h.held.0 (a.skip.0 - h.ordinal.0) (omega arith)
    (sym c.counts-hit.ensures ∙ c.if-hit.true) (omega arith))

pub loop-at-preserved : goal.loop-at-preserved
loop-at-preserved c =
    let h = c.loop-at in
    let a = c.args in
    let seq = a.seq.now in
    let i = h.at in
    let n = a.skip.0 - h.ordinal.0 in
    let held = held_in a.window.lo a.after.now a.base in
    elim c.if-hit.branch [
      | then-hit+else-ordinal-skip w ↦
          let counted : w.one_more-held.result.0 ≡ h.held.0 + cond w.stays-still.result 1 0 = w.one_more-held.ensures in
          let hit : holds a.base (get_or seq i 0) ≡ true = sym c.counts-hit.ensures ∙ w.if-hit.true in
          let still : w.stays-still.result ≡ held i =
          w.stays-still.ensures ∙ held_anyway a.window a.after.now seq a.base i c.requires.2 (omega arith) hit in
          let one : w.one_more-held.result.0 ≡ h.held.0 + cond (held i) 1 0 = counted ∙ ap (λ (t : Bool). h.held.0 + cond t 1 0) still in
          rw (w.ordinal-is, w.held-is) (record {
            not_past = omega (arith, w.if-ordinal-skip.false);
            below = omega arith;
            few = omega (arith, one, one_at_most (held i));
            passes = h.invariant.passes ∙ passing_on held a.base seq i h.held.0 n (omega arith) hit
                (a.skip.0 - (h.ordinal.0 + 1)) (omega (arith, w.if-ordinal-skip.false))
                ∙ ap (λ (m : ℕ). passing held m (a.skip.0 - (h.ordinal.0 + 1)) (tracked_from a.base (i + 1) seq)) (sym one);
          })
      | else-hit w ↦ rw (w.ordinal-is, w.held-is) (record {
        not_past = omega arith;
        below = omega arith;
        few = omega arith;
        passes = h.invariant.passes ∙ passing_miss held a.base seq i h.held.0 n (omega arith) (sym c.counts-hit.ensures ∙ w.if-hit.false);
      })
    ]

pub returns : goal.returns
returns c =
    let h = c.loop-at in
    let a = c.args in
    sym (h.invariant.passes ∙ passing_end (held_in a.window.lo a.after.now a.base) a.base a.seq.now h.at h.held.0 (a.skip.0 - h.ordinal.0) (omega arith))
