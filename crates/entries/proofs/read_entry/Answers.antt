-- `read_entry` passes on 6 of the skip reader and 7 of the walk over SEQ, then checks for 8 and 10, and otherwise answers with the place.
-- Assumes nothing.
use Rattle.std.specs.Prelude.{Err}
use mathlib.Core.Path.{◌∙◌, ap, sym}
use Prim.Native.Nat.{◌≤◌}
use native.Mathlib.Omega.{arith}
use lib.ListN.{length}
use Rattle.changing.proofs.EntryLaws.{read_eight, read_on, read_seven, read_six, read_ten}
use Rattle.entries.specs.Answers.{reached_says}
use Rattle.changing.specs.Windows.{denied_in, held_in}
use Rattle.places.proofs.WalkLaws.{tracked_few}
use Rattle.places.specs.Walk.{tracked_from}
use Rattle.lent.proofs.Outcome.{passed_on}
use Rattle.entries.proofs.read_entry.Goals as goal

pub returns-in_err-skip : goal.returns-in_err-skip
returns-in_err-skip c =
    let held = held_in c.args.window.lo c.args.after.now c.args.kind.base in
    let denied = denied_in c.args.marks.now c.args.kind.may_drop in
    let places = tracked_from c.args.kind.base c.args.from.0 c.args.seq.now in
    ap reached_says (passed_on c.from_residual.result _ c.from_residual.ensures.1)
    ∙ read_six held denied c.args.kind.values c.args.field.now places c.args.left _ c.in_err-skip.field-0.0 (sym c.in_err-skip.was ∙
    c.read_skip.ensures)

pub returns-in_err-place : goal.returns-in_err-place
returns-in_err-place c =
    let few : length (tracked_from c.args.kind.base c.args.from.0 c.args.seq.now) ≤ 16000 = omega (arith, c.requires, tracked_few c.args.kind.base c.args.from.0 c.args.seq.now) in
    let held = held_in c.args.window.lo c.args.after.now c.args.kind.base in
    let denied = denied_in c.args.marks.now c.args.kind.may_drop in
    let places = tracked_from c.args.kind.base c.args.from.0 c.args.seq.now in
    ap reached_says (passed_on c.from_residual-in_err-place.result _ c.from_residual-in_err-place.ensures.1) ∙ read_seven held denied c.args.kind.values c.args.field.now places c.args.left (few) c.in_ok-skip.skip
    (sym c.in_ok-skip.was ∙ c.read_skip.ensures) c.in_err-place.field-0.0 (sym (ap reached_says c.in_err-place.was) ∙
    c.pass_tracked.ensures)

pub returns-then-left-kind : goal.returns-then-left-kind
returns-then-left-kind c =
    let few : length (tracked_from c.args.kind.base c.args.from.0 c.args.seq.now) ≤ 16000 = omega (arith, c.requires, tracked_few c.args.kind.base c.args.from.0 c.args.seq.now) in
    let held = held_in c.args.window.lo c.args.after.now c.args.kind.base in
    let denied = denied_in c.args.marks.now c.args.kind.may_drop in
    let places = tracked_from c.args.kind.base c.args.from.0 c.args.seq.now in
    read_eight held denied c.args.kind.values c.args.field.now places c.args.left (few) c.in_ok-skip.skip
    (sym c.in_ok-skip.was ∙ c.read_skip.ensures) c.in_ok-place.place.0 c.in_ok-place.passed.0
    (sym (ap reached_says c.in_ok-place.was) ∙ c.pass_tracked.ensures)
    (omega arith)

pub returns-then-denied : goal.returns-then-denied
returns-then-denied c =
    let few : length (tracked_from c.args.kind.base c.args.from.0 c.args.seq.now) ≤ 16000 = omega (arith, c.requires, tracked_few c.args.kind.base c.args.from.0 c.args.seq.now) in
    let held = held_in c.args.window.lo c.args.after.now c.args.kind.base in
    let denied = denied_in c.args.marks.now c.args.kind.may_drop in
    let places = tracked_from c.args.kind.base c.args.from.0 c.args.seq.now in
    read_ten held denied c.args.kind.values c.args.field.now places c.args.left (few) c.in_ok-skip.skip
    (sym c.in_ok-skip.was ∙ c.read_skip.ensures) c.in_ok-place.place.0
    c.in_ok-place.passed.0 (sym (ap reached_says c.in_ok-place.was) ∙ c.pass_tracked.ensures)
    (omega arith) (sym c.is_denied-denied.ensures ∙ c.if-denied.true)

pub returns : goal.returns
returns c =
    let held = held_in c.args.window.lo c.args.after.now c.args.kind.base in
    let denied = denied_in c.args.marks.now c.args.kind.may_drop in
    read_on held denied c.args.kind.values c.args.field.now c.args.kind.base c.args.from.0 c.args.seq.now c.args.left (omega arith) c.in_ok-skip.skip
    (sym c.in_ok-skip.was ∙ c.read_skip.ensures) c.in_ok-place.place.0
    c.in_ok-place.passed.0 (sym (ap reached_says c.in_ok-place.was) ∙ c.pass_tracked.ensures)
    (omega arith) (sym c.is_denied-denied.ensures ∙ c.if-denied.false)
