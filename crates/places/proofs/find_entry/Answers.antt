-- `find_entry` answers 6 if the skip reader refuses, 7 if the walk finds nothing, and otherwise answers with the place.
-- Assumes nothing.
use Rattle.std.specs.Prelude.{Err}
use mathlib.Core.Path.{◌∙◌, ap, sym}
use Prim.Native.Nat.{◌≤◌}
use native.Mathlib.Omega.{arith}
use lib.ListN.{length}
use Rattle.places.proofs.WalkLaws.{entry_on, entry_seven, entry_not_decimal, tracked_few}
use Rattle.places.specs.Answers.{found_says}
use Rattle.places.specs.Walk.{tracked_from}
use Rattle.places.proofs.find_entry.Goals as goal

pub returns-in_default : goal.returns-in_default
returns-in_default c =
    let a = c.args in
    entry_not_decimal a.field.now (tracked_from a.base a.from.0 a.seq.now) _ c.in_default.field-0
    (sym c.in_default.is ∙ c.read_skip.ensures)

pub returns-in_default-next_tracked : goal.returns-in_default-next_tracked
returns-in_default-next_tracked c =
    let few : length (tracked_from c.args.base c.args.from.0 c.args.seq.now) ≤ 16000 = omega (arith, c.requires, tracked_few c.args.base c.args.from.0 c.args.seq.now) in
    let a = c.args in
    entry_seven a.field.now (tracked_from a.base a.from.0 a.seq.now)
    _ (omega (arith, few)) c.in-Ok.skip
    (sym c.in-Ok.is ∙ c.read_skip.ensures)
    (sym (ap found_says c.in_default-next_tracked.is) ∙ c.next_tracked.ensures)

pub returns : goal.returns
returns c =
    let few : length (tracked_from c.args.base c.args.from.0 c.args.seq.now) ≤ 16000 = omega (arith, c.requires, tracked_few c.args.base c.args.from.0 c.args.seq.now) in
    let a = c.args in
    entry_on a.field.now (tracked_from a.base a.from.0 a.seq.now)
    _ (omega (arith, few)) c.in-Ok.skip
    (sym c.in-Ok.is ∙ c.read_skip.ensures) c.in-Some.place.0
    (sym (ap found_says c.in-Some.is) ∙ c.next_tracked.ensures)
