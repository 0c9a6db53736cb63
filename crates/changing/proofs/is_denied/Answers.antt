-- `is_denied`: if the group may lose calls, no place is denied; otherwise the marked places are.
-- Assumes nothing.
use mathlib.Core.Path.{◌∙◌, sym}
use Rattle.changing.proofs.EntryLaws.{denied_closed, denied_open}
use Rattle.changing.proofs.is_denied.Goals as goal

pub returns-then-may_drop : goal.returns-then-may_drop
returns-then-may_drop c =
    let a = c.args in
    sym (denied_open a.marks.now a.may_drop a.place.0 c.if-may_drop.true)

pub returns : goal.returns
returns c =
    let a = c.args in
    c.is_named.ensures ∙ sym (denied_closed a.marks.now a.may_drop a.place.0 c.if-may_drop.false)
