-- `accepts`: the first walk says whether the tag can be edited; if it says None, the walk that writes says it, over empty rows.
-- Assumes nothing.
use mathlib.Core.Path.{◌∙◌, subst, sym}
use mathlib.Core.Bool.{not}
use lib.Dec.{eqb}
use lib.ListN.{length}
use Rattle.changing.specs.Windows.{is_marked, window_edit}
use Rattle.editing.proofs.TagLaws.{unmarked}
use Rattle.measuring.specs.Counting.{TagCounted}
use Rattle.samtags.specs.Reading.{read}
use Rattle.record_rows.proofs.RowLaws.{counted_refused, counted_some}
use Rattle.record_rows.proofs.accepts.Goals as goal

pub returns-in_default : goal.returns-in_default
returns-in_default c =
    let e = window_edit c.args.lo c.args.after.now c.args.marks.now in
    let groups = read c.args.has_ml (is_marked c.args.marks.now) c.args.seq.now c.args.mm.now c.args.ml.now in
    let counted = subst (TagCounted (not (eqb (length c.args.marks.now) 0)) groups) c.in_default.is
    (c.count_tag.ensures (is_marked c.args.marks.now) (unmarked c.args.marks.now)) in
    sym (counted_refused e c.args.has_ml c.args.seq.now c.args.mm.now c.args.ml.now c.in_default.field-0 counted)

pub returns-then-is_some : goal.returns-then-is_some
returns-then-is_some c =
    let e = window_edit c.args.lo c.args.after.now c.args.marks.now in
    let groups = read c.args.has_ml (is_marked c.args.marks.now) c.args.seq.now c.args.mm.now c.args.ml.now in
    let counted = subst (TagCounted (not (eqb (length c.args.marks.now) 0)) groups) c.in-Ok.is
    (c.count_tag.ensures (is_marked c.args.marks.now) (unmarked c.args.marks.now)) in
    c.if-is_some.true ∙ sym (counted_some e c.args.has_ml c.args.seq.now c.args.mm.now c.args.ml.now _ c.in-Ok.counted counted (sym c.if-is_some.ensures))
