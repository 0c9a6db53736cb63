-- `measure` checks for 3 and 4, and then walks over the groups with empty rows.
-- Assumes nothing.
use mathlib.Core.Path.{◌∙◌, ◌≡◌, ap, subst, sym}
use Prim.Native.Nat.{ℕ}
use native.Mathlib.Omega.{arith}
use mathlib.Core.List.{List, []}
use borrow.Author.Tests.{eqb-true}
use Rattle.editing.proofs.TagLaws.{edited_four, edited_on, edited_three, measured}
use Rattle.editing.specs.Tags.{TagMeasured}
use Rattle.drafting.specs.Walks.{edited_groups}
use Rattle.changing.specs.Windows.{is_marked, window_edit}
use Rattle.lent.specs.Outcome.{Outcome}
use Rattle.samtags.specs.Edits.{edited}
use Rattle.samtags.specs.Reading.{read_groups}
use Rattle.samtags.specs.Text.{closed_by}
use Rattle.samtags.specs.Writing.{Tag}
use Rattle.editing.proofs.measure.Goals as goal

pub returns-then-not-ascii : goal.returns-then-not-ascii
returns-then-not-ascii c =
    edited_three (window_edit c.args.lo c.args.after.now c.args.marks.now) c.args.has_ml c.args.seq.now c.args.mm.now c.args.ml.now
    (sym c.all_ascii-ascii.ensures ∙ c.if-not-ascii.true)

pub returns-then-not-closed : goal.returns-then-not-closed
returns-then-not-closed c =
    edited_four (window_edit c.args.lo c.args.after.now c.args.marks.now) c.args.has_ml c.args.seq.now c.args.mm.now c.args.ml.now
    (sym c.all_ascii-ascii.ensures ∙ c.if-not-ascii.false) (sym c.ends_in_semicolon-closed.ensures ∙
    c.if-not-closed.true)

pub edit_groups-requires : goal.edit_groups-requires
edit_groups-requires c = (
  omega arith,
  omega arith,
  omega arith,
  eqb-true _ 59 (sym c.ends_in_semicolon-closed.ensures ∙ c.if-not-closed.false),
)

pub returns : goal.returns
returns c =
    let e = window_edit c.args.lo c.args.after.now c.args.marks.now in
    let r = c.edit_groups.result in
    let on : edited e c.args.has_ml c.args.seq.now c.args.mm.now c.args.ml.now
    ≡ edited_groups e (read_groups c.args.has_ml (is_marked c.args.marks.now) c.args.seq.now (closed_by 59 c.args.mm.now) c.args.ml.now) =
    edited_on e c.args.has_ml c.args.seq.now c.args.mm.now c.args.ml.now
    (sym c.all_ascii-ascii.ensures ∙ c.if-not-ascii.false)
    (sym c.ends_in_semicolon-closed.ensures ∙ c.if-not-closed.false)
    ∙ ap (λ (m : List ℕ). edited_groups e (read_groups c.args.has_ml (is_marked c.args.marks.now) c.args.seq.now (closed_by 59 c.args.mm.now) m))
    c.requires.3 in
    subst (λ (o : Outcome Tag). TagMeasured o r) (sym on) (measured e _ [] [] r c.edit_groups.new.out c.edit_groups.new.ml_out c.edit_groups.ensures)
