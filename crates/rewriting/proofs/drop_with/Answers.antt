-- `drop_with` marks the places in the lent row, and then edits over all of SEQ.
-- Assumes nothing.
use mathlib.Core.Path.{◌∙◌, ◌≡◌, ap, sym}
use Prim.Native.Nat.{ℕ}
use mathlib.Core.List.{List}
use lib.ListN.{length}
use Rattle.changing.specs.Windows.{window_edit}
use Rattle.lent.specs.Outcome.{Outcome}
use Rattle.editing.specs.Rewrote.{leaves_tag, rewrote}
use Rattle.rewriting.proofs.Orders.{drop_on}
use Rattle.samtags.proofs.Taken.{in_domain_lem}
use Rattle.samtags.specs.Edits.{edited, in_room}
use Rattle.samtags.specs.Writing.{Tag}
use Rattle.rewriting.proofs.drop_with.Goals as goal

pub edit_tag-requires : goal.edit_tag-requires
edit_tag-requires c =
    in_domain_lem c.args.has_ml c.args.seq.now c.args.mm.now c.args.ml.now c.requires.0

pub returns : goal.returns
returns c =
    let made : rewrote c.edit_tag.result c.edit_tag.new.mm_out c.edit_tag.new.ml_out
    ≡ leaves_tag c.args.has_ml (in_room c.args.has_ml (length c.args.mm_out.now) (length c.args.ml_out.now)
    (edited (window_edit 0 c.args.seq.now c.mark_places.new.row) c.args.has_ml c.args.seq.now c.args.mm.now c.args.ml.now)) c.args.mm_out.now c.args.ml_out.now =
    c.edit_tag.ensures in
    made
    ∙ ap (λ (marks : List ℕ). leaves_tag c.args.has_ml (in_room c.args.has_ml (length c.args.mm_out.now) (length c.args.ml_out.now)
    (edited (window_edit 0 c.args.seq.now marks) c.args.has_ml c.args.seq.now c.args.mm.now c.args.ml.now)) c.args.mm_out.now c.args.ml_out.now)
    c.mark_places.ensures
    ∙ ap (λ (o : Outcome Tag). leaves_tag c.args.has_ml o c.args.mm_out.now c.args.ml_out.now)
    (sym (drop_on c.args.has_ml c.args.seq.now c.args.places.now c.args.mm.now c.args.ml.now (length c.args.mm_out.now) (length c.args.ml_out.now)
    c.requires.0 c.args.marks.now c.requires.1 c.requires.2.1))
