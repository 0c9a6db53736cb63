use Rattle.taglib.proofs.stored_rewriting.aql_stored_drop_modifications_at.Goals as goal
-- `aql_stored_drop_modifications_at` hands on the answer; the rows are as the call left them.
-- Assumes nothing.
use borrow.Author.Rules.{rules}
use lib.ListN.{length}
use Rattle.stored_edits.specs.Edits.{drop_stored}
use Rattle.telling.proofs.HandedTags.{tag_handed}
use Rattle.telling.specs.Told.{yes}
use Rattle.taglib.proofs.stored_rewriting.aql_stored_drop_modifications_at.Statement.{
  statement,
}
use Rattle.taglib.proofs.stored_rewriting.aql_stored_drop_modifications_at.Tie as tie

pub returns : goal.returns
returns c =
    let o = drop_stored (yes c.args.reverse) (yes c.args.has_ml) c.args.bases c.args.packed.now c.args.places.now c.args.mm.now c.args.ml.now
    (length c.args.mm_out.now) (length c.args.ml_out.now) in
    tag_handed (yes c.args.has_ml) o c.args.mm_out.now c.args.ml_out.now c.args.mm_out_len.now c.args.ml_out_len.now
    c.drop_modifications_at-answer.ensures c.both.ensures
