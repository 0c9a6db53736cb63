use Rattle.taglib.proofs.stored_rewriting.aql_stored_drop_masked_modifications.Goals as goal
-- `aql_stored_drop_masked_modifications` hands on the answer; the rows are as the call left them.
-- Assumes nothing.
use borrow.Author.Rules.{rules}
use lib.ListN.{length}
use Rattle.stored_edits.specs.Edits.{mask_stored}
use Rattle.telling.proofs.HandedTags.{tag_handed}
use Rattle.telling.specs.Told.{yes}
use Rattle.taglib.proofs.stored_rewriting.aql_stored_drop_masked_modifications.Statement.{
  statement,
}
use Rattle.taglib.proofs.stored_rewriting.aql_stored_drop_masked_modifications.Tie as tie

pub returns : goal.returns
returns c =
    let o = mask_stored (yes c.args.reverse) (yes c.args.has_ml) c.args.before_bases c.args.before.now c.args.after_bases c.args.after.now c.args.mm.now c.args.ml.now
    (length c.args.mm_out.now) (length c.args.ml_out.now) in
    tag_handed (yes c.args.has_ml) o c.args.mm_out.now c.args.ml_out.now c.args.mm_out_len.now c.args.ml_out_len.now
    c.drop_masked_modifications-answer.ensures c.both.ensures
