use Rattle.taglib.proofs.stored_rewriting.aql_stored_trim_clipped_modifications.Goals as goal
-- `aql_stored_trim_clipped_modifications` takes the start from two numbers, and hands on the answer; the rows are as the call left them.
-- Assumes nothing.
use borrow.Author.Rules.{rules}
use Rattle.telling.specs.Starts.{given_start}
use Rattle.telling.specs.Told.{yes}
use Rattle.taglib.proofs.HandedStored.{stored_cut_handed}
use Rattle.taglib.proofs.stored_rewriting.aql_stored_trim_clipped_modifications.Statement.{
  statement,
}
use Rattle.taglib.proofs.stored_rewriting.aql_stored_trim_clipped_modifications.Tie as tie

pub returns : goal.returns
returns c =
    stored_cut_handed (yes c.args.reverse) (yes c.args.has_ml) (given_start c.args.start_known c.args.start) c.args.before_bases c.args.before.now c.args.after_bases
    c.args.after.now c.args.mm.now c.args.ml.now c.args.mm_out.now c.args.ml_out.now c.args.mm_out_len.now c.args.ml_out_len.now
    c.window_start-begin.ensures c.trim_clipped_modifications-answer.ensures c.both.ensures
