use Rattle.taglib.proofs.rewriting_tags.aql_trim_clipped_modifications.Goals as goal
-- `aql_trim_clipped_modifications` passes the given start to the call and hands on the answer; the rows are as the call left them.
-- Assumes nothing.
use borrow.Author.Rules.{rules}
use Rattle.telling.specs.Starts.{given_start}
use Rattle.telling.specs.Told.{yes}
use Rattle.telling.proofs.HandedTags.{cut_handed}
use Rattle.taglib.proofs.rewriting_tags.aql_trim_clipped_modifications.Statement.{
  statement,
}
use Rattle.taglib.proofs.rewriting_tags.aql_trim_clipped_modifications.Tie as tie
use Rattle.taglib.proofs.rewriting_tags.aql_trim_clipped_modifications.Reads as reads
use Rattle.taglib.proofs.rewriting_tags.aql_trim_clipped_modifications.Lts as lts
use Rattle.rewriting.proofs.trim_clipped_modifications.Reads as trim-clipped-modifications-reads
use Rattle.telling.proofs.starts.window_start.Reads as window-start-reads
use Rattle.telling.proofs.both.Reads as tagged-reads

pub returns : goal.returns
returns c =
    cut_handed (yes c.args.has_ml) (given_start c.args.start_known c.args.start) c.args.before.now c.args.after.now c.args.mm.now c.args.ml.now
    c.args.mm_out.now c.args.ml_out.now c.args.mm_out_len.now c.args.ml_out_len.now
    c.window_start-begin.ensures c.trim_clipped_modifications-answer.ensures c.both.ensures
