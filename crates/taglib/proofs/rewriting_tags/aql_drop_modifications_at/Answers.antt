-- `aql_drop_modifications_at` hands on the answer; the rows are as the call left them.
-- Assumes nothing.
use lib.ListN.{length}
use Rattle.samtags.specs.Edits.{drop_from_tag}
use Rattle.telling.specs.Told.{yes}
use Rattle.telling.proofs.HandedTags.{tag_handed}
use Rattle.taglib.proofs.rewriting_tags.aql_drop_modifications_at.Reads as reads
use Rattle.taglib.proofs.rewriting_tags.aql_drop_modifications_at.Lts as lts
use Rattle.rewriting.proofs.drop_modifications_at.Reads as drop-modifications-at-reads
use Rattle.telling.proofs.both.Reads as tagged-reads
use Rattle.taglib.proofs.rewriting_tags.aql_drop_modifications_at.Goals as goal

pub returns : goal.returns
returns c =
    let o = drop_from_tag (yes c.args.has_ml) c.args.seq.now c.args.places.now c.args.mm.now c.args.ml.now
    (length c.args.mm_out.now) (length c.args.ml_out.now) in
    tag_handed (yes c.args.has_ml) o c.args.mm_out.now c.args.ml_out.now c.args.mm_out_len.now c.args.ml_out_len.now
    c.drop_modifications_at-answer.ensures c.both.ensures
