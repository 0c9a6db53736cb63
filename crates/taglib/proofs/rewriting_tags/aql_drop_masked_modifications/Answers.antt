-- `aql_drop_masked_modifications` hands on the answer; the rows are as the call left them.
-- Assumes nothing.
use lib.ListN.{length}
use Rattle.samtags.specs.Edits.{mask_tag}
use Rattle.telling.specs.Told.{yes}
use Rattle.telling.proofs.HandedTags.{tag_handed}
use Rattle.taglib.proofs.rewriting_tags.aql_drop_masked_modifications.Reads as reads
use Rattle.taglib.proofs.rewriting_tags.aql_drop_masked_modifications.Lts as lts
use Rattle.rewriting.proofs.drop_masked_modifications.Reads as drop-masked-modifications-reads
use Rattle.telling.proofs.both.Reads as tagged-reads
use Rattle.taglib.proofs.rewriting_tags.aql_drop_masked_modifications.Goals as goal

pub returns : goal.returns
returns c =
    let o = mask_tag (yes c.args.has_ml) c.args.before.now c.args.after.now c.args.mm.now c.args.ml.now
    (length c.args.mm_out.now) (length c.args.ml_out.now) in
    tag_handed (yes c.args.has_ml) o c.args.mm_out.now c.args.ml_out.now c.args.mm_out_len.now c.args.ml_out_len.now
    c.drop_masked_modifications-answer.ensures c.both.ensures
