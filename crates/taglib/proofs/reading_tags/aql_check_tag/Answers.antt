-- `aql_check_tag` hands on the answer.
-- Assumes nothing.
use Rattle.samtags.specs.Reading.{read_tag}
use Rattle.telling.specs.Told.{yes}
use Rattle.telling.proofs.HandedReadings.{read_handed}
use Rattle.taglib.proofs.reading_tags.aql_check_tag.Reads as reads
use Rattle.taglib.proofs.reading_tags.aql_check_tag.Lts as lts
use Rattle.reading.proofs.check_tag.Reads as check-tag-reads
use Rattle.telling.proofs.both.Reads as read-reads
use Rattle.taglib.proofs.reading_tags.aql_check_tag.Goals as goal

pub returns : goal.returns
returns c =
    let o = read_tag (yes c.args.has_ml) c.args.seq.now c.args.mm.now c.args.ml.now in
    read_handed o c.args.groups.now c.args.calls.now c.check_tag-answer.ensures c.both.ensures
