-- `aql_tally` hands on the answer.
-- Assumes nothing.
use Rattle.samtags.specs.Reading.{tally_tag}
use Rattle.telling.proofs.HandedReadings.{tally_handed}
use Rattle.taglib.proofs.reading_tags.aql_tally.Reads as reads
use Rattle.taglib.proofs.reading_tags.aql_tally.Lts as lts
use Rattle.reading.proofs.tally.Reads as tally-reads
use Rattle.telling.proofs.both.Reads as counted-reads
use Rattle.taglib.proofs.reading_tags.aql_tally.Goals as goal

pub returns : goal.returns
returns c =
    tally_handed (tally_tag c.args.seq.now c.args.mm.now c.args.ml.now) c.args.above.now c.args.below.now
    _ c.tally-answer.ensures c.both.ensures
