-- `aql_read_calls` hands on the answer; the columns are as the call left them.
-- Assumes nothing.
use Rattle.telling.specs.Told.{yes}
use Rattle.telling.proofs.HandedReadings.{calls_handed}
use Rattle.taglib.proofs.reading_tags.aql_read_calls.Reads as reads
use Rattle.taglib.proofs.reading_tags.aql_read_calls.Lts as lts
use Rattle.reading.proofs.read_calls.Reads as read-calls-reads
use Rattle.telling.proofs.both.Reads as read-reads
use Rattle.taglib.proofs.reading_tags.aql_read_calls.Goals as goal

pub returns : goal.returns
returns c =
    calls_handed (yes c.args.has_ml) c.args.seq.now c.args.mm.now c.args.ml.now c.args.call_groups.now c.args.call_places.now c.args.call_starts.now
    c.args.groups.now c.args.calls.now c.read_calls-answer.ensures c.both.ensures
