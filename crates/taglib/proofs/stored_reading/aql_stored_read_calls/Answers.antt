-- `aql_stored_read_calls` hands on the answer; the columns are as the call left them.
-- Assumes nothing.
use Rattle.telling.specs.Told.{yes}
use Rattle.taglib.proofs.HandedStored.{stored_calls_handed}
use Rattle.taglib.proofs.stored_reading.aql_stored_read_calls.Goals as goal

pub returns : goal.returns
returns c =
    stored_calls_handed (yes c.args.reverse) (yes c.args.has_ml) c.args.bases c.args.packed.now c.args.mm.now c.args.ml.now c.args.call_groups.now
    c.args.call_places.now c.args.call_starts.now c.args.groups.now c.args.calls.now c.read_calls-answer.ensures c.both.ensures
