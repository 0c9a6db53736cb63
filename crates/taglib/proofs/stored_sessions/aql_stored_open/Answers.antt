-- `aql_stored_open` takes the lengths from the array, and hands on the answer.
-- Assumes nothing.
use Rattle.telling.specs.Told.{yes}
use Rattle.taglib.proofs.HandedStored.{stored_open_handed}
use Rattle.taglib.proofs.stored_sessions.aql_stored_open.Goals as goal

pub returns : goal.returns
returns c =
    stored_open_handed (yes c.args.reverse) (yes c.args.has_ml) c.args.packed.now c.args.mm.now c.args.ml.now c.args.lengths.now c.args.groups.now c.args.calls.now
    c.lengths_in-held.ensures c.open-answer.ensures c.both.ensures
