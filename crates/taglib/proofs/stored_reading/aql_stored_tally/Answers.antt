-- `aql_stored_tally` hands on the answer.
-- Assumes nothing.
use Rattle.stored.specs.Reads.{tally_stored}
use Rattle.telling.proofs.HandedReadings.{tally_handed}
use Rattle.telling.specs.Told.{yes}
use Rattle.taglib.proofs.stored_reading.aql_stored_tally.Goals as goal

pub returns : goal.returns
returns c =
    tally_handed (tally_stored (yes c.args.reverse) c.args.bases c.args.packed.now c.args.mm.now c.args.ml.now) c.args.above.now c.args.below.now
    _ c.tally-answer.ensures c.both.ensures
