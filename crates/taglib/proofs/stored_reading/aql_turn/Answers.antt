-- `aql_turn` hands on the answer; the row is as the call left it.
-- Assumes nothing.
use lib.ListN.{length}
use Rattle.stored.specs.Reads.{turn_stored}
use Rattle.taglib.proofs.HandedStored.{fill_handed}
use Rattle.taglib.proofs.stored_reading.aql_turn.Goals as goal

pub returns : goal.returns
returns c =
    fill_handed (turn_stored c.args.bases c.args.packed.now (length c.args.out.now)) c.args.out.now c.args.out_len.now c.turn-answer.ensures c.written.ensures
