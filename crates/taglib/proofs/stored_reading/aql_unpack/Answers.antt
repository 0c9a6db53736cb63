-- `aql_unpack` hands on the answer; the row is as the call left it.
-- Assumes nothing.
use lib.ListN.{length}
use Rattle.stored.specs.Reads.{unpack_stored}
use Rattle.telling.specs.Told.{yes}
use Rattle.taglib.proofs.HandedStored.{fill_handed}
use Rattle.taglib.proofs.stored_reading.aql_unpack.Goals as goal

pub returns : goal.returns
returns c =
    fill_handed (unpack_stored (yes c.args.reverse) c.args.bases c.args.packed.now (length c.args.seq.now)) c.args.seq.now c.args.seq_len.now
    c.unpack-answer.ensures c.written.ensures
