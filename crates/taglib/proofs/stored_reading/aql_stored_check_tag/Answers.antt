-- `aql_stored_check_tag` hands on the answer.
-- Assumes nothing.
use Rattle.stored.specs.Reads.{read_stored}
use Rattle.telling.proofs.HandedReadings.{read_handed}
use Rattle.telling.specs.Told.{yes}
use Rattle.taglib.proofs.stored_reading.aql_stored_check_tag.Goals as goal

pub returns : goal.returns
returns c =
    read_handed (read_stored (yes c.args.reverse) (yes c.args.has_ml) c.args.bases c.args.packed.now c.args.mm.now c.args.ml.now) c.args.groups.now c.args.calls.now
    c.check_tag-answer.ensures c.both.ensures
