-- `aql_cut_record` passes the given start to the call and the answer on; the row is as the call left it.
-- Assumes nothing.
use Rattle.record_lib.proofs.HandedRecords.{cut_handed}
use Rattle.telling.specs.Starts.{given_start}
use Rattle.telling.specs.Told.{yes}
use Rattle.record_lib.proofs.aql_cut_record.Goals as goal

pub returns : goal.returns
returns c =
    cut_handed c.args.bam.now c.args.before.now (yes c.args.before_reverse) (given_start c.args.start_known c.args.start) c.args.out.now c.args.out_len.now c.args.went.now
    c.window_start-begin.ensures c.cut_record-answer.ensures c.tell.ensures
