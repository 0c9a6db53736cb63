-- `aql_drop_record` passes the answer of the call on; the row is as the call left it.
-- Assumes nothing.
use lib.ListN.{length}
use Rattle.record_lib.proofs.HandedRecords.{record_handed}
use Rattle.record_tags.specs.Records.{drop_record}
use Rattle.record_lib.proofs.aql_drop_record.Goals as goal

pub returns : goal.returns
returns c =
    record_handed (drop_record c.args.bam.now c.args.places.now (length c.args.out.now)) c.args.out.now c.args.out_len.now c.args.went.now
    c.drop_record-answer.ensures c.tell.ensures
