-- `aql_mask_record` passes the answer of the call on; the row is as the call left it.
-- Assumes nothing.
use lib.ListN.{length}
use Rattle.record_lib.proofs.HandedRecords.{record_handed}
use Rattle.record_tags.specs.Records.{mask_record}
use Rattle.record_lib.proofs.aql_mask_record.Goals as goal

pub returns : goal.returns
returns c =
    record_handed (mask_record c.args.bam.now c.args.before.now (length c.args.out.now)) c.args.out.now c.args.out_len.now c.args.went.now
    c.mask_record-answer.ensures c.tell.ensures
