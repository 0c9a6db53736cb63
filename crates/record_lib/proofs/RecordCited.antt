-- The contract that the kit makes of each export's `ensures` is the proposition of specs/RecordContracts.
-- Assumes nothing.
use Rattle.lent.proofs.Cited.{Gives}
use Rattle.record_lib.specs.RecordContracts.{CutsRecordInC, DropsRecordInC, MasksRecordInC}
use Rattle.record_lib.proofs.aql_mask_record.Kinds as mask
use Rattle.record_lib.proofs.aql_mask_record.Reads as mask_reads
use Rattle.record_lib.proofs.aql_drop_record.Kinds as drop
use Rattle.record_lib.proofs.aql_drop_record.Reads as drop_reads
use Rattle.record_lib.proofs.aql_cut_record.Kinds as cut
use Rattle.record_lib.proofs.aql_cut_record.Reads as cut_reads

pub aql_mask_record_cited : Gives 5 mask.ps mask.r mask_reads.Post (λ κs a r e.
    let lent = a.1.1 in
    let kept = e.1.1 in
    MasksRecordInC a.0.now a.1.0.now lent.0.now lent.1.0.now lent.1.1.0.now r kept.0.now kept.1.0.now kept.1.1.0.now)
aql_mask_record_cited κs a r e p = p

pub aql_drop_record_cited : Gives 5 drop.ps drop.r drop_reads.Post (λ κs a r e.
    let lent = a.1.1 in
    let kept = e.1.1 in
    DropsRecordInC a.0.now a.1.0.now lent.0.now lent.1.0.now lent.1.1.0.now r kept.0.now kept.1.0.now kept.1.1.0.now)
aql_drop_record_cited κs a r e p = p

pub aql_cut_record_cited : Gives 5 cut.ps cut.r cut_reads.Post (λ κs a r e.
    let asked = a.1.1 in
    let lent = asked.1.1.1 in
    let kept = e.1.1.1.1.1 in
    CutsRecordInC a.0.now a.1.0.now asked.0 asked.1.0 asked.1.1.0 lent.0.now lent.1.0.now lent.1.1.0.now
    r kept.0.now kept.1.0.now kept.1.1.0.now)
aql_cut_record_cited κs a r e p = p
