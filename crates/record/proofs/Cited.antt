-- The contract that the kit makes of a public call's `ensures` gives the call's proposition of specs/PublicContracts. Theorems start from that proposition.
-- Assumes nothing.
use Rattle.lent.proofs.Cited.{Gives}
use Rattle.record.specs.PublicContracts.{CutsRecord, DropsRecord, MasksRecord}
use Rattle.record.proofs.mask_record.Kinds as masks
use Rattle.record.proofs.mask_record.Reads as masks-reads
use Rattle.record.proofs.drop_record.Kinds as drops
use Rattle.record.proofs.drop_record.Reads as drops-reads
use Rattle.record.proofs.cut_record.Kinds as cuts
use Rattle.record.proofs.cut_record.Reads as cuts-reads

pub mask_record_cited : Gives 3 masks.ps masks.r masks-reads.Post (λ κs a r e.
    MasksRecord a.0.now a.1.0.now a.1.1.0.now r e.1.1.0.now)
mask_record_cited κs a r e p = p

pub drop_record_cited : Gives 3 drops.ps drops.r drops-reads.Post (λ κs a r e.
    DropsRecord a.0.now a.1.0.now a.1.1.0.now r e.1.1.0.now)
drop_record_cited κs a r e p = p

pub cut_record_cited : Gives 3 cuts.ps cuts.r cuts-reads.Post (λ κs a r e.
    let reverse = a.1.1 in
    CutsRecord a.0.now a.1.0.now reverse.0 reverse.1.0 reverse.1.1.0.now r e.1.1.1.1.0.now)
cut_record_cited κs a r e p = p
