-- The contract that the kit makes of a public call's `ensures` gives the call's proposition of specs/PublicContracts. Theorems start from that proposition.
-- Assumes nothing.
use Rattle.lent.proofs.Cited.{Gives}
use Rattle.evidence.specs.PublicContracts.{StartsEvidence, CountsBase, GatesPosition, GatesRow}
use Rattle.evidence.proofs.MethylationEvidence.new.Kinds as new
use Rattle.evidence.proofs.MethylationEvidence.new.Reads as new-reads
use Rattle.evidence.proofs.MethylationEvidence.counted.Kinds as counted
use Rattle.evidence.proofs.MethylationEvidence.counted.Reads as counted-reads
use Rattle.evidence.proofs.MethylationEvidence.gated.Kinds as gated
use Rattle.evidence.proofs.MethylationEvidence.gated.Reads as gated-reads
use Rattle.evidence.proofs.gate_row.Kinds as row
use Rattle.evidence.proofs.gate_row.Reads as row-reads

pub new_cited : Gives 0 new.ps new.r new-reads.Post (λ κs a r e. StartsEvidence a.0 r)
new_cited κs a r e p = p

pub counted_cited : Gives 0 counted.ps counted.r counted-reads.Post (λ κs a r e. CountsBase a.0 a.1.0 a.1.1.0 r)
counted_cited κs a r e p = p

pub gated_cited : Gives 0 gated.ps gated.r gated-reads.Post (λ κs a r e. GatesPosition a.0 r)
gated_cited κs a r e p = p

pub gate_row_cited : Gives 1 row.ps row.r row-reads.Post (λ κs a r e. GatesRow a.0.now r e.0.now)
gate_row_cited κs a r e p = p
