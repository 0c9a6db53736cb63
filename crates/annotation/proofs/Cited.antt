-- The contract that the kit makes of a public call's `ensures` gives the call's proposition of specs/PublicContracts. Theorems start from that proposition.
-- Assumes nothing.
use Rattle.lent.proofs.Cited.{Gives}
use Rattle.annotation.specs.PublicContracts.{Annotates, Gates, Truncates, GivesCounts, Restores}
use Rattle.annotation.proofs.annotate_simplex_methylation.Kinds as annotate
use Rattle.annotation.proofs.annotate_simplex_methylation.Reads as annotate-reads
use Rattle.annotation.proofs.gate_to_informative.Kinds as gate
use Rattle.annotation.proofs.gate_to_informative.Reads as gate-reads
use Rattle.annotation.proofs.truncate.Kinds as cut
use Rattle.annotation.proofs.truncate.Reads as cut_reads
use Rattle.annotation.proofs.unconverted_counts.Kinds as unconverted
use Rattle.annotation.proofs.unconverted_counts.Reads as unconverted-reads
use Rattle.annotation.proofs.converted_counts.Kinds as converted
use Rattle.annotation.proofs.converted_counts.Reads as converted-reads
use Rattle.annotation.proofs.restore_unconverted_bases.Kinds as restore
use Rattle.annotation.proofs.restore_unconverted_bases.Reads as restore-reads

pub annotate_simplex_methylation_cited : Gives 7 annotate.ps annotate.r annotate-reads.Post
    (λ κs a r e. Annotates a.0 a.1.0.now a.1.1.0.now a.1.1.1.0.now a.1.1.1.1.0 a.1.1.1.1.1.0.now
    a.1.1.1.1.1.1.0 a.1.1.1.1.1.1.1.0.now a.1.1.1.1.1.1.1.1.0.now a.1.1.1.1.1.1.1.1.1.0.now
    r e.1.1.1.1.1.1.1.0.now e.1.1.1.1.1.1.1.1.0.now e.1.1.1.1.1.1.1.1.1.0.now)
annotate_simplex_methylation_cited κs a r e p = p

pub gate_to_informative_cited : Gives 3 gate.ps gate.r gate-reads.Post
    (λ κs a r e. Gates a.0.now a.1.0.now a.1.1.0.now r e.1.0.now e.1.1.0.now)
gate_to_informative_cited κs a r e p = p

pub truncate_cited : Gives 6 cut.ps cut.r cut_reads.Post
    (λ κs a r e. Truncates a.0 a.1.0.now a.1.1.0.now a.1.1.1.0.now a.1.1.1.1.0.now a.1.1.1.1.1.0.now
    a.1.1.1.1.1.1.0.now r e.1.1.1.1.0.now e.1.1.1.1.1.0.now e.1.1.1.1.1.1.0.now)
truncate_cited κs a r e p = p

pub unconverted_counts_cited : Gives 4 unconverted.ps unconverted.r unconverted-reads.Post
    (λ κs a r e. GivesCounts a.1.0.now a.0.now a.1.0.now a.1.1.0.now a.1.1.1.0.now r e.1.1.1.0.now)
unconverted_counts_cited κs a r e p = p

pub converted_counts_cited : Gives 4 converted.ps converted.r converted-reads.Post
    (λ κs a r e. GivesCounts a.1.1.0.now a.0.now a.1.0.now a.1.1.0.now a.1.1.1.0.now r e.1.1.1.0.now)
converted_counts_cited κs a r e p = p

pub restore_unconverted_bases_cited : Gives 2 restore.ps restore.r restore-reads.Post
    (λ κs a r e. Restores a.0.now a.1.0 a.1.1.0.now r e.0.now)
restore_unconverted_bases_cited κs a r e p = p
