-- The contract that the kit makes of each export's `ensures` is the proposition of specs/EvidenceContracts.
-- Assumes nothing.
use Rattle.lent.proofs.Cited.{Gives}
use Rattle.taglib.specs.EvidenceContracts.{StartsEvidenceInC, CountsBaseInC, GatesPositionInC, AnnotatesInC, GatesInC, TruncatesInC, GivesCountsInC, RestoresInC}
use Rattle.taglib.proofs.evidences.aql_evidence_new.Kinds as evidence-new
use Rattle.taglib.proofs.evidences.aql_evidence_new.Reads as evidence-new-reads
use Rattle.taglib.proofs.evidences.aql_evidence_counted.Kinds as evidence-counted
use Rattle.taglib.proofs.evidences.aql_evidence_counted.Reads as evidence-counted-reads
use Rattle.taglib.proofs.evidences.aql_evidence_gated.Kinds as evidence-gated
use Rattle.taglib.proofs.evidences.aql_evidence_gated.Reads as evidence-gated-reads
use Rattle.taglib.proofs.evidences.aql_annotate_simplex_methylation.Kinds as annotate-simplex-methylation
use Rattle.taglib.proofs.evidences.aql_annotate_simplex_methylation.Reads as annotate-simplex-methylation-reads
use Rattle.taglib.proofs.evidences.aql_gate_to_informative.Kinds as gate-to-informative
use Rattle.taglib.proofs.evidences.aql_gate_to_informative.Reads as gate-to-informative-reads
use Rattle.taglib.proofs.evidences.aql_truncate.Kinds as truncate
use Rattle.taglib.proofs.evidences.aql_truncate.Reads as truncate-reads
use Rattle.taglib.proofs.evidences.aql_unconverted_counts.Kinds as unconverted-counts
use Rattle.taglib.proofs.evidences.aql_unconverted_counts.Reads as unconverted-counts-reads
use Rattle.taglib.proofs.evidences.aql_converted_counts.Kinds as converted-counts
use Rattle.taglib.proofs.evidences.aql_converted_counts.Reads as converted-counts-reads
use Rattle.taglib.proofs.evidences.aql_restore_unconverted_bases.Kinds as restore-unconverted-bases
use Rattle.taglib.proofs.evidences.aql_restore_unconverted_bases.Reads as restore-unconverted-bases-reads

pub aql_evidence_new_cited : Gives 2 evidence-new.ps evidence-new.r evidence-new-reads.Post (λ κs a r e.
    StartsEvidenceInC a.0 r e.1.0.now e.1.1.0.now)
aql_evidence_new_cited κs a r e p = p

pub aql_evidence_counted_cited : Gives 2 evidence-counted.ps evidence-counted.r evidence-counted-reads.Post (λ κs a r e.
    CountsBaseInC a.0 a.1.0 a.1.1.0.now a.1.1.1.0.now e.1.1.0.now e.1.1.1.0.now)
aql_evidence_counted_cited κs a r e p = p

pub aql_evidence_gated_cited : Gives 2 evidence-gated.ps evidence-gated.r evidence-gated-reads.Post (λ κs a r e.
    GatesPositionInC a.0 a.1.0.now a.1.1.0.now e.1.0.now e.1.1.0.now)
aql_evidence_gated_cited κs a r e p = p

pub aql_annotate_simplex_methylation_cited :
    Gives 8 annotate-simplex-methylation.ps annotate-simplex-methylation.r annotate-simplex-methylation-reads.Post (λ κs a r e.
    AnnotatesInC a.0 a.1.0.now a.1.1.0.now a.1.1.1.0.now a.1.1.1.1.0 a.1.1.1.1.1.0.now
    a.1.1.1.1.1.1.0 a.1.1.1.1.1.1.1.0.now a.1.1.1.1.1.1.1.1.0.now a.1.1.1.1.1.1.1.1.1.0.now
    a.1.1.1.1.1.1.1.1.1.1.0.now r e.1.1.1.1.1.1.1.0.now e.1.1.1.1.1.1.1.1.0.now
    e.1.1.1.1.1.1.1.1.1.0.now e.1.1.1.1.1.1.1.1.1.1.0.now)
aql_annotate_simplex_methylation_cited κs a r e p = p

pub aql_gate_to_informative_cited : Gives 4 gate-to-informative.ps gate-to-informative.r gate-to-informative-reads.Post (λ κs a r e.
    GatesInC a.0.now a.1.0.now a.1.1.0.now a.1.1.1.0.now r e.1.0.now e.1.1.0.now e.1.1.1.0.now)
aql_gate_to_informative_cited κs a r e p = p

pub aql_truncate_cited : Gives 7 truncate.ps truncate.r truncate-reads.Post (λ κs a r e.
    TruncatesInC a.0 a.1.0.now a.1.1.0.now a.1.1.1.0.now a.1.1.1.1.0.now a.1.1.1.1.1.0.now
    a.1.1.1.1.1.1.0.now a.1.1.1.1.1.1.1.0.now r e.1.1.1.1.0.now e.1.1.1.1.1.0.now
    e.1.1.1.1.1.1.0.now e.1.1.1.1.1.1.1.0.now)
aql_truncate_cited κs a r e p = p

pub aql_unconverted_counts_cited : Gives 5 unconverted-counts.ps unconverted-counts.r unconverted-counts-reads.Post (λ κs a r e.
    GivesCountsInC a.1.0.now a.0.now a.1.0.now a.1.1.0.now a.1.1.1.0.now a.1.1.1.1.0.now r
    e.1.1.1.0.now e.1.1.1.1.0.now)
aql_unconverted_counts_cited κs a r e p = p

pub aql_converted_counts_cited : Gives 5 converted-counts.ps converted-counts.r converted-counts-reads.Post (λ κs a r e.
    GivesCountsInC a.1.1.0.now a.0.now a.1.0.now a.1.1.0.now a.1.1.1.0.now a.1.1.1.1.0.now r
    e.1.1.1.0.now e.1.1.1.1.0.now)
aql_converted_counts_cited κs a r e p = p

pub aql_restore_unconverted_bases_cited :
    Gives 3 restore-unconverted-bases.ps restore-unconverted-bases.r restore-unconverted-bases-reads.Post (λ κs a r e.
    RestoresInC a.0.now a.1.0 a.1.1.0.now a.1.1.1.0.now r e.0.now e.1.1.1.0.now)
aql_restore_unconverted_bases_cited κs a r e p = p
