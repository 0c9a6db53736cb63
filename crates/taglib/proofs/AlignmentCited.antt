-- The contract that the kit makes of each export's `ensures` is the proposition of specs/AlignmentContracts.
-- Assumes nothing.
use Rattle.lent.proofs.Cited.{Gives}
use Rattle.taglib.specs.AlignmentContracts.{FindsPlacesInC, TellsCpgInC, FetchesBasesInC}
use Rattle.taglib.proofs.alignments.aql_query_to_ref_positions.Kinds as query-to-ref-positions
use Rattle.taglib.proofs.alignments.aql_query_to_ref_positions.Reads as query-to-ref-positions-reads
use Rattle.taglib.proofs.alignments.aql_is_cpg_context.Kinds as is-cpg-context
use Rattle.taglib.proofs.alignments.aql_is_cpg_context.Reads as is-cpg-context-reads
use Rattle.taglib.proofs.alignments.aql_fetch_ref_bases_at_positions.Kinds as fetch-ref-bases-at-positions
use Rattle.taglib.proofs.alignments.aql_fetch_ref_bases_at_positions.Reads as fetch-ref-bases-at-positions-reads

pub aql_query_to_ref_positions_cited : Gives 3 query-to-ref-positions.ps query-to-ref-positions.r query-to-ref-positions-reads.Post (λ κs a r e.
    FindsPlacesInC a.0.now a.1.0 a.1.1.0 a.1.1.1.0.now a.1.1.1.1.0.now r e.1.1.1.0.now
    e.1.1.1.1.0.now)
aql_query_to_ref_positions_cited κs a r e p = p

pub aql_is_cpg_context_cited : Gives 1 is-cpg-context.ps is-cpg-context.r is-cpg-context-reads.Post (λ κs a r e.
    TellsCpgInC a.0.now a.1.0 a.1.1.0 r)
aql_is_cpg_context_cited κs a r e p = p

pub aql_fetch_ref_bases_at_positions_cited :
    Gives 4 fetch-ref-bases-at-positions.ps fetch-ref-bases-at-positions.r fetch-ref-bases-at-positions-reads.Post (λ κs a r e.
    FetchesBasesInC a.0.now a.1.0.now a.1.1.0.now a.1.1.1.0.now r e.1.1.0.now e.1.1.1.0.now)
aql_fetch_ref_bases_at_positions_cited κs a r e p = p
