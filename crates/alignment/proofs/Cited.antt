-- The contract that the kit makes of a public call's `ensures` gives the call's proposition of specs/PublicContracts. Theorems start from that proposition.
-- Assumes nothing.
use Rattle.lent.proofs.Cited.{Gives}
use Rattle.alignment.specs.PublicContracts.{FindsPlaces, TellsCpg, FetchesBases}
use Rattle.alignment.proofs.query_to_ref_positions.Kinds as query
use Rattle.alignment.proofs.query_to_ref_positions.Reads as query-reads
use Rattle.alignment.proofs.is_cpg_context.Kinds as cpg
use Rattle.alignment.proofs.is_cpg_context.Reads as cpg-reads
use Rattle.alignment.proofs.fetch_ref_bases_at_positions.Kinds as fetch
use Rattle.alignment.proofs.fetch_ref_bases_at_positions.Reads as fetch-reads

pub query_to_ref_positions_cited : Gives 2 query.ps query.r query-reads.Post
    (λ κs a r e. FindsPlaces a.0.now a.1.0 a.1.1.0 a.1.1.1.0.now r e.1.1.1.0.now)
query_to_ref_positions_cited κs a r e p = p

pub is_cpg_context_cited : Gives 1 cpg.ps cpg.r cpg-reads.Post (λ κs a r e. TellsCpg a.0.now a.1.0 a.1.1.0 r)
is_cpg_context_cited κs a r e p = p

pub fetch_ref_bases_at_positions_cited : Gives 3 fetch.ps fetch.r fetch-reads.Post
    (λ κs a r e. FetchesBases a.0.now a.1.0.now a.1.1.0.now r e.1.1.0.now)
fetch_ref_bases_at_positions_cited κs a r e p = p
