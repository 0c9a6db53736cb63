-- The contract that the kit makes of each export's `ensures` is the proposition of specs/DuplexContracts.
-- Assumes nothing.
use Rattle.duplex.specs.PublicContracts.{eleven_rows}
use Rattle.lent.proofs.Cited.{Gives}
use Rattle.taglib.specs.DuplexContracts.{DuplexesInC, strand_in_c}
use Rattle.taglib.proofs.duplexes.aql_duplex_methylation_tags.Kinds as duplex-methylation-tags
use Rattle.taglib.proofs.duplexes.aql_duplex_methylation_tags.Reads as duplex-methylation-tags-reads

-- the two strands' arguments, and the rows, each from its first on
pub aql_duplex_methylation_tags_cited : Gives 19 duplex-methylation-tags.ps duplex-methylation-tags.r duplex-methylation-tags-reads.Post (λ κs a r e.
    let first = a.1.1.1 in
    let second = first.1.1.1.1 in
    let lent = second.1.1.1.1 in
    let left = e.1.1.1.1.1.1.1.1.1.1.1 in
    DuplexesInC a.0.now a.1.0 a.1.1.0
    (strand_in_c first.0 first.1.0.now first.1.1.0.now first.1.1.1.0.now)
    (strand_in_c second.0 second.1.0.now second.1.1.0.now second.1.1.1.0.now)
    (eleven_rows lent.0.now lent.1.0.now lent.1.1.0.now lent.1.1.1.0.now lent.1.1.1.1.0.now
    lent.1.1.1.1.1.0.now lent.1.1.1.1.1.1.0.now lent.1.1.1.1.1.1.1.0.now
    lent.1.1.1.1.1.1.1.1.0.now lent.1.1.1.1.1.1.1.1.1.0.now
    lent.1.1.1.1.1.1.1.1.1.1.0.now)
    lent.1.1.1.1.1.1.1.1.1.1.1.0.now r
    (eleven_rows left.0.now left.1.0.now left.1.1.0.now left.1.1.1.0.now left.1.1.1.1.0.now
    left.1.1.1.1.1.0.now left.1.1.1.1.1.1.0.now left.1.1.1.1.1.1.1.0.now
    left.1.1.1.1.1.1.1.1.0.now left.1.1.1.1.1.1.1.1.1.0.now
    left.1.1.1.1.1.1.1.1.1.1.0.now)
    left.1.1.1.1.1.1.1.1.1.1.1.0.now)
aql_duplex_methylation_tags_cited κs a r e p = p
