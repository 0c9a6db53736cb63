-- The contract that the kit makes of each export's `ensures` is the proposition of specs/ReadingContracts.
-- Assumes nothing.
use Rattle.lent.proofs.Cited.{Gives}
use Rattle.taglib.specs.ReadingContracts.{ChecksTagInC, ReadsCallsInC, TalliesInC}
use Rattle.taglib.proofs.reading_tags.aql_check_tag.Kinds as check-tag
use Rattle.taglib.proofs.reading_tags.aql_check_tag.Reads as check-tag-reads
use Rattle.taglib.proofs.reading_tags.aql_read_calls.Kinds as read-calls
use Rattle.taglib.proofs.reading_tags.aql_read_calls.Reads as read-calls-reads
use Rattle.taglib.proofs.reading_tags.aql_tally.Kinds as tally
use Rattle.taglib.proofs.reading_tags.aql_tally.Reads as tally-reads

pub aql_check_tag_cited : Gives 5 check-tag.ps check-tag.r check-tag-reads.Post (λ κs a r e.
    ChecksTagInC a.0.now a.1.0.now a.1.1.0.now a.1.1.1.0 a.1.1.1.1.0.now a.1.1.1.1.1.0.now r
    e.1.1.1.1.0.now e.1.1.1.1.1.0.now)
aql_check_tag_cited κs a r e p = p

pub aql_read_calls_cited : Gives 8 read-calls.ps read-calls.r read-calls-reads.Post (λ κs a r e.
    ReadsCallsInC a.0.now a.1.0.now a.1.1.0.now a.1.1.1.0 a.1.1.1.1.0.now a.1.1.1.1.1.0.now
    a.1.1.1.1.1.1.0.now a.1.1.1.1.1.1.1.0.now a.1.1.1.1.1.1.1.1.0.now r e.1.1.1.1.0.now
    e.1.1.1.1.1.0.now e.1.1.1.1.1.1.0.now e.1.1.1.1.1.1.1.0.now e.1.1.1.1.1.1.1.1.0.now)
aql_read_calls_cited κs a r e p = p

pub aql_tally_cited : Gives 5 tally.ps tally.r tally-reads.Post (λ κs a r e.
    TalliesInC a.0.now a.1.0.now a.1.1.0.now a.1.1.1.0.now a.1.1.1.1.0.now r e.1.1.1.0.now
    e.1.1.1.1.0.now)
aql_tally_cited κs a r e p = p
