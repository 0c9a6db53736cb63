-- The contract that the kit makes of a public call's `ensures` gives the call's proposition of specs/PublicContracts. Theorems start from that proposition.
-- Assumes nothing.
use Rattle.lent.proofs.Cited.{Gives}
use Rattle.reading.specs.PublicContracts.{ChecksTag, ReadsCalls, Tallies}
use Rattle.reading.proofs.check_tag.Kinds as check-tag
use Rattle.reading.proofs.check_tag.Reads as check-tag-reads
use Rattle.reading.proofs.read_calls.Kinds as read-calls
use Rattle.reading.proofs.read_calls.Reads as read-calls-reads
use Rattle.reading.proofs.tally.Kinds as tally
use Rattle.reading.proofs.tally.Reads as tally-reads

pub check_tag_cited :
    Gives 3 check-tag.ps check-tag.r check-tag-reads.Post (λ κs a r e.
    ChecksTag a.1.1.1.0 a.0.now a.1.0.now a.1.1.0.now r)
check_tag_cited κs a r e p = p

pub read_calls_cited :
    Gives 6 read-calls.ps read-calls.r read-calls-reads.Post (λ κs a r e.
    ReadsCalls
    a.1.1.1.0
    a.0.now
    a.1.0.now
    a.1.1.0.now
    a.1.1.1.1.0.now
    a.1.1.1.1.1.0.now
    a.1.1.1.1.1.1.0.now
    r
    e.1.1.1.1.0.now
    e.1.1.1.1.1.0.now
    e.1.1.1.1.1.1.0.now)
read_calls_cited κs a r e p = p

pub tally_cited :
    Gives 3 tally.ps tally.r tally-reads.Post (λ κs a r e.
    Tallies a.0.now a.1.0.now a.1.1.0.now r)
tally_cited κs a r e p = p
