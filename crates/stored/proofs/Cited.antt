-- The contract that the kit makes of a public call's `ensures` gives the call's proposition of specs/PublicContracts. Theorems start from that proposition.
-- Assumes nothing.
use Rattle.lent.proofs.Cited.{Gives}
use Rattle.stored.specs.PublicContracts.{ChecksStored, ReadsStored, TalliesStored, Turns, Unpacks}
use Rattle.stored.proofs.check_tag.Kinds as check-tag
use Rattle.stored.proofs.check_tag.Reads as check-tag-reads
use Rattle.stored.proofs.read_calls.Kinds as read-calls
use Rattle.stored.proofs.read_calls.Reads as read-calls-reads
use Rattle.stored.proofs.tally.Kinds as tally
use Rattle.stored.proofs.tally.Reads as tally-reads
use Rattle.stored.proofs.turn.Kinds as turn
use Rattle.stored.proofs.turn.Reads as turn-reads
use Rattle.stored.proofs.unpack.Kinds as unpack
use Rattle.stored.proofs.unpack.Reads as unpack-reads

-- The arguments `a` and the arguments at exit `e` are nested pairs: packed, bases, and then what the call takes, in its order.
pub turn_cited : Gives 2 turn.ps turn.r turn-reads.Post (λ κs a r e.
    Turns a.1.0 a.0.now a.1.1.0.now r e.1.1.0.now)
turn_cited κs a r e p = p

pub unpack_cited : Gives 2 unpack.ps unpack.r unpack-reads.Post (λ κs a r e.
    Unpacks a.1.1.0 a.1.0 a.0.now a.1.1.1.0.now r e.1.1.1.0.now)
unpack_cited κs a r e p = p

pub check_tag_cited : Gives 3 check-tag.ps check-tag.r check-tag-reads.Post (λ κs a r e.
    let tag = a.1.1.1 in
    ChecksStored a.1.1.0 tag.1.1.0 a.1.0 a.0.now tag.0.now tag.1.0.now r)
check_tag_cited κs a r e p = p

pub read_calls_cited : Gives 6 read-calls.ps read-calls.r read-calls-reads.Post (λ κs a r e.
    let tag = a.1.1.1 in
    let lent = tag.1.1.1 in
    let left = e.1.1.1.1.1.1 in
    ReadsStored a.1.1.0 tag.1.1.0 a.1.0 a.0.now tag.0.now tag.1.0.now
    lent.0.now lent.1.0.now lent.1.1.0.now r left.0.now left.1.0.now left.1.1.0.now)
read_calls_cited κs a r e p = p

pub tally_cited : Gives 3 tally.ps tally.r tally-reads.Post (λ κs a r e.
    let tag = a.1.1.1 in
    TalliesStored a.1.1.0 a.1.0 a.0.now tag.0.now tag.1.0.now r)
tally_cited κs a r e p = p
