-- The contract that the kit makes of each export's `ensures` is the proposition of specs/StoredReadingContracts.
-- Assumes nothing.
use Rattle.lent.proofs.Cited.{Gives}
use Rattle.taglib.specs.StoredReadingContracts.{ChecksStoredInC, ReadsStoredInC, TalliesStoredInC, TurnsInC, UnpacksInC}
use Rattle.taglib.proofs.stored_reading.aql_turn.Kinds as turn
use Rattle.taglib.proofs.stored_reading.aql_turn.Reads as turn-reads
use Rattle.taglib.proofs.stored_reading.aql_unpack.Kinds as unpack
use Rattle.taglib.proofs.stored_reading.aql_unpack.Reads as unpack-reads
use Rattle.taglib.proofs.stored_reading.aql_stored_check_tag.Kinds as stored-check-tag
use Rattle.taglib.proofs.stored_reading.aql_stored_check_tag.Reads as stored-check-tag-reads
use Rattle.taglib.proofs.stored_reading.aql_stored_read_calls.Kinds as stored-read-calls
use Rattle.taglib.proofs.stored_reading.aql_stored_read_calls.Reads as stored-read-calls-reads
use Rattle.taglib.proofs.stored_reading.aql_stored_tally.Kinds as stored-tally
use Rattle.taglib.proofs.stored_reading.aql_stored_tally.Reads as stored-tally-reads

pub aql_turn_cited : Gives 3 turn.ps turn.r turn-reads.Post (λ κs a r e.
    TurnsInC a.0.now a.1.0 a.1.1.0.now a.1.1.1.0.now r e.1.1.0.now e.1.1.1.0.now)
aql_turn_cited κs a r e p = p

pub aql_unpack_cited : Gives 3 unpack.ps unpack.r unpack-reads.Post (λ κs a r e.
    UnpacksInC a.0.now a.1.0 a.1.1.0 a.1.1.1.0.now a.1.1.1.1.0.now r e.1.1.1.0.now e.1.1.1.1.0.now)
aql_unpack_cited κs a r e p = p

pub aql_stored_check_tag_cited : Gives 5 stored-check-tag.ps stored-check-tag.r stored-check-tag-reads.Post (λ κs a r e.
    ChecksStoredInC a.0.now a.1.0 a.1.1.0 a.1.1.1.0.now a.1.1.1.1.0.now a.1.1.1.1.1.0 a.1.1.1.1.1.1.0.now a.1.1.1.1.1.1.1.0.now r e.1.1.1.1.1.1.0.now e.1.1.1.1.1.1.1.0.now)
aql_stored_check_tag_cited κs a r e p = p

pub aql_stored_read_calls_cited : Gives 8 stored-read-calls.ps stored-read-calls.r stored-read-calls-reads.Post (λ κs a r e.
    ReadsStoredInC a.0.now a.1.0 a.1.1.0 a.1.1.1.0.now a.1.1.1.1.0.now a.1.1.1.1.1.0 a.1.1.1.1.1.1.0.now a.1.1.1.1.1.1.1.0.now a.1.1.1.1.1.1.1.1.0.now a.1.1.1.1.1.1.1.1.1.0.now a.1.1.1.1.1.1.1.1.1.1.0.now r e.1.1.1.1.1.1.0.now e.1.1.1.1.1.1.1.0.now e.1.1.1.1.1.1.1.1.0.now e.1.1.1.1.1.1.1.1.1.0.now e.1.1.1.1.1.1.1.1.1.1.0.now)
aql_stored_read_calls_cited κs a r e p = p

pub aql_stored_tally_cited : Gives 5 stored-tally.ps stored-tally.r stored-tally-reads.Post (λ κs a r e.
    TalliesStoredInC a.0.now a.1.0 a.1.1.0 a.1.1.1.0.now a.1.1.1.1.0.now a.1.1.1.1.1.0.now a.1.1.1.1.1.1.0.now r e.1.1.1.1.1.0.now e.1.1.1.1.1.1.0.now)
aql_stored_tally_cited κs a r e p = p
