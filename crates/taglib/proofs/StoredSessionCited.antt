-- The contract that the kit makes of each export's `ensures` is the proposition of specs/StoredSessionContracts.
-- Assumes nothing.
use Rattle.samtags.specs.Session.{cut, drop_calls, mask}
use Rattle.lent.proofs.Cited.{Gives}
use Rattle.taglib.specs.StoredSessionContracts.{OpensStoredInC, StepsStoredInC}
use Rattle.taglib.proofs.stored_sessions.aql_stored_open.Kinds as stored-open
use Rattle.taglib.proofs.stored_sessions.aql_stored_open.Reads as stored-open-reads
use Rattle.taglib.proofs.stored_sessions.aql_stored_mask.Kinds as stored-mask
use Rattle.taglib.proofs.stored_sessions.aql_stored_mask.Reads as stored-mask-reads
use Rattle.taglib.proofs.stored_sessions.aql_stored_drop_calls.Kinds as stored-drop-calls
use Rattle.taglib.proofs.stored_sessions.aql_stored_drop_calls.Reads as stored-drop-calls-reads
use Rattle.taglib.proofs.stored_sessions.aql_stored_cut.Kinds as stored_cut
use Rattle.taglib.proofs.stored_sessions.aql_stored_cut.Reads as stored-cut-reads

pub aql_stored_open_cited : Gives 6 stored-open.ps stored-open.r stored-open-reads.Post (λ κs a r e.
    OpensStoredInC a.0.now a.1.0 a.1.1.0.now a.1.1.1.0.now a.1.1.1.1.0 a.1.1.1.1.1.0.now a.1.1.1.1.1.1.0.now a.1.1.1.1.1.1.1.0.now r e.1.1.1.1.1.1.0.now e.1.1.1.1.1.1.1.0.now)
aql_stored_open_cited κs a r e p = p

pub aql_stored_mask_cited : Gives 5 stored-mask.ps stored-mask.r stored-mask-reads.Post (λ κs a r e.
    StepsStoredInC (mask a.1.1.1.1.1.1.0.now) a.0.now a.1.0 a.1.1.0.now a.1.1.1.0.now a.1.1.1.1.0 a.1.1.1.1.1.0.now r e.0.now e.1.1.0.now e.1.1.1.0.now e.1.1.1.1.1.0.now)
aql_stored_mask_cited κs a r e p = p

pub aql_stored_drop_calls_cited : Gives 5 stored-drop-calls.ps stored-drop-calls.r stored-drop-calls-reads.Post (λ κs a r e.
    StepsStoredInC (drop_calls a.1.1.1.1.1.1.0.now) a.0.now a.1.0 a.1.1.0.now a.1.1.1.0.now a.1.1.1.1.0 a.1.1.1.1.1.0.now r e.0.now e.1.1.0.now e.1.1.1.0.now e.1.1.1.1.1.0.now)
aql_stored_drop_calls_cited κs a r e p = p

pub aql_stored_cut_cited : Gives 4 stored_cut.ps stored_cut.r stored-cut-reads.Post (λ κs a r e.
    StepsStoredInC (cut a.1.1.1.1.1.1.0 a.1.1.1.1.1.1.1.0) a.0.now a.1.0 a.1.1.0.now a.1.1.1.0.now a.1.1.1.1.0 a.1.1.1.1.1.0.now r e.0.now e.1.1.0.now e.1.1.1.0.now e.1.1.1.1.1.0.now)
aql_stored_cut_cited κs a r e p = p
