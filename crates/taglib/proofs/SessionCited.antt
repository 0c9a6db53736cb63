-- The contract that the kit makes of each export's `ensures` is the proposition of specs/SessionContracts.
-- Assumes nothing.
use Rattle.samtags.specs.Session.{cut, drop_calls, mask}
use Rattle.lent.proofs.Cited.{Gives}
use Rattle.taglib.specs.SessionContracts.{OpensInC, StepsInC}
use Rattle.taglib.proofs.sessions.aql_session_open.Kinds as session-open
use Rattle.taglib.proofs.sessions.aql_session_open.Reads as session-open-reads
use Rattle.taglib.proofs.sessions.aql_session_mask.Kinds as session-mask
use Rattle.taglib.proofs.sessions.aql_session_mask.Reads as session-mask-reads
use Rattle.taglib.proofs.sessions.aql_session_drop_calls.Kinds as session-drop-calls
use Rattle.taglib.proofs.sessions.aql_session_drop_calls.Reads as session-drop-calls-reads
use Rattle.taglib.proofs.sessions.aql_session_cut.Kinds as session-cut
use Rattle.taglib.proofs.sessions.aql_session_cut.Reads as session-cut-reads

pub aql_session_open_cited : Gives 6 session-open.ps session-open.r session-open-reads.Post (λ κs a r e.
    OpensInC a.0.now a.1.0.now a.1.1.0.now a.1.1.1.0 a.1.1.1.1.0.now a.1.1.1.1.1.0.now
    a.1.1.1.1.1.1.0.now r e.1.1.1.1.1.0.now e.1.1.1.1.1.1.0.now)
aql_session_open_cited κs a r e p = p

pub aql_session_mask_cited : Gives 5 session-mask.ps session-mask.r session-mask-reads.Post (λ κs a r e.
    StepsInC (mask a.1.1.1.1.1.0.now) a.0.now a.1.0.now a.1.1.0.now a.1.1.1.0 a.1.1.1.1.0.now r
    e.0.now e.1.0.now e.1.1.0.now e.1.1.1.1.0.now)
aql_session_mask_cited κs a r e p = p

pub aql_session_drop_calls_cited : Gives 5 session-drop-calls.ps session-drop-calls.r session-drop-calls-reads.Post (λ κs a r e.
    StepsInC (drop_calls a.1.1.1.1.1.0.now) a.0.now a.1.0.now a.1.1.0.now a.1.1.1.0 a.1.1.1.1.0.now r
    a.0.now e.1.0.now e.1.1.0.now e.1.1.1.1.0.now)
aql_session_drop_calls_cited κs a r e p = p

pub aql_session_cut_cited : Gives 4 session-cut.ps session-cut.r session-cut-reads.Post (λ κs a r e.
    StepsInC (cut a.1.1.1.1.1.0 a.1.1.1.1.1.1.0) a.0.now a.1.0.now a.1.1.0.now a.1.1.1.0
    a.1.1.1.1.0.now r e.0.now e.1.0.now e.1.1.0.now e.1.1.1.1.0.now)
aql_session_cut_cited κs a r e p = p
