-- `aql_session_open` takes the lengths from the array, and hands on the answer.
-- Assumes nothing.
use Rattle.telling.specs.Told.{yes}
use Rattle.telling_steps.proofs.HandedSteps.{open_handed}
use Rattle.taglib.proofs.sessions.aql_session_open.Reads as reads
use Rattle.taglib.proofs.sessions.aql_session_open.Lts as lts
use Rattle.session.proofs.open.Reads as open-reads
use Rattle.telling.proofs.both.Reads as read-reads
use Rattle.telling_steps.proofs.lengths_in.Reads as lengths-in-reads
use Rattle.taglib.proofs.sessions.aql_session_open.Goals as goal

pub returns : goal.returns
returns c =
    open_handed (yes c.args.has_ml) c.args.seq.now c.args.mm.now c.args.ml.now c.args.lengths.now c.args.groups.now c.args.calls.now
    c.lengths_in-held.ensures c.open-answer.ensures c.both.ensures
