-- `aql_session_drop_calls` takes the lengths from the array, writes the new ones back, and hands on the answer. SEQ is only read.
-- Assumes nothing.
use Rattle.samtags.specs.Session.{drop_calls}
use Rattle.telling.specs.Told.{yes}
use Rattle.telling_steps.proofs.HandedSteps.{step_handed}
use Rattle.taglib.proofs.sessions.aql_session_drop_calls.Reads as reads
use Rattle.taglib.proofs.sessions.aql_session_drop_calls.Lts as lts
use Rattle.session.proofs.drop_calls.Reads as drop-calls-reads
use Rattle.telling_steps.proofs.lengths_in.Reads as lengths-in-reads
use Rattle.telling_steps.proofs.stepped.Reads as stepped-reads
use Rattle.taglib.proofs.sessions.aql_session_drop_calls.Goals as goal

pub returns : goal.returns
returns c =
    step_handed (yes c.args.has_ml) (drop_calls c.args.places.now) c.args.seq.now c.args.mm.now c.args.ml.now c.args.lengths.now
    c.lengths_in-held.ensures c.drop_calls-answer.ensures c.stepped.ensures
