-- `aql_session_cut` takes the lengths from the array, writes the new ones back, and hands on the answer.
-- Assumes nothing.
use Rattle.samtags.specs.Session.{cut}
use Rattle.telling.specs.Told.{yes}
use Rattle.telling_steps.proofs.HandedSteps.{step_handed}
use Rattle.taglib.proofs.sessions.aql_session_cut.Reads as reads
use Rattle.taglib.proofs.sessions.aql_session_cut.Lts as lts
use Rattle.session.proofs.cut.Reads as cut_reads
use Rattle.telling_steps.proofs.lengths_in.Reads as lengths-in-reads
use Rattle.telling_steps.proofs.stepped.Reads as stepped-reads
use Rattle.taglib.proofs.sessions.aql_session_cut.Goals as goal

pub returns : goal.returns
returns c =
    step_handed (yes c.args.has_ml) (cut c.args.front c.args.back) c.args.seq.now c.args.mm.now c.args.ml.now c.args.lengths.now
    c.lengths_in-held.ensures c.cut-answer.ensures c.stepped.ensures
