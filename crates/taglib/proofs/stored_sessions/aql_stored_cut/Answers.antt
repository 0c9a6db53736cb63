-- `aql_stored_cut` takes the lengths from the array, writes the new ones back, and hands on the answer.
-- Assumes nothing.
use Rattle.samtags.specs.Session.{cut}
use Rattle.telling.specs.Told.{yes}
use Rattle.taglib.proofs.HandedStored.{stored_step_handed}
use Rattle.taglib.proofs.stored_sessions.aql_stored_cut.Goals as goal

pub returns : goal.returns
returns c =
    stored_step_handed (yes c.args.reverse) (yes c.args.has_ml) (cut c.args.front c.args.back) c.args.packed.now c.args.mm.now c.args.ml.now c.args.lengths.now
    c.lengths_in-held.ensures c.cut-answer.ensures c.stepped.ensures
