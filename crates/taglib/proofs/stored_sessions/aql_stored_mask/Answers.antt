-- `aql_stored_mask` takes the lengths from the array, writes the new ones back, and hands on the answer.
-- Assumes nothing.
use Rattle.samtags.specs.Session.{mask}
use Rattle.telling.specs.Told.{yes}
use Rattle.taglib.proofs.HandedStored.{stored_step_handed}
use Rattle.taglib.proofs.stored_sessions.aql_stored_mask.Goals as goal

pub returns : goal.returns
returns c =
    stored_step_handed (yes c.args.reverse) (yes c.args.has_ml) (mask c.args.places.now) c.args.packed.now c.args.mm.now c.args.ml.now c.args.lengths.now
    c.lengths_in-held.ensures c.mask-answer.ensures c.stepped.ensures
