-- `aql_truncate`: the first positions of columns, for C.
-- Assumes nothing.
use mathlib.Core.Path.{◌∙◌, ap}
use Rattle.lent.specs.Outcome.{number_of}
use Rattle.telling.specs.Told.{told}
use Rattle.taglib.proofs.evidences.aql_truncate.Reads as reads
use Rattle.taglib.proofs.evidences.aql_truncate.Lts as lts
use Rattle.annotation.proofs.truncate.Reads as truncate-reads
use Rattle.telling.proofs.written.Reads as written-reads
use Rattle.taglib.proofs.evidences.aql_truncate.Goals as goal

pub returns : goal.returns
returns c =
    let was = c.args.n.now in (
      c.written.ensures.0 ∙ ap number_of c.truncate-answer.ensures.0,
      c.written.ensures.1 ∙ ap (λ o. told (λ m. m) o was) c.truncate-answer.ensures.0,
      c.truncate-answer.ensures.1,
      c.truncate-answer.ensures.2,
      c.truncate-answer.ensures.3,
    )
