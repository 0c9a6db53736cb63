-- `aql_unconverted_counts`: the counts of the `cu` tag, for C.
-- Assumes nothing.
use mathlib.Core.Path.{◌∙◌, ap}
use Rattle.lent.specs.Outcome.{number_of}
use Rattle.telling.specs.Told.{told}
use Rattle.taglib.proofs.evidences.aql_unconverted_counts.Reads as reads
use Rattle.taglib.proofs.evidences.aql_unconverted_counts.Lts as lts
use Rattle.annotation.proofs.unconverted_counts.Reads as unconverted-counts-reads
use Rattle.telling.proofs.written.Reads as written-reads
use Rattle.taglib.proofs.evidences.aql_unconverted_counts.Goals as goal

pub returns : goal.returns
returns c =
    let was = c.args.n.now in (
      c.written.ensures.0 ∙ ap number_of c.unconverted_counts-answer.ensures.0,
      c.written.ensures.1 ∙ ap (λ o. told (λ m. m) o was) c.unconverted_counts-answer.ensures.0,
      c.unconverted_counts-answer.ensures.1,
    )
