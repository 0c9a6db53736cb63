-- `aql_annotate_simplex_methylation`: marks and counts of a consensus, for C.
-- Assumes nothing.
use mathlib.Core.Path.{◌∙◌, ap}
use Rattle.lent.specs.Outcome.{number_of}
use Rattle.telling.specs.Told.{told}
use Rattle.taglib.proofs.evidences.aql_annotate_simplex_methylation.Reads as reads
use Rattle.taglib.proofs.evidences.aql_annotate_simplex_methylation.Lts as lts
use Rattle.annotation.proofs.annotate_simplex_methylation.Reads as annotate-simplex-methylation-reads
use Rattle.pattern.proofs.ConversionPattern.from_read_flags.Reads as from-read-flags-reads
use Rattle.telling.proofs.written.Reads as written-reads
use Rattle.taglib.proofs.evidences.aql_annotate_simplex_methylation.Goals as goal

pub returns : goal.returns
returns c =
    let was = c.args.n.now in
    let made = rw c.from_read_flags.ensures at c.annotate_simplex_methylation-answer.ensures in (
      c.written.ensures.0 ∙ ap number_of made.0,
      c.written.ensures.1 ∙ ap (λ o. told (λ m. m) o was) made.0,
      made.1,
      made.2,
      made.3,
    )
