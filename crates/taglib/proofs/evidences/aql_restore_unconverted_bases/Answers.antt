-- `aql_restore_unconverted_bases`: a consensus restored, for C.
-- Assumes nothing.
use mathlib.Core.Path.{◌∙◌, ap}
use Rattle.lent.specs.Outcome.{number_of}
use Rattle.telling.specs.Told.{told}
use Rattle.taglib.proofs.evidences.aql_restore_unconverted_bases.Reads as reads
use Rattle.taglib.proofs.evidences.aql_restore_unconverted_bases.Lts as lts
use Rattle.annotation.proofs.restore_unconverted_bases.Reads as restore-unconverted-bases-reads
use Rattle.pattern.proofs.ConversionPattern.from_read_flags.Reads as from-read-flags-reads
use Rattle.telling.proofs.written.Reads as written-reads
use Rattle.taglib.proofs.evidences.aql_restore_unconverted_bases.Goals as goal

pub returns : goal.returns
returns c =
    let was = c.args.n.now in
    let made = rw c.from_read_flags-pattern.ensures at c.restore_unconverted_bases-answer.ensures in (
      c.written.ensures.0 ∙ ap number_of made.0,
      c.written.ensures.1 ∙ ap (λ o. told (λ m. m) o was) made.0,
      made.1,
    )
