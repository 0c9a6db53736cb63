-- `aql_evidence_counted`: one more base counted, for C.
-- Assumes nothing.
use mathlib.Core.Path.{◌≡◌, ◌∙◌, ap}
use mathlib.Core.Bool.{false}
use Rattle.evidence.specs.Position.{counted}
use Rattle.pattern.specs.Patterns.{pattern_of}
use Rattle.taglib.specs.Evidences.{position}
use Rattle.taglib.proofs.evidences.aql_evidence_counted.Reads as reads
use Rattle.taglib.proofs.evidences.aql_evidence_counted.Lts as lts
use Rattle.evidence.proofs.MethylationEvidence.counted.Reads as counted-reads
use Rattle.pattern.proofs.ConversionPattern.from_read_flags.Reads as from-read-flags-reads
use Rattle.taglib.proofs.evidences.aql_evidence_counted.Goals as goal

pub returns : goal.returns
returns c =
    let was = position false c.args.unconverted.now c.args.converted.now in
    let e : c.counted-e.result ≡ counted was c.args.base (pattern_of c.args.read_flags) =
    c.counted-e.ensures ∙ ap (λ p. counted was c.args.base p) c.from_read_flags.ensures in
    (ap (λ p. p.unconverted) e, ap (λ p. p.converted) e)
