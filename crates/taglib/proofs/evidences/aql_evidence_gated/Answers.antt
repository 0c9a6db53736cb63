-- `aql_evidence_gated`: a position gated, for C.
-- Assumes nothing.
use mathlib.Core.Path.{◌≡◌, ap}
use Rattle.evidence.specs.Position.{gated}
use Rattle.telling.specs.Told.{yes}
use Rattle.taglib.specs.Evidences.{position}
use Rattle.taglib.proofs.evidences.aql_evidence_gated.Reads as reads
use Rattle.taglib.proofs.evidences.aql_evidence_gated.Lts as lts
use Rattle.evidence.proofs.MethylationEvidence.gated.Reads as gated-reads
use Rattle.taglib.proofs.evidences.aql_evidence_gated.Goals as goal

pub returns : goal.returns
returns c =
    let e : c.gated-e.result ≡ gated (position (yes c.args.informative) c.args.unconverted.now c.args.converted.now) = c.gated-e.ensures in
    (ap (λ p. p.unconverted) e, ap (λ p. p.converted) e)
