-- `aql_evidence_new`: a position where nothing was counted yet, for C.
-- Assumes nothing.
use mathlib.Core.Path.{◌≡◌, ap}
use Rattle.evidence.specs.Position.{fresh}
use Rattle.telling.specs.Told.{yes}
use Rattle.taglib.proofs.Yes.{yes_told}
use Rattle.taglib.proofs.evidences.aql_evidence_new.Reads as reads
use Rattle.taglib.proofs.evidences.aql_evidence_new.Lts as lts
use Rattle.evidence.proofs.MethylationEvidence.new.Reads as new-reads
use Rattle.taglib.proofs.evidences.aql_evidence_new.Goals as goal

pub returns : goal.returns
returns c =
    let e : c.new-e.result ≡ fresh (yes c.args.informative) = c.new-e.ensures in
    (yes_told (ap (λ p. p.informative) e), ap (λ p. p.unconverted) e, ap (λ p. p.converted) e)
