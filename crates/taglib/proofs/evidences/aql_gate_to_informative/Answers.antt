-- `aql_gate_to_informative`: gating columns, for C.
-- Assumes nothing.
use mathlib.Core.Path.{◌∙◌, ap}
use Rattle.lent.specs.Outcome.{number_of}
use Rattle.telling.specs.Told.{told}
use Rattle.taglib.proofs.evidences.aql_gate_to_informative.Reads as reads
use Rattle.taglib.proofs.evidences.aql_gate_to_informative.Lts as lts
use Rattle.annotation.proofs.gate_to_informative.Reads as gate-to-informative-reads
use Rattle.telling.proofs.written.Reads as written-reads
use Rattle.taglib.proofs.evidences.aql_gate_to_informative.Goals as goal

pub returns : goal.returns
returns c =
    let was = c.args.n.now in (
      c.written.ensures.0 ∙ ap number_of c.gate_to_informative-answer.ensures.0,
      c.written.ensures.1 ∙ ap (λ o. told (λ m. m) o was) c.gate_to_informative-answer.ensures.0,
      c.gate_to_informative-answer.ensures.1,
      c.gate_to_informative-answer.ensures.2,
    )
