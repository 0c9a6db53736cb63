-- `gated` returns the evidence unchanged if the position is informative, and evidence without counts otherwise.
-- Assumes nothing.
use mathlib.Core.Path.{◌≡◌}
use mathlib.Core.Bool.{true}
use Rattle.evidence.proofs.MethylationEvidence.gated.Goals as goal

pub returns-then-self : goal.returns-then-self
returns-then-self c = let yes : c.args.self.informative ≡ true = c.if-self.true in rw yes

pub returns : goal.returns
returns c = rw (c.new.ensures, c.if-self.false)
