-- `aql_pattern_sign`: the sign of a group, for C.
-- Assumes nothing.
use mathlib.Core.Path.{◌∙◌, ap}
use Rattle.pattern.specs.Patterns.{sign_of}
use Rattle.taglib.proofs.patterns.aql_pattern_sign.Reads as reads
use Rattle.taglib.proofs.patterns.aql_pattern_sign.Lts as lts
use Rattle.pattern.proofs.ConversionPattern.from_read_flags.Reads as from-read-flags-reads
use Rattle.pattern.proofs.ConversionPattern.sign.Reads as sign_reads
use Rattle.taglib.proofs.patterns.aql_pattern_sign.Goals as goal

pub returns : goal.returns
returns c = c.sign.ensures ∙ ap sign_of c.from_read_flags.ensures
