-- `aql_pattern_from_read_flags`: the number of a pattern, for C.
-- Assumes nothing.
use mathlib.Core.Path.{◌∙◌, ap, sym}
use Rattle.taglib.specs.Patterns.{pattern_number}
use Rattle.taglib.proofs.patterns.aql_pattern_from_read_flags.Reads as reads
use Rattle.taglib.proofs.patterns.aql_pattern_from_read_flags.Lts as lts
use Rattle.pattern.proofs.ConversionPattern.from_read_flags.Reads as from-read-flags-reads
use Rattle.taglib.proofs.patterns.aql_pattern_from_read_flags.Goals as goal

pub returns-in-CToT : goal.returns-in-CToT
returns-in-CToT c = ap pattern_number (sym c.in-CToT.is ∙ c.from_read_flags.ensures)

pub returns-in-GToA : goal.returns-in-GToA
returns-in-GToA c = ap pattern_number (sym c.in-GToA.is ∙ c.from_read_flags.ensures)
