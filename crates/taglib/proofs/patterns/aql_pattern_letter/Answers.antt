-- `aql_pattern_letter`: the letter of a group, for C.
-- Assumes nothing.
use mathlib.Core.Path.{◌∙◌, ap}
use Rattle.pattern.specs.Patterns.{letter_of}
use Rattle.taglib.proofs.patterns.aql_pattern_letter.Reads as reads
use Rattle.taglib.proofs.patterns.aql_pattern_letter.Lts as lts
use Rattle.pattern.proofs.ConversionPattern.from_read_flags.Reads as from-read-flags-reads
use Rattle.pattern.proofs.ConversionPattern.letter.Reads as letter-reads
use Rattle.taglib.proofs.patterns.aql_pattern_letter.Goals as goal

pub returns : goal.returns
returns c = c.letter.ensures ∙ ap letter_of c.from_read_flags.ensures
