-- `aql_pattern_bases`: the three bases of a pattern, for C.
-- Assumes nothing.
use mathlib.Core.Path.{◌≡◌, ◌∙◌, ap}
use Rattle.pattern.specs.Patterns.{bases_of, pattern_of}
use Rattle.taglib.proofs.patterns.aql_pattern_bases.Reads as reads
use Rattle.taglib.proofs.patterns.aql_pattern_bases.Lts as lts
use Rattle.pattern.proofs.ConversionPattern.bases.Reads as bases-reads
use Rattle.pattern.proofs.ConversionPattern.from_read_flags.Reads as from-read-flags-reads
use Rattle.taglib.proofs.patterns.aql_pattern_bases.Goals as goal

pub returns : goal.returns
returns c =
    let e : c.bases-bases.result ≡ bases_of (pattern_of c.args.read_flags) =
    c.bases-bases.ensures ∙ ap bases_of c.from_read_flags.ensures in
    (ap (λ b. b.reference) e, ap (λ b. b.unconverted) e, ap (λ b. b.converted) e)
