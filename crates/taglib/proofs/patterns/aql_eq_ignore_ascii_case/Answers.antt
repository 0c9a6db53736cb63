-- `aql_eq_ignore_ascii_case`: equality that ignores case, for C.
-- Assumes nothing.
use Rattle.taglib.proofs.Yes.{yes_told}
use Rattle.taglib.proofs.patterns.aql_eq_ignore_ascii_case.Reads as reads
use Rattle.taglib.proofs.patterns.aql_eq_ignore_ascii_case.Lts as lts
use Rattle.pattern.proofs.eq_ignore_ascii_case.Reads as eq-ignore-ascii-case-reads
use Rattle.taglib.proofs.patterns.aql_eq_ignore_ascii_case.Goals as goal

pub returns : goal.returns
returns c = yes_told c.eq_ignore_ascii_case.ensures
