-- `aql_is_cpg_context`: whether a place lies in a CpG, for C.
-- Assumes nothing.
use Rattle.taglib.proofs.Yes.{yes_told}
use Rattle.taglib.proofs.alignments.aql_is_cpg_context.Reads as reads
use Rattle.taglib.proofs.alignments.aql_is_cpg_context.Lts as lts
use Rattle.alignment.proofs.is_cpg_context.Reads as is-cpg-context-reads
use Rattle.taglib.proofs.alignments.aql_is_cpg_context.Goals as goal

pub returns : goal.returns
returns c = yes_told c.is_cpg_context.ensures
