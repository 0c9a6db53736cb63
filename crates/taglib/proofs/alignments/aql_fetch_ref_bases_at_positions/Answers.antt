-- `aql_fetch_ref_bases_at_positions`: the bases at a row of places, for C.
-- Assumes nothing.
use lib.ListN.{length}
use Rattle.alignment.specs.Reference.{fetched_bases}
use Rattle.telling.proofs.Handed.{number_handed, told_handed}
use Rattle.taglib.proofs.alignments.aql_fetch_ref_bases_at_positions.Reads as reads
use Rattle.taglib.proofs.alignments.aql_fetch_ref_bases_at_positions.Lts as lts
use Rattle.alignment.proofs.fetch_ref_bases_at_positions.Reads as fetch-ref-bases-at-positions-reads
use Rattle.telling.proofs.written.Reads as written-reads
use Rattle.taglib.proofs.alignments.aql_fetch_ref_bases_at_positions.Goals as goal

pub returns : goal.returns
returns c =
    let o = fetched_bases c.args.ref_positions.now c.args.reference.now (length c.args.bases.now) in (
      number_handed length o c.fetch_ref_bases_at_positions-answer.ensures.0 c.written.ensures.0,
      told_handed (λ m. m) length o c.args.n.now c.fetch_ref_bases_at_positions-answer.ensures.0 c.written.ensures.1,
      c.fetch_ref_bases_at_positions-answer.ensures.1,
    )
