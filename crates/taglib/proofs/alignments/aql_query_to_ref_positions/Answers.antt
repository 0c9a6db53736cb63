-- `aql_query_to_ref_positions`: the places of a read, for C.
-- Assumes nothing.
use lib.ListN.{length}
use mir.Facts.{to_z-of_z}
use Rattle.cigar.specs.Cigar.{query_places}
use Rattle.telling.specs.Told.{yes}
use Rattle.telling.proofs.Handed.{number_handed, told_handed}
use Rattle.taglib.proofs.alignments.aql_query_to_ref_positions.Reads as reads
use Rattle.taglib.proofs.alignments.aql_query_to_ref_positions.Lts as lts
use Rattle.alignment.proofs.query_to_ref_positions.Reads as query-to-ref-positions-reads
use Rattle.telling.proofs.written.Reads as written-reads
use Rattle.taglib.proofs.alignments.aql_query_to_ref_positions.Goals as goal

pub returns : goal.returns
returns c =
    let o = query_places c.args.cigar.now c.args.alignment_start (yes c.args.is_reverse) (length c.args.positions.now) in
    let made = rw (to_z-of_z c.ranges.alignment_start) at c.query_to_ref_positions-answer.ensures in (
      number_handed length o made.0 c.written.ensures.0,
      told_handed (λ m. m) length o c.args.n.now made.0 c.written.ensures.1,
      made.1,
    )
