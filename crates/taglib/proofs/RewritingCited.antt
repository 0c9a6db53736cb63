-- The contract that the kit makes of each export's `ensures` is the proposition of specs/RewritingContracts.
-- Assumes nothing.
use Rattle.lent.proofs.Cited.{Gives}
use Rattle.taglib.specs.RewritingContracts.{MasksTagInC, DropsFromTagInC, CutsTagInC}
use Rattle.taglib.proofs.rewriting_tags.aql_drop_masked_modifications.Kinds as drop-masked-modifications
use Rattle.taglib.proofs.rewriting_tags.aql_drop_masked_modifications.Reads as drop-masked-modifications-reads
use Rattle.taglib.proofs.rewriting_tags.aql_drop_modifications_at.Kinds as drop-modifications-at
use Rattle.taglib.proofs.rewriting_tags.aql_drop_modifications_at.Reads as drop-modifications-at-reads
use Rattle.taglib.proofs.rewriting_tags.aql_trim_clipped_modifications.Kinds as trim-clipped-modifications
use Rattle.taglib.proofs.rewriting_tags.aql_trim_clipped_modifications.Reads as trim-clipped-modifications-reads

pub aql_drop_masked_modifications_cited :
    Gives 8 drop-masked-modifications.ps drop-masked-modifications.r drop-masked-modifications-reads.Post (λ κs a r e.
    MasksTagInC a.0.now a.1.0.now a.1.1.0.now a.1.1.1.0.now a.1.1.1.1.0 a.1.1.1.1.1.0.now
    a.1.1.1.1.1.1.0.now a.1.1.1.1.1.1.1.0.now a.1.1.1.1.1.1.1.1.0.now r e.1.1.1.1.1.0.now
    e.1.1.1.1.1.1.0.now e.1.1.1.1.1.1.1.0.now e.1.1.1.1.1.1.1.1.0.now)
aql_drop_masked_modifications_cited κs a r e p = p

pub aql_drop_modifications_at_cited : Gives 8 drop-modifications-at.ps drop-modifications-at.r drop-modifications-at-reads.Post (λ κs a r e.
    DropsFromTagInC a.0.now a.1.0.now a.1.1.0.now a.1.1.1.0.now a.1.1.1.1.0 a.1.1.1.1.1.0.now
    a.1.1.1.1.1.1.0.now a.1.1.1.1.1.1.1.0.now a.1.1.1.1.1.1.1.1.0.now r e.1.1.1.1.1.0.now
    e.1.1.1.1.1.1.0.now e.1.1.1.1.1.1.1.0.now e.1.1.1.1.1.1.1.1.0.now)
aql_drop_modifications_at_cited κs a r e p = p

pub aql_trim_clipped_modifications_cited :
    Gives 8 trim-clipped-modifications.ps trim-clipped-modifications.r trim-clipped-modifications-reads.Post (λ κs a r e.
    CutsTagInC a.0.now a.1.0.now a.1.1.0 a.1.1.1.0 a.1.1.1.1.0.now a.1.1.1.1.1.0.now
    a.1.1.1.1.1.1.0 a.1.1.1.1.1.1.1.0.now a.1.1.1.1.1.1.1.1.0.now a.1.1.1.1.1.1.1.1.1.0.now
    a.1.1.1.1.1.1.1.1.1.1.0.now r e.1.1.1.1.1.1.1.0.now e.1.1.1.1.1.1.1.1.0.now
    e.1.1.1.1.1.1.1.1.1.0.now e.1.1.1.1.1.1.1.1.1.1.0.now)
aql_trim_clipped_modifications_cited κs a r e p = p
