-- The contract that the kit makes of each export's `ensures` is the proposition of specs/StoredRewritingContracts.
-- Assumes nothing.
use Rattle.lent.proofs.Cited.{Gives}
use Rattle.taglib.specs.StoredRewritingContracts.{CutsStoredInC, DropsStoredInC, MasksStoredInC}
use Rattle.taglib.proofs.stored_rewriting.aql_stored_drop_masked_modifications.Kinds as stored-drop-masked-modifications
use Rattle.taglib.proofs.stored_rewriting.aql_stored_drop_masked_modifications.Reads as stored-drop-masked-modifications-reads
use Rattle.taglib.proofs.stored_rewriting.aql_stored_drop_modifications_at.Kinds as stored-drop-modifications-at
use Rattle.taglib.proofs.stored_rewriting.aql_stored_drop_modifications_at.Reads as stored-drop-modifications-at-reads
use Rattle.taglib.proofs.stored_rewriting.aql_stored_trim_clipped_modifications.Kinds as stored-trim-clipped-modifications
use Rattle.taglib.proofs.stored_rewriting.aql_stored_trim_clipped_modifications.Reads as stored-trim-clipped-modifications-reads

pub aql_stored_drop_masked_modifications_cited : Gives 8 stored-drop-masked-modifications.ps stored-drop-masked-modifications.r stored-drop-masked-modifications-reads.Post (λ κs a r e.
    MasksStoredInC a.0.now a.1.0 a.1.1.0.now a.1.1.1.0 a.1.1.1.1.0 a.1.1.1.1.1.0.now a.1.1.1.1.1.1.0.now a.1.1.1.1.1.1.1.0 a.1.1.1.1.1.1.1.1.0.now a.1.1.1.1.1.1.1.1.1.0.now a.1.1.1.1.1.1.1.1.1.1.0.now a.1.1.1.1.1.1.1.1.1.1.1.0.now r e.1.1.1.1.1.1.1.1.0.now e.1.1.1.1.1.1.1.1.1.0.now e.1.1.1.1.1.1.1.1.1.1.0.now e.1.1.1.1.1.1.1.1.1.1.1.0.now)
aql_stored_drop_masked_modifications_cited κs a r e p = p

pub aql_stored_drop_modifications_at_cited : Gives 8 stored-drop-modifications-at.ps stored-drop-modifications-at.r stored-drop-modifications-at-reads.Post (λ κs a r e.
    DropsStoredInC a.0.now a.1.0 a.1.1.0 a.1.1.1.0.now a.1.1.1.1.0.now a.1.1.1.1.1.0.now a.1.1.1.1.1.1.0 a.1.1.1.1.1.1.1.0.now a.1.1.1.1.1.1.1.1.0.now a.1.1.1.1.1.1.1.1.1.0.now a.1.1.1.1.1.1.1.1.1.1.0.now r e.1.1.1.1.1.1.1.0.now e.1.1.1.1.1.1.1.1.0.now e.1.1.1.1.1.1.1.1.1.0.now e.1.1.1.1.1.1.1.1.1.1.0.now)
aql_stored_drop_modifications_at_cited κs a r e p = p

pub aql_stored_trim_clipped_modifications_cited : Gives 8 stored-trim-clipped-modifications.ps stored-trim-clipped-modifications.r stored-trim-clipped-modifications-reads.Post (λ κs a r e.
    CutsStoredInC a.0.now a.1.0 a.1.1.0.now a.1.1.1.0 a.1.1.1.1.0 a.1.1.1.1.1.0 a.1.1.1.1.1.1.0 a.1.1.1.1.1.1.1.0.now a.1.1.1.1.1.1.1.1.0.now a.1.1.1.1.1.1.1.1.1.0 a.1.1.1.1.1.1.1.1.1.1.0.now a.1.1.1.1.1.1.1.1.1.1.1.0.now a.1.1.1.1.1.1.1.1.1.1.1.1.0.now a.1.1.1.1.1.1.1.1.1.1.1.1.1.0.now r e.1.1.1.1.1.1.1.1.1.1.0.now e.1.1.1.1.1.1.1.1.1.1.1.0.now e.1.1.1.1.1.1.1.1.1.1.1.1.0.now e.1.1.1.1.1.1.1.1.1.1.1.1.1.0.now)
aql_stored_trim_clipped_modifications_cited κs a r e p = p
