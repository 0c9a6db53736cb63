-- The contract that the kit makes of a public call's `ensures` gives the call's proposition of specs/PublicContracts. Theorems start from that proposition.
-- Assumes nothing.
use Rattle.lent.proofs.Cited.{Gives}
use Rattle.rewriting.specs.PublicContracts.{Drops, Masks, Trims}
use Rattle.rewriting.proofs.drop_masked_modifications.Kinds as masks
use Rattle.rewriting.proofs.drop_masked_modifications.Reads as masks-reads
use Rattle.rewriting.proofs.drop_modifications_at.Kinds as drops
use Rattle.rewriting.proofs.drop_modifications_at.Reads as drops-reads
use Rattle.rewriting.proofs.trim_clipped_modifications.Kinds as trims
use Rattle.rewriting.proofs.trim_clipped_modifications.Reads as trims-reads

pub drop_masked_modifications_cited : Gives 6 masks.ps masks.r masks-reads.Post (λ κs a r e.
    let lent = a.1.1.1.1.1 in
    let left = e.1.1.1.1.1 in
    Masks a.1.1.1.1.0 a.0.now a.1.0.now a.1.1.0.now a.1.1.1.0.now lent.0.now lent.1.0.now r left.0.now left.1.0.now)
drop_masked_modifications_cited κs a r e p = p

pub drop_modifications_at_cited : Gives 6 drops.ps drops.r drops-reads.Post (λ κs a r e.
    let lent = a.1.1.1.1.1 in
    let left = e.1.1.1.1.1 in
    Drops a.1.1.1.1.0 a.0.now a.1.0.now a.1.1.0.now a.1.1.1.0.now lent.0.now lent.1.0.now r left.0.now left.1.0.now)
drop_modifications_at_cited κs a r e p = p

pub trim_clipped_modifications_cited : Gives 6 trims.ps trims.r trims-reads.Post (λ κs a r e.
    let tag = a.1.1.1 in
    let lent = tag.1.1.1 in
    let left = e.1.1.1.1.1.1 in
    Trims tag.1.1.0 a.1.1.0 a.0.now a.1.0.now tag.0.now tag.1.0.now lent.0.now lent.1.0.now r left.0.now left.1.0.now)
trim_clipped_modifications_cited κs a r e p = p
