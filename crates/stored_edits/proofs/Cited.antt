-- The contract that the kit makes of a public call's `ensures` gives the call's proposition of specs/PublicContracts. Theorems start from that proposition.
-- Assumes nothing.
use Rattle.lent.proofs.Cited.{Gives}
use Rattle.stored_edits.specs.PublicContracts.{DropsStored, MasksStored, TrimsStored}
use Rattle.stored_edits.proofs.drop_masked_modifications.Kinds as masks
use Rattle.stored_edits.proofs.drop_masked_modifications.Reads as masks-reads
use Rattle.stored_edits.proofs.drop_modifications_at.Kinds as drops
use Rattle.stored_edits.proofs.drop_modifications_at.Reads as drops-reads
use Rattle.stored_edits.proofs.trim_clipped_modifications.Kinds as trims
use Rattle.stored_edits.proofs.trim_clipped_modifications.Reads as trims-reads

pub drop_masked_modifications_cited : Gives 6 masks.ps masks.r masks-reads.Post (λ κs a r e.
    let second = a.1.1 in
    let reverse = second.1.1 in
    let tag = reverse.1 in
    let lent = tag.1.1.1 in
    let left = e.1.1.1.1.1.1.1.1 in
    MasksStored reverse.0 tag.1.1.0 a.1.0 a.0.now second.1.0 second.0.now tag.0.now tag.1.0.now
    lent.0.now lent.1.0.now r left.0.now left.1.0.now)
drop_masked_modifications_cited κs a r e p = p

pub drop_modifications_at_cited : Gives 6 drops.ps drops.r drops-reads.Post (λ κs a r e.
    let reverse = a.1.1 in
    let places = reverse.1 in
    let tag = places.1 in
    let lent = tag.1.1.1 in
    let left = e.1.1.1.1.1.1.1 in
    DropsStored reverse.0 tag.1.1.0 a.1.0 a.0.now places.0.now tag.0.now tag.1.0.now
    lent.0.now lent.1.0.now r left.0.now left.1.0.now)
drop_modifications_at_cited κs a r e p = p

pub trim_clipped_modifications_cited : Gives 6 trims.ps trims.r trims-reads.Post (λ κs a r e.
    let second = a.1.1 in
    let reverse = second.1.1 in
    let start = reverse.1 in
    let tag = start.1 in
    let lent = tag.1.1.1 in
    let left = e.1.1.1.1.1.1.1.1.1 in
    TrimsStored reverse.0 tag.1.1.0 start.0 a.1.0 a.0.now second.1.0 second.0.now tag.0.now tag.1.0.now
    lent.0.now lent.1.0.now r left.0.now left.1.0.now)
trim_clipped_modifications_cited κs a r e p = p
