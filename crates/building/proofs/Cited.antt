-- The contract that the kit makes of a public call's `ensures` gives the call's proposition of specs/PublicContracts. Theorems start from that proposition.
-- Assumes nothing.
use Rattle.building.specs.PublicContracts.{Built, BuiltAlone}
use Rattle.building.proofs.build_mm_ml_tags.Kinds as tags
use Rattle.building.proofs.build_mm_ml_tags.Reads as tags-reads
use Rattle.building.proofs.build_mm_tag_no_ml.Kinds as alone
use Rattle.building.proofs.build_mm_tag_no_ml.Reads as alone-reads
use Rattle.lent.proofs.Cited.{Gives}
use Rattle.samtags.specs.Building.{columns}

pub build_mm_ml_tags_cited : Gives 6 tags.ps tags.r tags-reads.Post (λ κs a r e.
    let lent = a.1.1.1.1.1.1 in
    let left = e.1.1.1.1.1.1 in
    Built a.1.1.1.1.1.0 a.1.1.1.1.0 (columns a.1.0.now a.1.1.0.now a.1.1.1.0.now) a.0.now
    lent.0.now lent.1.0.now r left.0.now left.1.0.now)
build_mm_ml_tags_cited κs a r e p = p

pub build_mm_tag_no_ml_cited : Gives 5 alone.ps alone.r alone-reads.Post (λ κs a r e.
    BuiltAlone a.1.1.1.1.1.0 a.1.1.1.1.0 (columns a.1.0.now a.1.1.0.now a.1.1.1.0.now) a.0.now
    a.1.1.1.1.1.1.0.now r e.1.1.1.1.1.1.0.now)
build_mm_tag_no_ml_cited κs a r e p = p
