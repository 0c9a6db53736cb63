-- The contract that the kit makes of each export's `ensures` is the proposition of specs/BuildingContracts.
-- Assumes nothing.
use Rattle.lent.proofs.Cited.{Gives}
use Rattle.taglib.specs.BuildingContracts.{BuildsInC, BuildsTextInC}
use Rattle.taglib.proofs.building_tags.aql_build_mm_ml_tags.Kinds as build-mm-ml-tags
use Rattle.taglib.proofs.building_tags.aql_build_mm_ml_tags.Reads as build-mm-ml-tags-reads
use Rattle.taglib.proofs.building_tags.aql_build_mm_tag_no_ml.Kinds as build-mm-tag-no-ml
use Rattle.taglib.proofs.building_tags.aql_build_mm_tag_no_ml.Reads as build-mm-tag-no-ml-reads

pub aql_build_mm_ml_tags_cited : Gives 8 build-mm-ml-tags.ps build-mm-ml-tags.r build-mm-ml-tags-reads.Post (λ κs a r e.
    BuildsInC a.0.now a.1.0.now a.1.1.0.now a.1.1.1.0.now a.1.1.1.1.0 a.1.1.1.1.1.0
    a.1.1.1.1.1.1.0.now a.1.1.1.1.1.1.1.0.now a.1.1.1.1.1.1.1.1.0.now
    a.1.1.1.1.1.1.1.1.1.0.now r e.1.1.1.1.1.1.0.now e.1.1.1.1.1.1.1.0.now
    e.1.1.1.1.1.1.1.1.0.now e.1.1.1.1.1.1.1.1.1.0.now)
aql_build_mm_ml_tags_cited κs a r e p = p

pub aql_build_mm_tag_no_ml_cited : Gives 6 build-mm-tag-no-ml.ps build-mm-tag-no-ml.r build-mm-tag-no-ml-reads.Post (λ κs a r e.
    BuildsTextInC a.0.now a.1.0.now a.1.1.0.now a.1.1.1.0.now a.1.1.1.1.0 a.1.1.1.1.1.0
    a.1.1.1.1.1.1.0.now a.1.1.1.1.1.1.1.0.now r e.1.1.1.1.1.1.0.now e.1.1.1.1.1.1.1.0.now)
aql_build_mm_tag_no_ml_cited κs a r e p = p
