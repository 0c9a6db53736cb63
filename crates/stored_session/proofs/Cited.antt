-- The contract that the kit makes of a public call's `ensures` gives the call's proposition of specs/PublicContracts. Theorems start from that proposition.
-- Assumes nothing.
use Rattle.lent.proofs.Cited.{Gives}
use Rattle.samtags.specs.Session.{cut, drop_calls, mask}
use Rattle.session.specs.PublicContracts.{call, rows}
use Rattle.stored_session.specs.PublicContracts.{MeetsStored, OpensStored}
use Rattle.stored_session.proofs.open.Kinds as open-kinds
use Rattle.stored_session.proofs.open.Reads as open-reads
use Rattle.stored_session.proofs.mask.Kinds as mask-kinds
use Rattle.stored_session.proofs.mask.Reads as mask_reads
use Rattle.stored_session.proofs.drop_calls.Kinds as drop-kinds
use Rattle.stored_session.proofs.drop_calls.Reads as drop_reads
use Rattle.stored_session.proofs.cut.Kinds as cut-kinds
use Rattle.stored_session.proofs.cut.Reads as cut_reads

-- The arguments `a` and the arguments at exit `e` are nested pairs: packed, reverse, mm, ml, has_ml, lengths, and then places, or front and back.
pub open_cited : Gives 3 open-kinds.ps open-kinds.r open-reads.Post (λ κs a r e.
    let tag = a.1.1 in
    OpensStored a.1.0 tag.1.1.0 (rows a.0.now tag.0.now tag.1.0.now tag.1.1.1.0) r)
open_cited κs a r e p = p

pub mask_cited : Gives 4 mask-kinds.ps mask-kinds.r mask_reads.Post (λ κs a r e.
    let tag = a.1.1 in
    MeetsStored a.1.0 tag.1.1.0 (rows a.0.now tag.0.now tag.1.0.now tag.1.1.1.0)
    (call (mask tag.1.1.1.1.0.now) r e.0.now e.1.1.0.now e.1.1.1.0.now))
mask_cited κs a r e p = p

-- a drop writes SEQ too: the spare half of a step that is done becomes 0
pub drop_calls_cited : Gives 4 drop-kinds.ps drop-kinds.r drop_reads.Post (λ κs a r e.
    let tag = a.1.1 in
    MeetsStored a.1.0 tag.1.1.0 (rows a.0.now tag.0.now tag.1.0.now tag.1.1.1.0)
    (call (drop_calls tag.1.1.1.1.0.now) r e.0.now e.1.1.0.now e.1.1.1.0.now))
drop_calls_cited κs a r e p = p

pub cut_cited : Gives 3 cut-kinds.ps cut-kinds.r cut_reads.Post (λ κs a r e.
    let tag = a.1.1 in
    MeetsStored a.1.0 tag.1.1.0 (rows a.0.now tag.0.now tag.1.0.now tag.1.1.1.0)
    (call (cut tag.1.1.1.1.0 tag.1.1.1.1.1.0) r e.0.now e.1.1.0.now e.1.1.1.0.now))
cut_cited κs a r e p = p
