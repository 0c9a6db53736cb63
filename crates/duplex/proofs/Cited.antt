-- The contract that the kit makes of a public call's `ensures` gives the call's proposition of specs/PublicContracts. Theorems start from that proposition.
-- Assumes nothing.
use Rattle.duplex.specs.PublicContracts.{Duplexes, eleven_rows}
use Rattle.duplex.specs.Duplex.{strand}
use Rattle.duplex.proofs.duplex_methylation_tags.Kinds as kinds
use Rattle.duplex.proofs.duplex_methylation_tags.Reads as reads
use Rattle.lent.proofs.Cited.{Gives}

pub duplex_methylation_tags_cited : Gives 18 kinds.ps kinds.r reads.Post (λ κs a r e.
    let first = a.1.1.1 in
    let second = first.1.1.1.1 in
    let x = second.1.1.1.1 in
    let y = e.1.1.1.1.1.1.1.1.1.1.1 in
    Duplexes a.1.0 a.1.1.0 a.0.now
    (strand first.0 first.1.0.now first.1.1.0.now first.1.1.1.0.now)
    (strand second.0 second.1.0.now second.1.1.0.now second.1.1.1.0.now)
    (eleven_rows x.0.now x.1.0.now x.1.1.0.now x.1.1.1.0.now x.1.1.1.1.0.now x.1.1.1.1.1.0.now
    x.1.1.1.1.1.1.0.now x.1.1.1.1.1.1.1.0.now x.1.1.1.1.1.1.1.1.0.now
    x.1.1.1.1.1.1.1.1.1.0.now x.1.1.1.1.1.1.1.1.1.1.0.now)
    r
    (eleven_rows y.0.now y.1.0.now y.1.1.0.now y.1.1.1.0.now y.1.1.1.1.0.now y.1.1.1.1.1.0.now
    y.1.1.1.1.1.1.0.now y.1.1.1.1.1.1.1.0.now y.1.1.1.1.1.1.1.1.0.now
    y.1.1.1.1.1.1.1.1.1.0.now y.1.1.1.1.1.1.1.1.1.1.0.now))
duplex_methylation_tags_cited κs a r e p = p
