-- The contract that the kit makes of a public call's `ensures` gives the call's proposition of specs/PublicContracts. Theorems start from that proposition.
-- Assumes nothing.
use Rattle.lent.proofs.Cited.{Gives}
use Rattle.transcript.specs.PublicContracts.{Transcribes}
use Rattle.transcript.proofs.transcript.Kinds as kinds
use Rattle.transcript.proofs.transcript.Reads as reads

-- the arguments are the input, the desk's three rows and the output
pub transcript_cited : Gives 5 kinds.ps kinds.r reads.Post (λ κs a r e. Transcribes a.0.now a.1.1.1.1.0.now r e.1.1.1.1.0.now)
transcript_cited κs a r e p = p
