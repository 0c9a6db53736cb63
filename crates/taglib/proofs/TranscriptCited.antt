-- The contract that the kit makes of each export's `ensures` is the proposition of specs/TranscriptContracts.
-- Assumes nothing.
use Rattle.lent.proofs.Cited.{Gives}
use Rattle.taglib.specs.TranscriptContracts.{TranscribesInC}
use Rattle.taglib.proofs.transcripts.aql_transcript.Kinds as transcript
use Rattle.taglib.proofs.transcripts.aql_transcript.Reads as transcript-reads

pub aql_transcript_cited : Gives 5 transcript.ps transcript.r transcript-reads.Post (λ κs a r e.
    TranscribesInC a.0.now a.1.1.1.1.0.now r e.1.1.1.1.0.now)
aql_transcript_cited κs a r e p = p
