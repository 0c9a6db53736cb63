-- What `aql_transcript` promises to a C program: one proposition, about the input, the returned number and the lent row after the call. The export's
-- `ensures` cites it.
-- Assumes nothing.
use Rattle.std.specs.Prelude.{◌≡◌, ℕ, List, length}
use Rattle.lent.specs.Filled.{over}
use Rattle.transcript.specs.Transcript.{transcript_of}

-- the input and the row for the output; how many bytes were written; the row after the call, with the output at its front and the rest unchanged
abbrev pub TranscribesInC : List ℕ → List ℕ → ℕ → List ℕ → Type 0
TranscribesInC input out r out' = (r ≡ length (transcript_of input)) × (out' ≡ over (transcript_of input) out)
