-- The promise of `transcript`: one proposition, about its input, its answer and the lent row after the call. The call's `ensures` cites it, and every
-- theorem about the call uses it.
-- Assumes nothing.
use Rattle.std.specs.Prelude.{◌≡◌, ℕ, List, length}
use Rattle.lent.specs.Filled.{over}
use Rattle.transcript.specs.Transcript.{transcript_of}

-- For this input, with `out` lent for the output: r bytes are filled, and the row is out' after the call, with the output at its front and the rest unchanged.
abbrev pub Transcribes : List ℕ → List ℕ → ℕ → List ℕ → Type 0
Transcribes input out r out' = (r ≡ length (transcript_of input)) × (out' ≡ over (transcript_of input) out)
