-- The contract of `transcript` determines its answer and the output row: two outcomes that meet the contract are equal.
-- Assumes nothing.
use mathlib.Core.Path.{◌≡◌}
use Prim.Native.Nat.{ℕ}
use mathlib.Core.List.{List}
use Rattle.lent.proofs.Filled.{settled}
use Rattle.transcript.specs.PublicContracts.{Transcribes}

-- the number of bytes that were filled, and the output row
pub transcript_unique : (input out : List ℕ) (r s : ℕ) (x y : List ℕ) → Transcribes input out r x → Transcribes input out s y → (r ≡ s) × (x ≡ y)
transcript_unique input out r s x y p q = (settled r s p.0 q.0, settled x y p.1 q.1)
