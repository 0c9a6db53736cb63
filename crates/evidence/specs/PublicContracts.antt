-- The promise of each public call: one proposition per call, about its arguments, its answer and the lent row after the call. The call's `ensures`
-- cites it, and every theorem about the call uses it.
-- Assumes nothing.
use Rattle.lent.specs.Outcome.{Outcome}
use Rattle.std.specs.Prelude.{◌≡◌, ℕ, Bool, List, length}
use Rattle.lent.specs.Filled.{leaves}
use Rattle.pattern.specs.declared.ConversionPattern.{ConversionPattern}
use Rattle.evidence.specs.Position.{fresh, counted, gated}
use Rattle.evidence.specs.Row.{gated_row, row_of}
use Rattle.evidence.specs.declared.MethylationEvidence.{MethylationEvidence}

-- `new`: whether the position is informative, and its evidence with nothing counted
abbrev pub StartsEvidence : Bool → MethylationEvidence → Type 0
StartsEvidence informative? r = r ≡ fresh informative?

-- `counted`: the evidence of a position, one read's base there and the read's pattern, and the evidence with that base counted
abbrev pub CountsBase : MethylationEvidence → ℕ → ConversionPattern → MethylationEvidence → Type 0
CountsBase e base p r = r ≡ counted e base p

-- `gated`: the evidence of a position, and the evidence after gating
abbrev pub GatesPosition : MethylationEvidence → MethylationEvidence → Type 0
GatesPosition e r = r ≡ gated e

-- `gate_row`: a lent row of records, the answer, and the row after the call
abbrev pub GatesRow : List MethylationEvidence → Outcome ℕ → List MethylationEvidence → Type 0
GatesRow row r row' = (r ≡ row_of (length row)) × (row' ≡ leaves (λ (n : ℕ). gated_row row) (row_of (length row)) row)
