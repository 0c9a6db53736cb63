-- Each public call's contract determines its outcome, the answer and every lent row: two outcomes that meet the contract are equal.
-- Assumes nothing.
use Rattle.lent.specs.Outcome.{Outcome}
use mathlib.Core.Path.{◌≡◌}
use Prim.Native.Nat.{ℕ}
use mathlib.Core.Bool.{Bool}
use mathlib.Core.List.{List}
use Rattle.lent.proofs.Filled.{settled}
use Rattle.pattern.specs.declared.ConversionPattern.{ConversionPattern}
use Rattle.evidence.specs.PublicContracts.{StartsEvidence, CountsBase, GatesPosition, GatesRow}
use Rattle.evidence.specs.declared.MethylationEvidence.{MethylationEvidence}

pub new_unique : (informative? : Bool) (r s : MethylationEvidence) → StartsEvidence informative? r → StartsEvidence informative? s → r ≡ s
new_unique informative? r s = settled r s

pub counted_unique : (e : MethylationEvidence) (base : ℕ) (p : ConversionPattern) (r s : MethylationEvidence)
    → CountsBase e base p r → CountsBase e base p s → r ≡ s
counted_unique e base p r s = settled r s

pub gated_unique : (e r s : MethylationEvidence) → GatesPosition e r → GatesPosition e s → r ≡ s
gated_unique e r s = settled r s

-- the answer, and the row
pub gate_row_unique : (row : List MethylationEvidence) (r s : Outcome ℕ) (l m : List MethylationEvidence)
    → GatesRow row r l → GatesRow row s m → (r ≡ s) × (l ≡ m)
gate_row_unique row r s l m a b = ((settled r s a.0 b.0), settled l m a.1 b.1)
