-- The evidence of a position, made from its parts.
-- Assumes nothing.
use Rattle.std.specs.Prelude.{ℕ, Bool}
use Rattle.evidence.specs.declared.MethylationEvidence.{MethylationEvidence}

abbrev pub position : Bool → ℕ → ℕ → MethylationEvidence
position informative? u c = record { informative = informative?; unconverted = u; converted = c }
