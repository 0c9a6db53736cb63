-- The evidence of one position: with nothing counted, with one more base, and gated.
-- Assumes nothing.
use Rattle.std.specs.Prelude.{ℕ, ◌+◌, min, Bool, false, cond, eqb}
use Rattle.pattern.specs.Case.{upper}
use Rattle.pattern.specs.Patterns.{bases_of}
use Rattle.pattern.specs.declared.ConversionPattern.{ConversionPattern}
use Rattle.evidence.specs.declared.MethylationEvidence.{MethylationEvidence}

-- a count stops at the largest u32
abbrev pub capped : ℕ → ℕ
capped n = min 4294967295 n

-- one more, if the base is the counted one
abbrev pub counted_if : Bool → ℕ → ℕ
counted_if is n = cond is (capped (n + 1)) n

-- nothing counted yet
abbrev pub fresh : Bool → MethylationEvidence
fresh informative? = record { informative = informative?; unconverted = 0; converted = 0 }

-- one read's base counted, in upper or lower case: as the pattern's unconverted base, as its converted base, or not at all
abbrev pub counted : MethylationEvidence → ℕ → ConversionPattern → MethylationEvidence
counted e base p = record {
  informative = e.informative;
  unconverted = counted_if (eqb (upper base) (bases_of p).unconverted) e.unconverted;
  converted = counted_if (eqb (upper base) (bases_of p).converted) e.converted;
}

-- a position that is not informative has no counts
abbrev pub gated : MethylationEvidence → MethylationEvidence
gated e = cond e.informative e (fresh false)
