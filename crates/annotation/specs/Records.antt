-- Columns of evidence as a row of records.
-- Assumes nothing.
use Rattle.std.specs.Prelude.{ℕ, List, [], ◌∷◌}
use Rattle.evidence.specs.declared.MethylationEvidence.{MethylationEvidence}
use Rattle.columns.specs.Columns.{is_yes}

-- the columns as a row: a record for each position, up to the end of the shortest column
unfoldable pub records_of : List ℕ → List ℕ → List ℕ → List MethylationEvidence
records_of [] us cs = []
records_of (y ∷ ys) [] cs = []
records_of (y ∷ ys) (u ∷ us) [] = []
records_of (y ∷ ys) (u ∷ us) (c ∷ cs) = record { informative = is_yes y; unconverted = u; converted = c } ∷ records_of ys us cs
