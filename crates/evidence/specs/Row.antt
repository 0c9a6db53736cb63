-- Gating over a row of evidence records.
-- Assumes nothing.
use Rattle.std.specs.Prelude.{ℕ, cond, List, map, leb, Ok}
use Rattle.lent.specs.Outcome.{Outcome, need}
use Rattle.evidence.specs.Position.{gated}
use Rattle.evidence.specs.declared.MethylationEvidence.{MethylationEvidence}

-- each record gated
unfoldable pub gated_row : List MethylationEvidence → List MethylationEvidence
gated_row row = map gated row

-- 1 for more than 16,000 records; else Ok with the number of records
unfoldable pub row_of : ℕ → Outcome ℕ
row_of n = need (leb n 16000) 1 (Ok n)

-- how many of the records are gated
abbrev pub records_to_gate : ℕ → ℕ
records_to_gate n = cond (leb n 16000) n 0
