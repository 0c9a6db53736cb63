-- A call that answers a number other than 0 has written nothing.
-- Assumes nothing.
use Rattle.std.specs.Prelude.{ℕ}
use Rattle.lent.specs.Outcome.{Outcome}
use mathlib.Core.Path.{◌≡◌, ap, sym, ◌∙◌}
use mathlib.Core.Bool.{false}
use mathlib.Core.List.{List}
use Rattle.lent.specs.Answers.{is_done}
use Rattle.lent.proofs.Answers.{row_kept}
use Rattle.evidence.specs.PublicContracts.{GatesRow}
use Rattle.evidence.specs.declared.MethylationEvidence.{MethylationEvidence}

pub gate_row_refused : (row : List MethylationEvidence) (r : Outcome ℕ) (row' : List MethylationEvidence) → GatesRow row r row' → is_done r ≡ false
    → row' ≡ row
gate_row_refused row r row' p d = row_kept _ _ row row' p.1 (sym (ap is_done p.0) ∙ d)
