-- The numbers that `gate_row` can answer: no other number, each of them for some input, and 0 exactly when the call is done.
-- Assumes nothing.
use Rattle.std.specs.Prelude.{Ok, ℕ}
use mathlib.Core.Path.{◌≡◌, refl, sym, subst}
use mathlib.Core.Bool.{false}
use mathlib.Core.List.{List, [], ◌∷◌, map}
use lib.Dec.{leb}
use lib.ListN.{length, replicate}
use Rattle.lent.specs.Answers.{Answers}
use Rattle.lent.specs.Outcome.{Outcome, number_of}
use Rattle.lent.proofs.Answers.{only_need, answers}
use Rattle.evidence.specs.PublicContracts.{GatesRow}
use Rattle.evidence.specs.Position.{fresh}
use Rattle.evidence.specs.Row.{row_of}
use Rattle.evidence.specs.declared.MethylationEvidence.{MethylationEvidence}

pub gate_row_numbers : (row : List MethylationEvidence) (r : Outcome ℕ) (row' : List MethylationEvidence)
    → GatesRow row r row' → Answers (1 ∷ []) r
unfolding row_of
gate_row_numbers row r row' p =
    subst (Answers (1 ∷ [])) (sym p.0)
    (answers (1 ∷ []) (row_of (length row)) refl (only_need (1 ∷ []) (leb (length row) 16000) 1 (Ok (length row)) refl refl))

-- a row of one record, and one of 16,001
pub gate_row_each_number :
    map (λ (row : List MethylationEvidence). number_of (row_of (length row))) ((fresh false ∷ []) ∷ replicate 16001 (fresh false) ∷ [])
    ≡ 0 ∷ 1 ∷ []
unfolding row_of
gate_row_each_number = refl
