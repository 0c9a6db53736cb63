-- Gating over a row of records (`evidence::gate_row`) means what gating over the columns means.
-- Assumes nothing.
use mathlib.Core.Path.{◌≡◌, refl}
use Prim.Native.Nat.{ℕ}
use mathlib.Core.List.{List, [], ◌∷◌}
use Rattle.lent.proofs.Tests.{by-test}
use Rattle.evidence.specs.Row.{gated_row}
use Rattle.annotation.specs.Records.{records_of}
use Rattle.columns.specs.Columns.{gated_counts, is_yes}

-- gating the row made of the columns gives the row made of the gated columns
pub gated_row_is_gated_columns : (ys us cs : List ℕ) → gated_row (records_of ys us cs) ≡ records_of ys (gated_counts ys us) (gated_counts ys cs)
unfolding gated_row records_of
gated_row_is_gated_columns [] us cs = refl
gated_row_is_gated_columns (y ∷ ys) [] cs = refl
gated_row_is_gated_columns (y ∷ ys) (u ∷ us) [] = refl
gated_row_is_gated_columns (y ∷ ys) (u ∷ us) (c ∷ cs) =
    by-test (is_yes y) (λ e. rw (e, gated_row_is_gated_columns ys us cs)) (λ e. rw (e, gated_row_is_gated_columns ys us cs))
