-- The lengths of a duplex answer as an array, in the order of its parts: SEQ, MM and ML, the combined counts, the first strand's text and counts, the
-- second strand's text and counts.
-- Assumes nothing.
use Rattle.std.specs.Prelude.{ℕ, List, [], ◌∷◌}
use Rattle.duplex.specs.declared.Lengths.{Lengths}

abbrev pub part_row : Lengths → List ℕ
part_row l =
    l.seq ∷ l.mm ∷ l.ml ∷ l.unconverted ∷ l.converted ∷ l.first_mm ∷ l.first_unconverted ∷ l.first_converted ∷ l.second_mm
    ∷ l.second_unconverted ∷ l.second_converted ∷ []
