-- A session's three lengths as an array: of SEQ, of MM, of ML.
-- Assumes nothing.
use Rattle.std.specs.Prelude.{ℕ, List, [], ◌∷◌, get_or}
use Rattle.samtags.specs.Session.{Lengths}
use Rattle.stepping.specs.declared.Lengths.{Lengths as Declared}

abbrev pub lengths_in : List ℕ → Declared
lengths_in row = record { seq = get_or row 0 0; mm = get_or row 1 0; ml = get_or row 2 0 }

abbrev pub length_row : Lengths → List ℕ
length_row n = n.seq ∷ n.text ∷ n.ml ∷ []
