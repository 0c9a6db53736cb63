-- The contracts of the functions that read the numbers of a line. No promise rests on them.
-- Assumes nothing.
use Rattle.std.specs.Prelude.{ℕ, ◌≡◌, Bool, cond, ◌&&◌, List, [], length, leb, Some, None, Option}
use Rattle.std.proofs.lemmas.List.Edits.{sets}
use Rattle.lent.specs.Lists.{is_empty}
use Rattle.samtags.specs.Decimal.{is_number, value}
use Rattle.samtags.specs.Session.{Step, cut}
use Rattle.lines.specs.Lines.{numbers_of}

-- a plain decimal of at most `most`
abbrev pub is_number_to : ℕ → List ℕ → Bool
is_number_to most field = is_number field && leb (value field) most

abbrev pub number_to : ℕ → List ℕ → Option ℕ
number_to most field = cond (is_number_to most field) (Some (value field)) None

-- the cut that a pair of numbers asks for
abbrev pub ends_says : Option (ℕ × ℕ) → Option Step
ends_says (Some (front, back)) = Some (cut front back)
ends_says None = None

-- the values that the body of an ML line lists
abbrev pub values_in : List ℕ → Option (List ℕ)
values_in body = cond (is_empty body) (Some []) (numbers_of 255 body)

-- the answer agrees with o; the values are at the front of the row, as far as it reaches
abbrev pub ValuesPut : Option (List ℕ) → Option ℕ → List ℕ → List ℕ → Type 0
ValuesPut o (Some n) row row' = (vs : List ℕ) × (o ≡ Some vs) × (n ≡ length vs) × (row' ≡ sets row 0 vs)
ValuesPut o None row row' = o ≡ None
