-- The program `tagedit` as a function from its whole input to its whole output.
-- Assumes nothing.
use Rattle.std.specs.Prelude.{ℕ, Bool, true, false, cond, List, [], ◌∷◌, ◌++◌, length, leb, Ok, Err}
use Rattle.lent.specs.Outcome.{Outcome, number}
use Rattle.samtags.specs.Reading.{read_tag}
use Rattle.samtags.specs.Spots.{Listing}
use Rattle.samtags.specs.Session.{Held}
use Rattle.lines.specs.Lines.{lines_of, has_mark, body_of, values_of, given, answer_line}
use Rattle.serving.specs.Serving.{after_opening}

-- the opening is answered as the reader does; if it is refused, nothing follows
unfoldable pub opened : Bool → List (List ℕ) → Held → Outcome (List Listing) → List ℕ
unfolding after_opening answer_line
opened ml? ls s (Err r) = answer_line (number r)
opened ml? ls s (Ok listed) = answer_line 0 ++ after_opening ml? ls s

-- the output once SEQ, MM and ML are read
unfoldable pub opened_on : Bool → List ℕ → List ℕ → List ℕ → List (List ℕ) → List ℕ
unfolding opened read_tag
opened_on ml? seq text ml ls = opened ml? ls (record { seq = seq; text = text; ml = ml }) (read_tag ml? seq text ml)

-- the output once SEQ and MM are read: a third line that is marked ML is read before the opening is answered
unfoldable pub from_third : List ℕ → List ℕ → List (List ℕ) → List ℕ
unfolding values_of answer_line opened_on
from_third seq text [] = opened_on false seq text [] []
from_third seq text (l ∷ ls) =
    cond (has_mark "ML" l)
    (given (values_of l) (answer_line 13) (λ ml. opened_on true seq text ml ls))
    (opened_on false seq text [] (l ∷ ls))

-- the output once SEQ is read
unfoldable pub from_second : List ℕ → List (List ℕ) → List ℕ
unfolding answer_line from_third
from_second seq [] = answer_line 13
from_second seq (l ∷ ls) = cond (has_mark "MM" l) (from_third seq (body_of l) ls) (answer_line 13)

unfoldable pub from_first : List (List ℕ) → List ℕ
unfolding answer_line from_second
from_first [] = answer_line 13
from_first (l ∷ ls) = cond (has_mark "SQ" l) (from_second (body_of l) ls) (answer_line 13)

-- the whole output
unfoldable pub transcript_of : List ℕ → List ℕ
unfolding answer_line from_first
transcript_of input = cond (leb (length input) 65536) (from_first (lines_of input)) (answer_line 1)
