-- The output of `tagedit` after a session is open: a line for each step, and the session's contents at the end.
-- Assumes nothing.
use Rattle.std.specs.Prelude.{ℕ, Bool, cond, List, [], ◌∷◌, ◌++◌}
use Rattle.lent.specs.Outcome.{number_of}
use Rattle.samtags.specs.Session.{Held, stepped, after_step}
use Rattle.lines.specs.Lines.{step_of, given, line_of, answer_line, decimals}

-- the session's contents at the end: SEQ, the MM text, and the ML if one was given
unfoldable pub closing : Bool → Held → List ℕ
unfolding decimals
closing ml? s = line_of "SQ" s.seq ++ line_of "MM" s.text ++ cond ml? (line_of "ML" (decimals s.ml)) []

-- A line with the answer of each step, and at the end the session's contents. A refused step changes nothing and the next one follows; a bad line is
-- answered 13 and ends the output.
unfoldable pub after_opening : Bool → List (List ℕ) → Held → List ℕ
unfolding step_of stepped answer_line closing
after_opening ml? [] s = closing ml? s
after_opening ml? (l ∷ ls) s =
    given (step_of l) (answer_line 13) (λ t.
    let o = stepped ml? t s in
    answer_line (number_of o) ++ after_opening ml? ls (after_step s o))
