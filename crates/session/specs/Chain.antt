-- A session as a program runs it: `open`, and then calls of `mask`, `drop_calls` and `cut`, each on the rows and the lengths that the last call left.
-- Only the contract of each call is used.
-- Assumes nothing.
use Rattle.std.specs.Prelude.{ℕ, Bool, List, [], ◌∷◌, map, take}
use Rattle.lent.specs.Outcome.{number_of}
use Rattle.samtags.specs.Session.{Step}
use Rattle.session.specs.PublicContracts.{Call, Meets, Rows}
use Rattle.stepping.specs.Steps.{lengths_after, step_says}

-- the part of each row that the session holds
abbrev pub seq_in : Rows → List ℕ
seq_in w = take w.lengths.seq w.seq

abbrev pub text_in : Rows → List ℕ
text_in w = take w.lengths.mm w.mm

abbrev pub ml_in : Rows → List ℕ
ml_in w = take w.lengths.ml w.ml

-- the rows and the lengths that the next call finds
abbrev pub left_by : Rows → Call → Rows
left_by w c = record { seq = c.seq; mm = c.mm; ml = c.ml; lengths = lengths_after c.answered w.lengths }

-- calls one after the other, the first on these rows
abbrev pub Chain : Bool → Rows → List Call → Type 0
Chain ml? w [] = Unit {0}
Chain ml? w (c ∷ cs) = Meets ml? w c × Chain ml? (left_by w c) cs

-- the rows after the last call
abbrev pub at_end : Rows → List Call → Rows
at_end w [] = w
at_end w (c ∷ cs) = at_end (left_by w c) cs

abbrev pub steps_of : List Call → List Step
steps_of cs = map (λ (c : Call). c.asked) cs

-- the scope's number of each answer
abbrev pub numbers_of : List Call → List ℕ
numbers_of cs = map (λ (c : Call). number_of (step_says c.answered)) cs
