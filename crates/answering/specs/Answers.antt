-- The answer to a line. These are contracts of support functions; no promise rests on them.
-- Assumes nothing.
use Rattle.std.specs.Prelude.{ℕ, ◌≡◌, Bool, List, Ok, Err, Option, None, Some}
use Rattle.lent.specs.Outcome.{Outcome, number, number_of}
use Rattle.samtags.specs.Session.{Memory, Step, after_step, step_in_memory}
use Rattle.stepping.specs.Steps.{memory}
use Rattle.stepping.specs.declared.Lengths.{Lengths}

-- a step's number, and the lengths after it
abbrev pub answer_of : Outcome Lengths → Lengths → ℕ × Lengths
answer_of (Ok n) before = (0, n)
answer_of (Err r) before = (number r, before)

-- the line asks for a step or is bad; the answer has the number of the step on m, and the rows and lengths are those after the step
abbrev pub LineAnswered : Bool → Option Step → Memory → Option (ℕ × Lengths) → List ℕ → List ℕ → List ℕ → Type 0
LineAnswered ml? o m None seq mm ml = o ≡ None
LineAnswered ml? o m (Some (n, lengths)) seq mm ml =
    (t : Step) × (o ≡ Some t) × (n ≡ number_of (step_in_memory ml? t m)) × (memory seq mm ml lengths ≡ after_step m (step_in_memory ml? t m))
