-- What each export of the edit session promises to a C program: one proposition for the opening and one for the three steps, about the arguments,
-- the returned number, and the lent rows and numbers after the call. The export's `ensures` cites it, and every theorem about the export uses it.
-- Assumes nothing.
use Rattle.std.specs.Prelude.{◌≡◌, ℕ, List}
use Rattle.lent.specs.Outcome.{Outcome, number_of}
use Rattle.samtags.specs.Session.{Memory, Step, open_session, step_in_memory}
use Rattle.stepping.specs.Steps.{memory}
use Rattle.telling.specs.Told.{told, yes}
use Rattle.telling_steps.specs.Lengths.{length_row, lengths_in}
use Rattle.taglib.specs.ReadingContracts.{TellsCallsInC}

-- the three rows, and the array that says how much of each row the session holds
abbrev pub session_in : List ℕ → List ℕ → List ℕ → List ℕ → Memory
session_in seq mm ml lengths = memory seq mm ml (lengths_in lengths)

-- `aql_session_open`: the rows, whether there is an ML, and the array; the two lent numbers; the returned number; the two numbers after the call
abbrev pub OpensInC : List ℕ → List ℕ → List ℕ → ℕ → List ℕ → ℕ → ℕ → ℕ → ℕ → ℕ → Type 0
OpensInC seq mm ml hasMl lengths groups calls r groups' calls' =
    TellsCallsInC (open_session (yes hasMl) (session_in seq mm ml lengths)) groups calls r groups' calls'

-- A step with the outcome o: 0, with the new rows and the new array; or o's number, with rows and array unchanged.
abbrev pub LeavesSessionInC : Outcome Memory → List ℕ → List ℕ → List ℕ → List ℕ → ℕ → List ℕ → List ℕ → List ℕ → List ℕ → Type 0
LeavesSessionInC o seq mm ml lengths r seq' mm' ml' lengths' =
    (r ≡ number_of o)
    × (lengths' ≡ told (λ (m : Memory). length_row m.lengths) o lengths)
    × (seq' ≡ told (λ (m : Memory). m.seq) o seq)
    × (mm' ≡ told (λ (m : Memory). m.text) o mm)
    × (ml' ≡ told (λ (m : Memory). m.ml) o ml)

-- `aql_session_mask`, `aql_session_drop_calls` and `aql_session_cut`: the step that is asked for; the lent rows, whether there is an ML, and the lent
-- array; the returned number; rows and array after the call (a drop only reads SEQ's row and leaves it unchanged)
abbrev pub StepsInC : Step → List ℕ → List ℕ → List ℕ → ℕ → List ℕ → ℕ → List ℕ → List ℕ → List ℕ → List ℕ → Type 0
StepsInC t seq mm ml hasMl lengths r seq' mm' ml' lengths' =
    LeavesSessionInC (step_in_memory (yes hasMl) t (session_in seq mm ml lengths)) seq mm ml lengths r seq' mm' ml' lengths'
