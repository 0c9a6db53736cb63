-- What each export of a stored read's edit session promises to a C program: one proposition for the opening and one for the three steps, about the
-- arguments, the returned number, and the lent rows and numbers after the call. The export's `ensures` cites it, and every theorem about the export uses
-- it.
-- Assumes nothing.
use Rattle.std.specs.Prelude.{ℕ, List}
use Rattle.samtags.specs.Session.{Step}
use Rattle.stored_steps.specs.Steps.{open_stored, step_stored}
use Rattle.telling.specs.Told.{yes}
use Rattle.taglib.specs.ReadingContracts.{TellsCallsInC}
use Rattle.taglib.specs.SessionContracts.{LeavesSessionInC, session_in}

-- `aql_stored_open`: the packed row, whether the read is reverse, the rows of text and ML, whether there is an ML, and the array; the two lent numbers; the
-- returned number; the two numbers after the call
abbrev pub OpensStoredInC : List ℕ → ℕ → List ℕ → List ℕ → ℕ → List ℕ → ℕ → ℕ → ℕ → ℕ → ℕ → Type 0
OpensStoredInC packed reverse mm ml hasMl lengths groups calls r groups' calls' =
    TellsCallsInC (open_stored (yes reverse) (yes hasMl) (session_in packed mm ml lengths)) groups calls r groups' calls'

-- `aql_stored_mask`, `aql_stored_drop_calls` and `aql_stored_cut`: the step that is asked for; the lent rows, whether the read is reverse, whether there is
-- an ML, and the lent array; the returned number; rows and array after the call
abbrev pub StepsStoredInC : Step → List ℕ → ℕ → List ℕ → List ℕ → ℕ → List ℕ → ℕ → List ℕ → List ℕ → List ℕ → List ℕ → Type 0
StepsStoredInC t packed reverse mm ml hasMl lengths r packed' mm' ml' lengths' =
    LeavesSessionInC (step_stored (yes reverse) (yes hasMl) t (session_in packed mm ml lengths)) packed mm ml lengths r packed' mm' ml' lengths'
