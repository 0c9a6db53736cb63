-- A session of a stored read as a program runs it: `open`, and then calls of `mask`, `drop_calls` and `cut`, each on the rows and the lengths that the
-- last call left. Only the contract of each call is used.
-- Assumes nothing.
use Rattle.std.specs.Prelude.{Bool, List, [], ◌∷◌}
use Rattle.packed.specs.Stored.{step_in_read}
use Rattle.samtags.specs.Session.{Held, Step}
use Rattle.session.specs.Chain.{left_by}
use Rattle.session.specs.PublicContracts.{Call, Rows, in_memory}
use Rattle.stored_session.specs.PublicContracts.{MeetsStored}
use Rattle.stored_steps.specs.Steps.{held_in_read}

-- calls one after the other, the first on these rows
abbrev pub ChainStored : Bool → Bool → Rows → List Call → Type 0
ChainStored reverse ml? w [] = Unit {0}
ChainStored reverse ml? w (c ∷ cs) = MeetsStored reverse ml? w c × ChainStored reverse ml? (left_by w c) cs

-- what the rows hold, in read orientation
abbrev pub read_in : Bool → Rows → Held
read_in reverse w = held_in_read reverse (in_memory w)

-- the steps that were asked for, each in read orientation; places and ends are those of the read as the step finds it
abbrev pub steps_in_read : Bool → Rows → List Call → List Step
steps_in_read reverse w [] = []
steps_in_read reverse w (c ∷ cs) = step_in_read reverse w.lengths.seq c.asked ∷ steps_in_read reverse (left_by w c) cs
