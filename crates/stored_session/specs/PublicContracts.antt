-- The promise of each public call: one proposition for `open` and one for the three steps, about the arguments, the answer and the lent rows after
-- the call. The call's `ensures` cites it, and every theorem about the call uses it. Rows and calls are those of the plain session; SEQ's row is packed.
-- Assumes nothing.
use Rattle.std.specs.Prelude.{◌≡◌, Bool, ℕ}
use Rattle.lent.specs.Outcome.{Outcome, on_done}
use Rattle.reading.specs.Calls.{counts_of}
use Rattle.session.specs.PublicContracts.{Call, Rows, in_memory}
use Rattle.stepping.specs.Steps.{came, leaves_memory, step_says}
use Rattle.stored_steps.specs.Steps.{open_stored, step_stored}

-- `open` on these rows: how many groups and calls the tag lists, or the refusal
abbrev pub OpensStored : Bool → Bool → Rows → Outcome (ℕ × ℕ) → Type 0
OpensStored reverse ml? w r = r ≡ on_done counts_of (open_stored reverse ml? (in_memory w))

-- The three steps share one contract: the answer and the rows after the call are those of the step's definition on these rows.
abbrev pub MeetsStored : Bool → Bool → Rows → Call → Type 0
MeetsStored reverse ml? w c =
    came (step_says c.answered) c.seq c.mm c.ml ≡ leaves_memory (in_memory w) (step_stored reverse ml? c.asked (in_memory w))
