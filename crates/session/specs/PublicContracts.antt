-- The promise of each public call: one proposition for `open` and one for the three steps, about the arguments, the answer and the lent rows after
-- the call. The call's `ensures` cites it, and every theorem about the call uses it.
-- Assumes nothing.
use Rattle.std.specs.Prelude.{◌≡◌, ℕ, Bool, List}
use Rattle.lent.specs.Outcome.{Outcome, on_done}
use Rattle.reading.specs.Calls.{counts_of}
use Rattle.samtags.specs.Session.{Memory, Step, open_session, step_in_memory}
use Rattle.stepping.specs.Steps.{came, leaves_memory, memory, step_says}
use Rattle.stepping.specs.declared.Lengths.{Lengths}

-- the lent rows and the session's lengths before a call
pub record Rows : Type 0 where
  pub seq : List ℕ
  pub mm : List ℕ
  pub ml : List ℕ
  pub lengths : Lengths

abbrev pub rows : List ℕ → List ℕ → List ℕ → Lengths → Rows
rows seq mm ml n = record { seq = seq; mm = mm; ml = ml; lengths = n }

abbrev pub in_memory : Rows → Memory
in_memory w = memory w.seq w.mm w.ml w.lengths

-- `open` on these rows: how many groups and calls the tag lists, or the refusal
abbrev pub Opens : Bool → Rows → Outcome (ℕ × ℕ) → Type 0
Opens ml? w r = r ≡ on_done counts_of (open_session ml? (in_memory w))

-- a call of `mask`, `drop_calls` or `cut`: the step that was asked for, the answer, and the rows after it (a drop leaves SEQ's row unchanged)
pub record Call : Type 0 where
  pub asked : Step
  pub answered : Outcome Lengths
  pub seq : List ℕ
  pub mm : List ℕ
  pub ml : List ℕ

abbrev pub call : Step → Outcome Lengths → List ℕ → List ℕ → List ℕ → Call
call t r seq mm ml = record { asked = t; answered = r; seq = seq; mm = mm; ml = ml }

-- The three steps share one contract: the answer and the rows after the call are those of the step's definition on these rows.
abbrev pub Meets : Bool → Rows → Call → Type 0
Meets ml? w c =
    came (step_says c.answered) c.seq c.mm c.ml ≡ leaves_memory (in_memory w) (step_in_memory ml? c.asked (in_memory w))
