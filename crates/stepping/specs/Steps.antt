-- A step of a session on its lent rows: its answer, and the rows after it.
-- Assumes nothing.
use Rattle.std.specs.Prelude.{ℕ, ◌≤◌, Bool, cond, true, ◌&&◌, List, length, leb, Ok, Err}
use Rattle.lent.specs.Outcome.{Outcome, and_then}
use Rattle.samtags.specs.Session.{Lengths, Memory, held_in, held_with, stored}
use Rattle.samtags.specs.Writing.{Tag}
use Rattle.stepping.specs.declared.Lengths.{Lengths as Declared}

-- ---- the answers

abbrev pub lengths_of : Declared → Lengths
lengths_of n = record { seq = n.seq; text = n.mm; ml = n.ml }

-- a step's answer, with the lengths as the definitions have them
abbrev pub step_says : Outcome Declared → Outcome Lengths
step_says (Ok n) = Ok (lengths_of n)
step_says (Err r) = Err r

-- the lengths for the next step: the new ones, or the old ones after a refusal
abbrev pub lengths_after : Outcome Declared → Declared → Declared
lengths_after (Ok n) old = n
lengths_after (Err r) old = old

-- ---- the rows

-- three lent rows, and how much of each the session holds
abbrev pub memory : List ℕ → List ℕ → List ℕ → Declared → Memory
memory seq mm ml n = record { seq = seq; text = mm; ml = ml; lengths = lengths_of n }

-- the answer of a step, and the three rows after it
pub record Came : Type 0 where
  pub answer : Outcome Lengths
  pub seq : List ℕ
  pub text : List ℕ
  pub ml : List ℕ

abbrev pub came : Outcome Lengths → List ℕ → List ℕ → List ℕ → Came
came answer seq text ml = record { answer = answer; seq = seq; text = text; ml = ml }

-- a step on m with the outcome o: the new lengths and the new rows; a refusal, or 21, leaves every row unchanged
unfoldable pub leaves_memory : Memory → Outcome Memory → Came
leaves_memory m (Err r) = came (Err r) m.seq m.text m.ml
leaves_memory m (Ok n) = came (Ok n.lengths) n.seq n.text n.ml

-- SEQ becomes `after`, and the tag becomes the edited tag
abbrev pub stored_with : Bool → Memory → List ℕ → Outcome Tag → Outcome Memory
stored_with ml? m after o = and_then (held_with ml? (held_in m) after o) (λ s. Ok (stored ml? m s))

-- ---- the order of the lengths: contracts of support functions; no promise rests on them

-- the lengths n are not longer than the rows' lengths s, t and v
abbrev pub lengths_in_rows : Bool → ℕ → ℕ → ℕ → Lengths → Bool
lengths_in_rows ml? s t v n = leb n.seq s && leb n.text t && cond ml? (leb n.ml v) true

-- the lengths are within the domain and within the rows; without ML the ML length is ignored
abbrev pub Ordered : Bool → Memory → Type 0
Ordered ml? m =
    (m.lengths.seq ≤ 16000) × (m.lengths.text ≤ 65536) × (cond ml? m.lengths.ml 0 ≤ 65536)
    × (m.lengths.seq ≤ length m.seq) × (m.lengths.text ≤ length m.text) × (cond ml? m.lengths.ml 0 ≤ length m.ml)
