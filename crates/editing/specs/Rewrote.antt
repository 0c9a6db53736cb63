-- The answer of a call that edits a tag, and the two rows (text and ML) after the call.
-- Assumes nothing.
use Rattle.std.specs.Prelude.{ℕ, Bool, cond, List, [], length}
use Rattle.lent.specs.Filled.{leaves}
use Rattle.lent.specs.Outcome.{Outcome, on_done}
use Rattle.samtags.specs.Writing.{Tag}

-- the values of a tag, if it has an ML
abbrev pub values_with : Bool → Tag → List ℕ
values_with ml? t = cond ml? t.ml []

abbrev pub sizes_with : Bool → Tag → ℕ × ℕ
sizes_with ml? t = (length t.text, length (values_with ml? t))

-- the answer of a call, and the rows lent for text and ML after the call
pub record Rewrote : Type 0 where
  pub answer : Outcome (ℕ × ℕ)
  pub text : List ℕ
  pub ml : List ℕ

abbrev pub rewrote : Outcome (ℕ × ℕ) → List ℕ → List ℕ → Rewrote
rewrote answer text ml = record { answer = answer; text = text; ml = ml }

-- a call with the outcome o: the edited tag at the front of the rows and the rest unchanged, or the rows unchanged. Without ML the ML row is unchanged.
unfoldable pub leaves_tag : Bool → Outcome Tag → List ℕ → List ℕ → Rewrote
unfolding leaves
leaves_tag ml? o text ml = rewrote (on_done (sizes_with ml?) o) (leaves (λ (t : Tag). t.text) o text) (leaves (values_with ml?) o ml)
