-- A lent output after a call. If the call is done, the finished list is at the front of the output and the rest is unchanged. If the call is refused,
-- every element is unchanged.
-- Assumes nothing.
use Rattle.std.specs.Prelude.{List, ◌++◌, length, drop, Ok, Err}
use Rattle.lent.specs.Outcome.{Outcome}

module _ {A : Type 0} where
  -- the list l at the front of the output, the rest unchanged
  unfoldable pub over : List A → List A → List A
  over l out = l ++ drop (length l) out

module _ {A B : Type 0} where
  -- the row `row` after a call with this outcome; `part` takes the list for this row from the finished answer
  unfoldable pub leaves : (A → List B) → Outcome A → List B → List B
  unfolding over
  leaves part (Err r) row = row
  leaves part (Ok a) row = over (part a) row
