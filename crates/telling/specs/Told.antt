-- How a call's outcome is passed to a caller that has only numbers: the scope's number is returned, and the results go into lent numbers.
-- Assumes nothing.
use Rattle.std.specs.Prelude.{ℕ, Bool, not, eqb, Ok, Err}
use Rattle.lent.specs.Outcome.{Outcome}

-- a byte as a yes or no: any byte except 0 is yes
abbrev pub yes : ℕ → Bool
yes b = not (eqb b 0)

module _ {A B : Type 0} where
  -- a lent number (or array) after a call with this outcome: its part of the result, or unchanged
  abbrev pub told : (A → B) → Outcome A → B → B
  told part (Err r) was = was
  told part (Ok a) was = part a
