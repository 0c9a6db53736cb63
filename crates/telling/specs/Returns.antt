-- The numbers that an export can return to a C program.
-- Assumes nothing.
use Rattle.std.specs.Prelude.{◌≡◌, ℕ, true, List, ◌∷◌}
use Rattle.lent.specs.Answers.{is_done}
use Rattle.lent.specs.Lists.{among}
use Rattle.lent.specs.Outcome.{Outcome}

-- An export whose call has the outcome o returns r: 0 or a number in the list, and 0 exactly when the call is done.
pub record Returns {A : Type 0} (ns : List ℕ) (o : Outcome A) (r : ℕ) : Type 0 where
  pub number_among : among (0 ∷ ns) r ≡ true
  pub done_is_zero : is_done o ≡ true → r ≡ 0
  pub zero_is_done : r ≡ 0 → is_done o ≡ true
