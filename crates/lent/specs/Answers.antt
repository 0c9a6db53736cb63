-- The numbers that a call can answer.
-- Assumes nothing.
use Rattle.std.specs.Prelude.{◌≡◌, ℕ, Bool, true, false, List, ◌∷◌, Ok, Err}
use Rattle.lent.specs.Lists.{among}
use Rattle.lent.specs.Outcome.{Outcome, number, number_of}

module _ {A : Type 0} where
  -- the outcome is done, not a refusal
  abbrev pub is_done : Outcome A → Bool
  is_done (Err r) = false
  is_done (Ok a) = true

  -- if the outcome is a refusal, its number is in the list
  abbrev pub refuses_only : List ℕ → Outcome A → Bool
  refuses_only ns (Err r) = among ns (number r)
  refuses_only ns (Ok a) = true

  -- The number is 0 or in the list, and it is 0 exactly when the outcome is done.
  pub record Answers (ns : List ℕ) (o : Outcome A) : Type 0 where
    pub number_among : among (0 ∷ ns) (number_of o) ≡ true
    pub done_is_zero : is_done o ≡ true → number_of o ≡ 0
    pub zero_is_done : number_of o ≡ 0 → is_done o ≡ true
