-- Handing on an outcome: the number of a call's answer is the number of its definition, and a lent number holds its part of the outcome.
-- Assumes nothing.
use Rattle.std.specs.Prelude.{Ok, Err}
use Prim.Native.Nat.{ℕ}
use mathlib.Core.Path.{◌≡◌, ◌∙◌, ap, refl}
use Rattle.lent.specs.Outcome.{Outcome, number_of, on_done}
use Rattle.telling.specs.Told.{told}

module _ {A B : Type 0} where
  pub number_on_done : (f : A → B) (o : Outcome A) → number_of (on_done f o) ≡ number_of o
  number_on_done f (Err r) = refl
  number_on_done f (Ok a) = refl

module _ {A B C : Type 0} where
  pub told_on_done : (part : B → C) (f : A → B) (o : Outcome A) (was : C) → told part (on_done f o) was ≡ told (λ a. part (f a)) o was
  told_on_done part f (Err r) was = refl
  told_on_done part f (Ok a) was = refl

module _ {A B : Type 0} where
  -- the number that was told of an answer w is the number of the outcome o that w says
  pub number_handed : (f : A → B) (o : Outcome A) {w : Outcome B} {r : ℕ} → w ≡ on_done f o → r ≡ number_of w → r ≡ number_of o
  number_handed f o e n = n ∙ ap number_of e ∙ number_on_done f o

module _ {A B C : Type 0} where
  -- and what a lent number holds is its part of that outcome
  pub told_handed : (part : B → C) (f : A → B) (o : Outcome A) (was : C) {w : Outcome B} {is : C} →
      w ≡ on_done f o → is ≡ told part w was → is ≡ told (λ a. part (f a)) o was
  told_handed part f o was e t = t ∙ ap (λ v. told part v was) e ∙ told_on_done part f o was
