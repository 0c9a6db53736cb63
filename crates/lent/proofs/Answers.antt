-- The numbers that an outcome can have, from the form of its definition: one law for each way to make an outcome.
-- Assumes nothing.
use Rattle.std.specs.Prelude.{Ok, Err}
use mathlib.Core.Path.{◌≡◌, refl, sym, ap, ◌∙◌}
use Prim.Native.Nat.{ℕ}
use native.Mathlib.Omega.{arith}
use mathlib.Core.Bool.{Bool, true, false, or-true}
use mathlib.Core.List.{List, [], ◌∷◌}
use lib.Dec.{eqb}
use Rattle.lent.specs.Answers.{Answers, is_done, refuses_only}
use Rattle.lent.specs.Filled.{leaves}
use Rattle.lent.specs.Lists.{among}
use Rattle.lent.specs.Outcome.{Outcome, number, refusal, need, on_done, and_then, with_first}

module _ {A : Type 0} where
  pub only_need : (ns : List ℕ) (t : Bool) (n : ℕ) (o : Outcome A) → among ns (number (refusal n)) ≡ true → refuses_only ns o ≡ true → refuses_only ns (need t n o) ≡ true
  only_need ns true n o h k = k
  only_need ns false n o h k = h

  -- none of these is 0, so that 0 says that something was done
  pub answers : (ns : List ℕ) (o : Outcome A) → among ns 0 ≡ false → refuses_only ns o ≡ true → Answers ns o
  answers ns (Ok a) z k = record { number_among = refl; done_is_zero = λ d. refl; zero_is_done = λ e. refl }
  answers ns (Err r) z k = record {
    number_among = rw k (or-true (eqb 0 (number r)));
    done_is_zero = λ d. let n : ◌≡◌ {A = ℕ} 0 1 = cc in absurd (omega arith);
    zero_is_done = λ e. sym z ∙ ap (among ns) (sym e) ∙ k;
  }

module _ {A B : Type 0} where
  pub only_on_done : (ns : List ℕ) (f : A → B) (o : Outcome A) → refuses_only ns o ≡ true → refuses_only ns (on_done f o) ≡ true
  only_on_done ns f (Err r) k = k
  only_on_done ns f (Ok a) k = refl

  pub only_and_then : (ns : List ℕ) (o : Outcome A) (f : A → Outcome B) → refuses_only ns o ≡ true → ((a : A) → refuses_only ns (f a) ≡ true)
      → refuses_only ns (and_then o f) ≡ true
  only_and_then ns (Err r) f k l = k
  only_and_then ns (Ok a) f k l = l a

  pub only_with_first : (ns : List ℕ) (xs : List A) (n : ℕ) (f : A → List A → Outcome B) → among ns (number (refusal n)) ≡ true
      → ((x : A) (rest : List A) → refuses_only ns (f x rest) ≡ true) → refuses_only ns (with_first xs n f) ≡ true
  only_with_first ns [] n f h l = h
  only_with_first ns (x ∷ xs) n f h l = l x xs

-- ---- a call that is not done has written nothing

module _ {A B : Type 0} where
  -- a row, from the outcome that it is left by
  pub row_kept : (part : A → List B) (o : Outcome A) (row row' : List B) → row' ≡ leaves part o row → is_done o ≡ false → row' ≡ row
  unfolding leaves
  row_kept part (Err r) row row' e d = e
  row_kept part (Ok a) row row' e d = let z : ◌≡◌ {A = ℕ} 0 1 = cc in absurd (omega arith)

  -- the answer is not done exactly when the outcome is not
  pub not_done : (f : A → B) (o : Outcome A) (s : Outcome B) → s ≡ on_done f o → is_done s ≡ false → is_done o ≡ false
  not_done f (Err r) s e d = refl
  not_done f (Ok a) s e d = sym (ap is_done e) ∙ d
