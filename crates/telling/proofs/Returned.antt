-- An export returns the number of its call's outcome. So the numbers of the call are those of the export, and with a number other than 0 everything that
-- was lent is unchanged.
-- Assumes nothing.
use Rattle.std.specs.Prelude.{Ok, Err}
use mathlib.Core.Path.{◌≡◌, ◌∙◌, ap, refl, subst, sym}
use Prim.Native.Nat.{ℕ}
use native.Mathlib.Omega.{arith}
use mathlib.Core.Bool.{true, false}
use mathlib.Core.List.{List, ◌∷◌}
use lib.Dec.{eqb}
use lib.ListN.{length}
use Rattle.lent.specs.Answers.{Answers, is_done, refuses_only}
use Rattle.lent.specs.Lists.{among, every}
use Rattle.lent.specs.Outcome.{Outcome, number, number_of, on_done}
use Rattle.lent.proofs.Answers.{answers}
use Rattle.telling.specs.Returns.{Returns}
use Rattle.telling.specs.Told.{told}
use Rattle.samtags.proofs.Text.{among_every}

module _ {A : Type 0} where
  -- from the numbers of the outcome, however they are known
  returned : (ns : List ℕ) (o : Outcome A) {r : ℕ} → r ≡ number_of o → Answers ns o → Returns ns o r
  returned ns o e h = record {
    number_among = ap (among (0 ∷ ns)) e ∙ h.number_among;
    done_is_zero = λ d. e ∙ h.done_is_zero d;
    zero_is_done = λ z. h.zero_is_done (sym e ∙ z);
  }

  pub returned_only : (ns : List ℕ) (o : Outcome A) {r : ℕ} → among ns 0 ≡ false → r ≡ number_of o → refuses_only ns o ≡ true → Returns ns o r
  returned_only ns o z e k = returned ns o e (answers ns o z k)

  -- a larger set
  pub only_more : (ns ms : List ℕ) (o : Outcome A) → every (among ms) ns ≡ true → refuses_only ns o ≡ true → refuses_only ms o ≡ true
  only_more ns ms (Err r) h k = among_every (among ms) ns (number r) h k
  only_more ns ms (Ok a) h k = refl

-- ---- from what is known of a call's answers

on_done_answers : {A : Type 0} (ns : List ℕ) (f : A → ℕ) (o : Outcome A) → Answers ns (on_done f o) → Answers ns o
on_done_answers ns f (Err r) h = record {
  number_among = h.number_among;
  done_is_zero = h.done_is_zero;
  zero_is_done = h.zero_is_done;
}
on_done_answers ns f (Ok a) h = record {
  number_among = h.number_among;
  done_is_zero = h.done_is_zero;
  zero_is_done = h.zero_is_done;
}

-- of a call that answers how many entries it wrote
pub returned_written : (ns : List ℕ) (o : Outcome ℕ) {r : ℕ} → r ≡ number_of o → ((w : Outcome ℕ) → w ≡ o → Answers ns w) → Returns ns o r
returned_written ns o e h = returned ns o e (h o refl)

-- and whose definition gives the entries themselves
pub returned_filled : {A : Type 0} (ns : List ℕ) (o : Outcome (List A)) {r : ℕ} → r ≡ number_of o
    → ((w : Outcome ℕ) → w ≡ on_done length o → Answers ns w) → Returns ns o r
returned_filled ns o e h = returned ns o e (on_done_answers ns length o (h (on_done length o) refl))

-- ---- a number other than 0

module _ {A : Type 0} where
  pub not_returned : (o : Outcome A) {r : ℕ} → r ≡ number_of o → eqb r 0 ≡ false → is_done o ≡ false
  not_returned (Err q) e z = refl
  not_returned (Ok a) e z = sym (ap (λ n. eqb n 0) e) ∙ z

module _ {A B : Type 0} where
  -- what was lent for one number or array is as it was
  pub told_kept : (part : A → B) (o : Outcome A) (was is : B) → is ≡ told part o was → is_done o ≡ false → is ≡ was
  told_kept part (Err q) was is e d = e
  told_kept part (Ok a) was is e d = let z : ◌≡◌ {A = ℕ} 0 1 = cc in absurd (omega arith)
