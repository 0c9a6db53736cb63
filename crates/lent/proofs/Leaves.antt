-- A lent row after a call, from the answer that the call passes on: a refusal leaves the row unchanged, and Ok leaves the finished part.
-- Assumes nothing.
use Rattle.std.specs.Prelude.{Ok, Err}
use mathlib.Core.Path.{◌≡◌, sym, ap, ◌∙◌}
use Prim.Native.Nat.{ℕ}
use mathlib.Core.List.{List}
use lib.ListN.{length, take}
use Rattle.lent.proofs.Filled.{over_all, over_front, leaves_done, leaves_refused}
use Rattle.lent.specs.Filled.{over, leaves}
use Rattle.lent.specs.Outcome.{Outcome}
use Rattle.lent.specs.declared.Refusal.{Refusal}

-- an answer that was Ok is what the outcome was
pub said_done : (w : Outcome ℕ) (o : Outcome ℕ) (n : ℕ) → w ≡ o → w ≡ Ok n → o ≡ Ok n
said_done w o n e t = sym e ∙ t

module _ {B : Type 0} where
  pub refused_leaves : (part : ℕ → List B) (w : Outcome ℕ) (o : Outcome ℕ) (r : Refusal) (row : List B) → w ≡ o → w ≡ Err r
      → row ≡ leaves part o row
  refused_leaves part w o r row e t = rw (sym e, t, leaves_refused part r row)

  pub done_leaves : (part : ℕ → List B) (w : Outcome ℕ) (o : Outcome ℕ) (n : ℕ) (row : List B) → w ≡ o → w ≡ Ok n
      → over (part n) row ≡ leaves part o row
  done_leaves part w o n row e t = rw (sym e, t, leaves_done part n row)

  -- the part is all that the row holds
  pub done_leaves_all : (part : ℕ → List B) (w : Outcome ℕ) (o : Outcome ℕ) (n : ℕ) (row : List B) → w ≡ o → w ≡ Ok n
      → length (part n) ≡ length row → part n ≡ leaves part o row
  done_leaves_all part w o n row e t l = sym (over_all (part n) row l) ∙ done_leaves part w o n row e t

-- the front of a row that a call which was done has filled
pub front_is_part : {A B : Type 0} (part : A → List B) (o : Outcome A) (a : A) (row row' : List B) (n : ℕ) → o ≡ Ok a → row' ≡ leaves part o row
    → n ≡ length (part a) → take n row' ≡ part a
front_is_part part o a row row' n e f l = rw (f, e, leaves_done part a row, l) (over_front (part a) row)
