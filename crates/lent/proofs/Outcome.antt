-- Taking an outcome apart: what is known when it is done.
-- Assumes nothing.
use Rattle.std.specs.Prelude.{Ok, Err, IsErrAnd}
use mathlib.Core.Path.{◌≡◌, refl, ap}
use Prim.Native.Nat.{ℕ}
use native.Mathlib.Omega.{arith}
use mathlib.Core.Bool.{Bool, true, false, ◌&&◌}
use mathlib.Core.List.{List, [], ◌∷◌}
use Rattle.lent.specs.declared.Refusal.TheVariants.{TooLong, LengthsDisagree, MmNotAscii, MmNotClosed, ShortHeader, BadSkip, SkipTooFar, MlTooShort, MlLeftOver, DropWithoutMark, NoWindow, NoRoom, BadNumber, ShortRecord, BadFields, NoCalls, Unchanged}
use Rattle.lent.specs.Outcome.{Outcome, number, refusal, need, on_done, and_then, with_first}
use Rattle.lent.specs.declared.Refusal.{Refusal}

module _ {A : Type 0} where
  pub done_inj : {a b : A} → ◌≡◌ {A = Outcome A} (Ok a) (Ok b) → a ≡ b
  done_inj {a} {b} e = cc

  pub need_test : (t : Bool) (n : ℕ) (o : Outcome A) (a : A) → need t n o ≡ Ok a → t ≡ true
  need_test true n o a e = refl
  need_test false n o a e = cc

  pub need_rest : (t : Bool) (n : ℕ) (o : Outcome A) (a : A) → need t n o ≡ Ok a → o ≡ Ok a
  need_rest true n o a e = e
  need_rest false n o a e = cc

module _ {A B : Type 0} where
  pub and_then_inv : (o : Outcome A) (f : A → Outcome B) (b : B) → and_then o f ≡ Ok b → (a : A) × (o ≡ Ok a) × (f a ≡ Ok b)
  and_then_inv (Err r) f b e = let z : ◌≡◌ {A = ℕ} 0 1 = cc in absurd (omega arith)
  and_then_inv (Ok a) f b e = (a, refl, e)

  pub with_first_inv : (xs : List A) (n : ℕ) (f : A → List A → Outcome B) (b : B) → with_first xs n f ≡ Ok b
      → (x : A) × (rest : List A) × (xs ≡ x ∷ rest) × (f x rest ≡ Ok b)
  with_first_inv [] n f b e = let z : ◌≡◌ {A = ℕ} 0 1 = cc in absurd (omega arith)
  with_first_inv (x ∷ xs) n f b e = (x, xs, refl, e)

  pub on_done_inv : (f : A → B) (o : Outcome A) (b : B) → on_done f o ≡ Ok b → (a : A) × (o ≡ Ok a) × (f a ≡ b)
  on_done_inv f (Err r) b e = let z : ◌≡◌ {A = ℕ} 0 1 = cc in absurd (omega arith)
  on_done_inv f (Ok a) b e = (a, refl, done_inj e)

  pub on_done_refused : (f : A → B) (o : Outcome A) (r : Refusal) → on_done f o ≡ Err r → o ≡ Err r
  on_done_refused f (Err q) r e = let s : q ≡ r = cc in rw s
  on_done_refused f (Ok a) r e = let z : ◌≡◌ {A = ℕ} 0 1 = cc in absurd (omega arith)

  -- a test on the way to something that is done
  pub need_out : (s : Bool) (n : ℕ) (a : A) (f : A → Outcome B) → and_then (need s n (Ok a)) f ≡ need s n (f a)
  need_out true n a f = refl
  need_out false n a f = refl

  -- two tests with one number are one test
  pub need_both : (s t : Bool) (n : ℕ) (a : A) (f : A → Outcome B) → need s n (and_then (need t n (Ok a)) f) ≡ need (s && t) n (f a)
  need_both true true n a f = refl
  need_both true false n a f = refl
  need_both false t n a f = refl

-- a refusal is known from its number
pub refusal_of_number : (r : Refusal) → refusal (number r) ≡ r
refusal_of_number TooLong = refl
refusal_of_number LengthsDisagree = refl
refusal_of_number MmNotAscii = refl
refusal_of_number MmNotClosed = refl
refusal_of_number ShortHeader = refl
refusal_of_number BadSkip = refl
refusal_of_number SkipTooFar = refl
refusal_of_number MlTooShort = refl
refusal_of_number MlLeftOver = refl
refusal_of_number DropWithoutMark = refl
refusal_of_number NoWindow = refl
refusal_of_number NoRoom = refl
refusal_of_number BadNumber = refl
refusal_of_number ShortRecord = refl
refusal_of_number BadFields = refl
refusal_of_number NoCalls = refl
refusal_of_number Unchanged = refl

-- what a `?` returns
pub passed_on : {B : Type 0} (r : Outcome B) (e : Refusal) → IsErrAnd r (λ f. f ≡ e) → r ≡ Err e
passed_on (Ok b) e w = absurd w
passed_on (Err f) e w = ap Err w
