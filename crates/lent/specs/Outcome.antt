-- The outcome of a call: the result that was asked for, or why there is none. The numbers 20 and 21 are no refusals, but they are represented
-- in the same way: with them nothing is written either.
-- Assumes nothing.
use Rattle.std.specs.Prelude.{ℕ, ◌==◌, Bool, true, false, List, [], ◌∷◌, Result, Ok, Err, if◌then◌else◌}
use Rattle.lent.specs.declared.Refusal.{Refusal}
use Rattle.lent.specs.declared.Refusal.TheVariants.{TooLong, LengthsDisagree, MmNotAscii, MmNotClosed, ShortHeader, BadSkip, SkipTooFar, MlTooShort, MlLeftOver, DropWithoutMark, NoWindow, NoRoom, BadNumber, ShortRecord, BadFields, NoCalls, Unchanged}

abbrev pub Outcome : Type 0 → Type 0
Outcome A = Result A Refusal

-- the number of the scope's table
abbrev pub number : Refusal → ℕ
number TooLong = 1
number LengthsDisagree = 2
number MmNotAscii = 3
number MmNotClosed = 4
number ShortHeader = 5
number BadSkip = 6
number SkipTooFar = 7
number MlTooShort = 8
number MlLeftOver = 9
number DropWithoutMark = 10
number NoWindow = 11
number NoRoom = 12
number BadNumber = 13
number ShortRecord = 14
number BadFields = 15
number NoCalls = 20
number Unchanged = 21

-- the refusal with a number of the scope's table; any other number, of which no definition makes use, gives the last one
abbrev pub refusal : ℕ → Refusal
refusal n =
    if n == 1 then TooLong else
    if n == 2 then LengthsDisagree else
    if n == 3 then MmNotAscii else
    if n == 4 then MmNotClosed else
    if n == 5 then ShortHeader else
    if n == 6 then BadSkip else
    if n == 7 then SkipTooFar else
    if n == 8 then MlTooShort else
    if n == 9 then MlLeftOver else
    if n == 10 then DropWithoutMark else
    if n == 11 then NoWindow else
    if n == 12 then NoRoom else
    if n == 13 then BadNumber else
    if n == 14 then ShortRecord else
    if n == 15 then BadFields else
    if n == 20 then NoCalls else Unchanged

module _ {A : Type 0} where
  abbrev pub refuse : ℕ → Outcome A
  refuse n = Err (refusal n)

  -- refused with n if the test fails
  abbrev pub need : Bool → ℕ → Outcome A → Outcome A
  need true n o = o
  need false n o = refuse n

  -- the number of the scope's table; 0 is done
  abbrev pub number_of : Outcome A → ℕ
  number_of (Err r) = number r
  number_of (Ok a) = 0

module _ {A B : Type 0} where
  -- passes a refusal on, or applies f to the result
  abbrev pub on_done : (A → B) → Outcome A → Outcome B
  on_done f (Err r) = Err r
  on_done f (Ok a) = Ok (f a)

  -- passes a refusal on, or answers f of the result
  abbrev pub and_then : Outcome A → (A → Outcome B) → Outcome B
  and_then (Err r) f = Err r
  and_then (Ok a) f = f a

  -- f of the first element and the rest, or refused with n if the list is empty
  abbrev pub with_first : List A → ℕ → (A → List A → Outcome B) → Outcome B
  with_first [] n f = refuse n
  with_first (x ∷ xs) n f = f x xs
