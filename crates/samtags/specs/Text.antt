-- How an MM text splits into groups, how a group splits into a header and entries, and what a header says.
-- Assumes nothing.
use Rattle.std.specs.Prelude.{ℕ, Bool, cond, List, [], ◌∷◌, length, get_or, drop, eqb}
use Rattle.lent.specs.Lists.{every, last_or}
use Rattle.pattern.specs.Case.{upper}
use Rattle.samtags.specs.Bytes.{question_mark, is_digit, is_mark}

-- the bytes before the first c, or all if there is no c
abbrev pub up_to : ℕ → List ℕ → List ℕ
up_to c [] = []
up_to c (x ∷ xs) = cond (eqb x c) [] (x ∷ up_to c xs)

-- the fields that c leads: after each c, the bytes up to the next c
abbrev pub led_by : ℕ → List ℕ → List (List ℕ)
led_by c [] = []
led_by c (x ∷ xs) = cond (eqb x c) (up_to c xs ∷ led_by c xs) (led_by c xs)

-- one more byte in front of the first piece; bytes that no c closes are no piece
abbrev pub push : ℕ → List (List ℕ) → List (List ℕ)
push x [] = []
push x (p ∷ ps) = (x ∷ p) ∷ ps

-- the pieces that c closes: before each c, the bytes since the previous c
abbrev pub closed_by : ℕ → List ℕ → List (List ℕ)
closed_by c [] = []
closed_by c (x ∷ xs) = cond (eqb x c) ([] ∷ closed_by c xs) (push x (closed_by c xs))

-- ---- a header: the bytes of a group before its first comma

-- the base whose places the group's entries count: the first byte, in upper case
unfoldable pub base_of : List ℕ → ℕ
unfolding upper
base_of header = upper (get_or header 0 0)

-- an unlisted base is of unknown status: the header ends in '?'
unfoldable pub ends_in_question : List ℕ → Bool
ends_in_question header = eqb (last_or 0 header) question_mark

-- one more byte in front of a text without end marks; a mark is removed if nothing follows it
unfoldable pub glue : ℕ → List ℕ → List ℕ
unfolding is_mark
glue x [] = cond (is_mark x) [] (x ∷ [])
glue x (y ∷ ys) = x ∷ y ∷ ys

-- the text without the '.' and '?' at its end
unfoldable pub without_marks : List ℕ → List ℕ
unfolding glue
without_marks [] = []
without_marks (x ∷ xs) = glue x (without_marks xs)

-- the codes: the bytes after the first two, without the marks at the end
unfoldable pub codes_of : List ℕ → List ℕ
unfolding without_marks
codes_of header = without_marks (drop 2 header)

-- the number of ML values per listed base: one if the codes are digits or empty, else one for each byte of the codes
unfoldable pub values_per : List ℕ → ℕ
unfolding codes_of is_digit
values_per header = cond (every is_digit (codes_of header)) 1 (length (codes_of header))
