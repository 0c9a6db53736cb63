-- The lines of `tagedit`: how the input splits into lines, what a line says, and how an answer and the session's contents are written as lines.
-- Assumes nothing.
use Rattle.std.specs.Prelude.{ℕ, Bool, cond, ◌&&◌, List, [], ◌∷◌, ◌++◌, map, take, drop, leb, eqb, Option, None, Some}
use Prim.Native.String.{String}
use Rattle.lent.specs.Lists.{every, is_empty}
use Rattle.samtags.specs.Bytes.{ascii, comma}
use Rattle.samtags.specs.Decimal.{is_number, value, digits}
use Rattle.samtags.specs.Text.{up_to, led_by}
use Rattle.samtags.specs.Edits.{same_bytes_of}
use Rattle.samtags.specs.Session.{Step, mask, drop_calls, cut}

-- LF
abbrev pub line_end : ℕ
line_end = 10

-- one more byte in front of the first line; if there is no line, the byte is the last line, which has no LF
abbrev pub pushed : ℕ → List (List ℕ) → List (List ℕ)
pushed x [] = (x ∷ []) ∷ []
pushed x (l ∷ ls) = (x ∷ l) ∷ ls

-- the lines, each without its LF; a CR belongs to its line
abbrev pub lines_of : List ℕ → List (List ℕ)
lines_of [] = []
lines_of (x ∷ xs) = cond (eqb x line_end) ([] ∷ lines_of xs) (pushed x (lines_of xs))

-- ---- what a line says

-- the line begins with the mark
abbrev pub has_mark : String → List ℕ → Bool
has_mark mark line = same_bytes_of (take 2 line) (ascii mark)

-- the bytes after the mark
abbrev pub body_of : List ℕ → List ℕ
body_of line = drop 2 line

-- the fields between commas; there is at least one
abbrev pub joined : List ℕ → List (List ℕ)
joined body = up_to comma body ∷ led_by comma body

-- each field is a plain decimal of at most `most`, leading zeros allowed
unfoldable pub are_numbers : ℕ → List (List ℕ) → Bool
unfolding is_number value
are_numbers most fields = every (λ f. is_number f && leb (value f) most) fields

-- the numbers between commas, or `None` if the line is bad
unfoldable pub numbers_of : ℕ → List ℕ → Option (List ℕ)
unfolding are_numbers value
numbers_of most body = cond (are_numbers most (joined body)) (Some (map value (joined body))) None

-- the values of an ML line: `ML` alone is an empty ML
unfoldable pub values_of : List ℕ → Option (List ℕ)
unfolding numbers_of
values_of line = cond (is_empty (body_of line)) (Some []) (numbers_of 255 (body_of line))

-- bases off the front and off the back: exactly two numbers
abbrev pub cut_of : List ℕ → Option Step
cut_of [] = None
cut_of (front ∷ []) = None
cut_of (front ∷ back ∷ []) = Some (cut front back)
cut_of (front ∷ back ∷ more ∷ ns) = None

module _ {A B : Type 0} where
  -- f of the value if there is one, else d
  abbrev pub given : Option A → B → (A → B) → B
  given None d f = d
  given (Some a) d f = f a

-- the step that a line asks for, or `None` if the line is bad; a number is a u32
unfoldable pub step_of : List ℕ → Option Step
unfolding numbers_of
step_of line =
    given (numbers_of 4294967295 (body_of line)) None (λ ns.
    cond (has_mark "MK" line) (Some (mask ns))
    (cond (has_mark "DR" line) (Some (drop_calls ns))
    (cond (has_mark "CU" line) (cut_of ns) None)))

-- ---- what is written

-- a line of the output
abbrev pub line_of : String → List ℕ → List ℕ
line_of mark body = ascii mark ++ body ++ line_end ∷ []

-- an answer's number
unfoldable pub answer_line : ℕ → List ℕ
unfolding digits
answer_line n = line_of "AN" (digits n)

-- decimals separated by commas
unfoldable pub decimals : List ℕ → List ℕ
unfolding digits
decimals [] = []
decimals (v ∷ []) = digits v
decimals (v ∷ w ∷ vs) = digits v ++ comma ∷ decimals (w ∷ vs)
