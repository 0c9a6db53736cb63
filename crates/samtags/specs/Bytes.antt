-- The bytes that a tag is made of. A byte is a natural number, and a text, a SEQ or an ML is a list of them.
-- Assumes nothing.
use Rattle.std.specs.Prelude.{ℕ, Bool, ◌&&◌, ◌||◌, List, [], ◌∷◌, leb, eqb}
use Prim.Native.Char.{code}
use Prim.Native.String.{String, [] as []ˢ, ◌∷◌ as ◌∷ˢ◌}

-- the bytes of a text in ASCII
abbrev pub ascii : String → List ℕ
ascii []ˢ = []
ascii (c ∷ˢ s) = code c ∷ ascii s

-- ','
abbrev pub comma : ℕ
comma = 44

-- ';'
abbrev pub semicolon : ℕ
semicolon = 59

-- '?'
abbrev pub question_mark : ℕ
question_mark = 63

-- 'N': in SEQ a masked base, in a header any base
abbrev pub letter_n : ℕ
letter_n = 78

-- '0' to '9'
unfoldable pub is_digit : ℕ → Bool
is_digit b = leb 48 b && leb b 57

-- '.' and '?', the marks that may end a header
unfoldable pub is_mark : ℕ → Bool
is_mark b = eqb b 46 || eqb b question_mark

-- at most 127
abbrev pub is_ascii : ℕ → Bool
is_ascii b = leb b 127
