-- What the five fields hold (SAM v1, section 4.2.4; SAMtags): a text, an array of bytes, an integer.
-- Assumes nothing.
use Rattle.std.specs.Prelude.{ℕ, ◌-◌, Bool, cond, not, ◌&&◌, ◌||◌, List, [], ◌∷◌, ◌++◌, leb, eqb, length, get_or, take, drop}
use Rattle.lent.specs.Lists.{among}
use Rattle.record_fields.specs.Bam.{half, word, word_bytes}
use Rattle.record_fields.specs.Fields.{Field}
use Rattle.samtags.specs.Bytes.{ascii}

abbrev pub type_of : Field → ℕ
type_of f = get_or f 2 0

-- ---- Z: a text, and a NUL after it

abbrev pub is_text : Field → Bool
is_text f = eqb (type_of f) 90

abbrev pub text_of : Field → List ℕ
text_of f = take (length f - 4) (drop 3 f)

abbrev pub with_text : List ℕ → Field → Field
with_text text f = take 3 f ++ (text ++ 0 ∷ [])

-- ---- B:C: an array of bytes, after its count

abbrev pub is_byte_array : Field → Bool
is_byte_array f = eqb (type_of f) 66 && eqb (get_or f 3 0) 67

abbrev pub values_of : Field → List ℕ
values_of f = drop 8 f

abbrev pub with_values : List ℕ → Field → Field
with_values vs f = take 4 f ++ (word_bytes (length vs) ++ vs)

-- ---- c, C, s, S, i and I: an integer; the types in lower case have a sign

abbrev pub is_integer : Field → Bool
is_integer f = among (ascii "cCsSiI") (type_of f)

-- the integer's bytes as a number without a sign
abbrev pub unsigned_of : Field → ℕ
unsigned_of f = cond (among (ascii "cC") (type_of f)) (get_or f 3 0) (cond (among (ascii "sS") (type_of f)) (half f 3) (word f 3))

abbrev pub is_negative : Field → Bool
is_negative f =
    eqb (type_of f) 99 && leb 128 (unsigned_of f) || eqb (type_of f) 115 && leb 32768 (unsigned_of f) || eqb (type_of f) 105 && leb 2147483648 (unsigned_of f)

-- an integer that is not n
abbrev pub disagrees : ℕ → Field → Bool
disagrees n f = is_integer f && (is_negative f || not (eqb (unsigned_of f) n))

-- an integer as these calls write it: type i
abbrev pub with_integer : ℕ → Field → Field
with_integer n f = take 2 f ++ 105 ∷ word_bytes n
