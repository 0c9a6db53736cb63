-- The optional fields of a BAM record (SAM v1, section 4.2.4). A field is its bytes: a name of two bytes, a type of one, and its value.
-- Assumes nothing.
use Rattle.std.specs.Prelude.{ℕ, zero, suc, ◌+◌, ◌*◌, Bool, cond, not, ◌&&◌, List, [], ◌∷◌, ◌++◌, leb, eqb, length, get_or, take, drop, Ok, Err}
use Rattle.lent.specs.Lists.{among, is_empty}
use Rattle.lent.specs.Outcome.{Outcome, need, and_then}
use Rattle.samtags.specs.Bytes.{ascii}
use Rattle.samtags.specs.Text.{up_to}
use Rattle.record_fields.specs.Bam.{word}

abbrev pub Field : Type 0
Field = List ℕ

-- ---- how many bytes a field takes; 0 if it does not parse, since no value takes 0 bytes

-- A, c, C: 1; s, S: 2; i, I, f: 4
abbrev pub fixed_size : ℕ → ℕ
fixed_size t = cond (among (ascii "AcC") t) 1 (cond (among (ascii "sS") t) 2 (cond (among (ascii "iIf") t) 4 0))

-- an array's elements are of these types, A excepted
abbrev pub element_size : ℕ → ℕ
element_size t = cond (eqb t 65) 0 (fixed_size t)

-- Z and H: up to and with the NUL
abbrev pub text_size : List ℕ → ℕ
text_size rest = cond (among rest 0) (length (up_to 0 rest) + 1) 0

-- B: the elements' type, their count in four bytes, and the elements
abbrev pub array_size : List ℕ → ℕ
array_size rest =
    let size = element_size (get_or rest 0 0) in
    cond (leb 5 (length rest) && not (eqb size 0)) (5 + word rest 1 * size) 0

-- a value of type t at the front of the rest
unfoldable pub value_size : ℕ → List ℕ → ℕ
value_size t rest = cond (eqb t 66) (array_size rest) (cond (among (ascii "ZH") t) (text_size rest) (fixed_size t))

-- the field at the front of some bytes, which must all be there
unfoldable pub field_size : List ℕ → ℕ
unfolding value_size
field_size bytes =
    let n = value_size (get_or bytes 2 0) (drop 3 bytes) in
    cond (leb 3 (length bytes) && not (eqb n 0) && leb (3 + n) (length bytes)) (3 + n) 0

-- ---- parsing and joining

-- the fields that the bytes are, at most k of them; 15 if a field does not parse
unfoldable pub fields_in : ℕ → List ℕ → Outcome (List Field)
unfolding field_size
fields_in zero bytes = need (is_empty bytes) 15 (Ok [])
fields_in (suc k) bytes =
    let n = field_size bytes in
    cond (is_empty bytes) (Ok [])
    (need (not (eqb n 0)) 15 (and_then (fields_in k (drop n bytes)) (λ fs. Ok (take n bytes ∷ fs))))

-- every field takes a byte or more, so there are at most as many fields as bytes
unfoldable pub fields : List ℕ → Outcome (List Field)
unfolding fields_in
fields bytes = fields_in (length bytes) bytes

-- the fields of bytes that parse
abbrev pub or_none : Outcome (List Field) → List Field
or_none (Err r) = []
or_none (Ok fs) = fs

unfoldable pub fields_of : List ℕ → List Field
unfolding fields
fields_of bytes = or_none (fields bytes)

abbrev pub joined : List Field → List ℕ
joined [] = []
joined (f ∷ fs) = f ++ joined fs

-- the bytes are one field
unfoldable pub is_field : Field → Bool
unfolding field_size
is_field f = not (eqb (field_size f) 0) && eqb (field_size f) (length f)

-- ---- names

-- The names that the calls look at, and every other name, each by a number of its own.
abbrev pub MM : ℕ
MM = 0

abbrev pub ML : ℕ
ML = 1

abbrev pub MN : ℕ
MN = 2

abbrev pub am : ℕ
am = 3

abbrev pub bm : ℕ
bm = 4

abbrev pub any_other : ℕ
any_other = 5

-- the name of two bytes
abbrev pub name_by : ℕ → ℕ → ℕ
name_by a b =
    cond (eqb a 77) (cond (eqb b 77) MM (cond (eqb b 76) ML (cond (eqb b 78) MN any_other)))
    (cond (eqb b 109) (cond (eqb a 97) am (cond (eqb a 98) bm any_other)) any_other)

unfoldable pub name_of : Field → ℕ
name_of f = name_by (get_or f 0 0) (get_or f 1 0)

-- the first field of a name; no bytes if there is none
unfoldable pub first_named : ℕ → List Field → Field
unfolding name_of
first_named k [] = []
first_named k (f ∷ fs) = cond (eqb (name_of f) k) f (first_named k fs)
