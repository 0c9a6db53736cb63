-- Packed SEQ (SAM v1): two bases to a byte, the first of the two in the high half. A base is a code from 0 to 15, the place of its letter in
-- `=ACMGRSVTWYHKDBN`. If the number of bases is odd, the low half of the last byte is spare: it is not read, and is written as 0.
-- Assumes nothing.
use Rattle.std.specs.Prelude.{ℕ, suc, ◌+◌, ◌*◌, ◌/◌, ◌%◌, cond, List, [], ◌∷◌, map, reverse, length, get_or, eqb, ltb}
use Rattle.lent.specs.Lists.{tabulate}
use Rattle.samtags.specs.Bytes.{ascii}

-- ---- letters and codes

abbrev pub letters : List ℕ
letters = ascii "=ACMGRSVTWYHKDBN"

-- the complement of each letter, in the same order: what pairs with the bases that the letter stands for
abbrev pub complements : List ℕ
complements = ascii "=TGKCYSBAWRDMHVN"

-- the letter of a code
abbrev pub letter_of : ℕ → ℕ
letter_of code = get_or letters code 0

-- the place of x in a list whose first place is i; 15, the code of N, if x is not in the list
abbrev pub place_in : ℕ → ℕ → List ℕ → ℕ
place_in i x [] = 15
place_in i x (y ∷ ys) = cond (eqb x y) i (place_in (suc i) x ys)

-- the code of a letter; every other byte has the code of N
unfoldable pub code_of : ℕ → ℕ
code_of x = place_in 0 x letters

unfoldable pub complement : ℕ → ℕ
unfolding code_of
complement x = get_or complements (code_of x) 0

-- the bases of the other strand, in its own direction
unfoldable pub reverse_complement : List ℕ → List ℕ
unfolding complement
reverse_complement seq = reverse (map complement seq)

-- ---- packing

-- the number of bytes that n bases take
abbrev pub bytes_for : ℕ → ℕ
bytes_for n = (n + 1) / 2

-- the code at place p: byte p / 2 has it in its high half if p is even, and in its low half if p is odd
abbrev pub code_at : List ℕ → ℕ → ℕ
code_at packed p = cond (eqb (p % 2) 0) (get_or packed (p / 2) 0 / 16) (get_or packed (p / 2) 0 % 16)

-- the first n bases of a packed SEQ, as letters
unfoldable pub unpack : ℕ → List ℕ → List ℕ
unpack n packed = tabulate n (λ p. letter_of (code_at packed p))

-- the half byte at place p of a packed SEQ: the base's code, or 0 past the last base
unfoldable pub half_at : List ℕ → ℕ → ℕ
unfolding code_of
half_at seq p = cond (ltb p (length seq)) (code_of (get_or seq p 0)) 0

unfoldable pub pack : List ℕ → List ℕ
unfolding half_at
pack seq = tabulate (bytes_for (length seq)) (λ i. 16 * half_at seq (2 * i) + half_at seq (2 * i + 1))

-- a packed SEQ of n bases, reverse-complemented
unfoldable pub turn : ℕ → List ℕ → List ℕ
unfolding pack reverse_complement unpack
turn n packed = pack (reverse_complement (unpack n packed))

-- ---- the table's rule

-- the eight bits of a byte, in reverse order
abbrev pub bits_reversed : ℕ → ℕ
bits_reversed b =
    128 * (b % 2) + 64 * (b / 2 % 2) + 32 * (b / 4 % 2) + 16 * (b / 8 % 2) + 8 * (b / 16 % 2) + 4 * (b / 32 % 2) + 2 * (b / 64 % 2) + b / 128 % 2
