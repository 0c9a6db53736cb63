-- The reference places of a read's bases in an alignment: SAM v1's table of CIGAR operations, the walk forward from the alignment's start, the walk
-- backward from its end, and the outcome of the public call.
-- Assumes nothing.
use Rattle.std.specs.Prelude.{ℕ, zero, suc, ◌+◌, ◌-◌, ◌/◌, ◌%◌, Bool, true, false, cond, ◌&&◌, List, [], ◌∷◌, ◌++◌, reverse, ℤ, pos, negsuc, length, replicate, leb, Ok}
use Rattle.lent.specs.Lists.{every, among}
use Rattle.lent.specs.Outcome.{Outcome, need, and_then}

-- ---- one operation: a BAM word is length times 16 plus kind; the kinds 0 to 8 are M I D N S H P = X

abbrev pub length_of : ℕ → ℕ
length_of word = word / 16

abbrev pub kind_of : ℕ → ℕ
kind_of word = word % 16

abbrev pub is_known : ℕ → Bool
is_known word = leb (kind_of word) 8

-- M I S = X take bases of the read
abbrev pub takes_bases : ℕ → Bool
takes_bases kind = among (0 ∷ 1 ∷ 4 ∷ 7 ∷ 8 ∷ []) kind

-- M D N = X take places of the reference
abbrev pub takes_places : ℕ → Bool
takes_places kind = among (0 ∷ 2 ∷ 3 ∷ 7 ∷ 8 ∷ []) kind

-- how many bases of the read an operation takes, and how many places of the reference
abbrev pub bases_taken : ℕ → ℕ
bases_taken word = cond (takes_bases (kind_of word)) (length_of word) 0

abbrev pub places_taken : ℕ → ℕ
places_taken word = cond (takes_places (kind_of word)) (length_of word) 0

-- the sum over all operations
abbrev pub total : (ℕ → ℕ) → List ℕ → ℕ
total taken [] = 0
total taken (w ∷ ws) = taken w + total taken ws

abbrev pub query_length : List ℕ → ℕ
query_length words = total bases_taken words

abbrev pub reference_span : List ℕ → ℕ
reference_span words = total places_taken words

-- ---- the walk: each base's place, or -1 if the base has none

abbrev pub missing : ℤ
missing = negsuc 0

-- n consecutive places: upward from p, and downward from e - 1
abbrev pub up_from : ℕ → ℕ → List ℤ
up_from p zero = []
up_from p (suc n) = pos p ∷ up_from (suc p) n

abbrev pub down_from : ℕ → ℕ → List ℤ
down_from e zero = []
down_from e (suc n) = pos (e - 1) ∷ down_from (e - 1) n

-- the places of one operation's bases: the given ones, or all missing if the operation takes no places of the reference
abbrev pub placed : ℕ → List ℤ → List ℤ
placed word places = cond (takes_places (kind_of word)) places (replicate (bases_taken word) missing)

-- the walk from the first operation on; p is the next place of the reference
abbrev pub forward : ℕ → List ℕ → List ℤ
forward p [] = []
forward p (w ∷ ws) = placed w (up_from p (bases_taken w)) ++ forward (p + places_taken w) ws

-- the walk from the last operation back, with the operations given in that order; e is the place after the rest of the alignment
abbrev pub backward : ℕ → List ℕ → List ℤ
backward e [] = []
backward e (w ∷ ws) = placed w (down_from e (bases_taken w)) ++ backward (e - places_taken w) ws

-- a forward read is walked from the alignment's start, a reverse read from its end
abbrev pub read_places : Bool → List ℕ → ℕ → List ℤ
read_places false words start = forward start words
read_places true words start = backward (start + reference_span words) (reverse words)

-- ---- the public call

-- a start is neither negative nor too large
abbrev pub is_start : ℤ → Bool
is_start (pos n) = leb n 2147483647
is_start (negsuc n) = false

abbrev pub start_of : ℤ → ℕ
start_of (pos n) = n
start_of (negsuc n) = 0

-- the check, without the walk: 13 for an unknown kind in any word or for the start, then 1; Ok with the read's number of bases
abbrev pub checked : List ℕ → ℤ → Outcome ℕ
checked words start =
    need (every is_known words && is_start start) 13
    (need (leb (length words) 65535 && leb (query_length words) 16000) 1
    (Ok (query_length words)))

-- last 12, if the row lent for the places is too short
abbrev pub query_places : List ℕ → ℤ → Bool → ℕ → Outcome (List ℤ)
query_places words start reversed room =
    and_then (checked words start) (λ bases. need (leb bases room) 12 (Ok (read_places reversed words (start_of start))))
