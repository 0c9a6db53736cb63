-- A BAM record (SAM v1, section 4.2), without its block size: a head of fixed size, name, CIGAR, packed SEQ and qualities, and after them the optional
-- fields. Every number is little-endian.
-- Assumes nothing.
use Rattle.std.specs.Prelude.{ℕ, ◌+◌, ◌*◌, ◌/◌, ◌%◌, Bool, ◌&&◌, List, [], ◌∷◌, leb, eqb, length, get_or, take, drop}
use Rattle.packed.specs.Packed.{bytes_for}

-- the 16-bit number at a byte
abbrev pub half : List ℕ → ℕ → ℕ
half bytes i = get_or bytes i 0 + 256 * get_or bytes (i + 1) 0

-- the 32-bit number at a byte
abbrev pub word : List ℕ → ℕ → ℕ
word bytes i = half bytes i + 65536 * half bytes (i + 2)

-- the four bytes of a 32-bit number
abbrev pub word_bytes : ℕ → List ℕ
word_bytes n = n % 256 ∷ n / 256 % 256 ∷ n / 65536 % 256 ∷ n / 16777216 % 256 ∷ []

-- ---- the head

-- flag 0x10: SEQ is stored reverse-complemented
abbrev pub is_reverse : List ℕ → Bool
is_reverse rec = eqb (half rec 14 / 16 % 2) 1

-- l_seq: the number of bases
abbrev pub seq_length : List ℕ → ℕ
seq_length rec = word rec 16

-- where packed SEQ begins: after 32 bytes, the name (l_read_name bytes) and the CIGAR (n_cigar_op words)
abbrev pub seq_start : List ℕ → ℕ
seq_start rec = 32 + get_or rec 8 0 + 4 * half rec 12

-- everything before the optional fields: SEQ takes a byte for two bases, the qualities a byte for each
abbrev pub head_size : List ℕ → ℕ
head_size rec = seq_start rec + bytes_for (seq_length rec) + seq_length rec

-- the record is as long as its head says
abbrev pub is_whole : List ℕ → Bool
is_whole rec = leb 32 (length rec) && leb (head_size rec) (length rec)

-- the bytes of packed SEQ
abbrev pub packed_seq : List ℕ → List ℕ
packed_seq rec = take (bytes_for (seq_length rec)) (drop (seq_start rec) rec)
