-- Fields by their bytes: one of each type, and bytes that are refused with 15.
-- Assumes nothing.
use Rattle.std.specs.Prelude.{Ok}
use mathlib.Core.Path.{◌≡◌, refl}
use mathlib.Core.Bool.{true, false}
use mathlib.Core.List.{List, [], ◌∷◌, ◌++◌, map}
use lib.ListN.{replicate}
use Rattle.lent.specs.Outcome.{refuse}
use Rattle.samtags.specs.Bytes.{ascii}
use Rattle.record_fields.specs.Bam.{is_whole}
use Rattle.record_fields.specs.Fields.{MM, Field, am, field_size, fields, first_named, joined}

-- A, c, C, s, S, i, I, f, Z, H, B of C and B of s, and an empty text and an empty array
abbrev each : List Field
each =
    (ascii "XAA!") ∷ (ascii "Xcc" ++ 255 ∷ []) ∷ (ascii "XCC" ++ 255 ∷ []) ∷ (ascii "Xss" ++ 0 ∷ 1 ∷ []) ∷ (ascii "XSS" ++ 1 ∷ 0 ∷ [])
    ∷ (ascii "Xii" ++ 1 ∷ 2 ∷ 3 ∷ 4 ∷ []) ∷ (ascii "XII" ++ 0 ∷ 0 ∷ 0 ∷ 128 ∷ []) ∷ (ascii "Xff" ++ 0 ∷ 0 ∷ 128 ∷ 63 ∷ []) ∷ (ascii "MMZC+m,1;" ++ 0 ∷ [])
    ∷ (ascii "XHH1AE3" ++ 0 ∷ []) ∷ (ascii "MLBC" ++ 2 ∷ 0 ∷ 0 ∷ 0 ∷ 200 ∷ 7 ∷ []) ∷ (ascii "XBBs" ++ 1 ∷ 0 ∷ 0 ∷ 0 ∷ 1 ∷ 2 ∷ []) ∷ (ascii "MMZ" ++ 0 ∷ [])
    ∷ (ascii "MLBC" ++ 0 ∷ 0 ∷ 0 ∷ 0 ∷ []) ∷ []

each_type : fields (joined each) ≡ Ok each
unfolding fields
each_type = refl

-- how many bytes each takes
each_size : map field_size each ≡ 4 ∷ 4 ∷ 4 ∷ 5 ∷ 5 ∷ 7 ∷ 7 ∷ 7 ∷ 10 ∷ 8 ∷ 10 ∷ 10 ∷ 4 ∷ 8 ∷ []
unfolding field_size
each_size = refl

-- of two fields with a name the first counts; a name that is not there gives no bytes
first_of_two : first_named MM each ≡ ascii "MMZC+m,1;" ++ 0 ∷ []
unfolding first_named
first_of_two = refl

first_of_none : first_named am each ≡ []
unfolding first_named
first_of_none = refl

no_bytes : fields [] ≡ Ok []
unfolding fields
no_bytes = refl

-- a count of 4,294,967,295: with 32 bits for the size this array would come to 1 byte
count_too_large : fields (ascii "XXBI" ++ 255 ∷ 255 ∷ 255 ∷ 255 ∷ []) ≡ refuse 15
unfolding fields
count_too_large = refl

array_of_A : fields (ascii "XXBA" ++ 1 ∷ 0 ∷ 0 ∷ 0 ∷ 33 ∷ []) ≡ refuse 15
unfolding fields
array_of_A = refl

-- a text to the last byte, without a NUL
no_nul : fields (ascii "XXZab") ≡ refuse 15
unfolding fields
no_nul = refl

two_bytes_left : fields (ascii "XAA!XX") ≡ refuse 15
unfolding fields
two_bytes_left = refl

no_such_type : fields (ascii "XXd!!!!!!!!") ≡ refuse 15
unfolding fields
no_such_type = refl

-- ---- the head

-- nothing but a head of zeros
head_alone : is_whole (replicate 32 0) ≡ true
head_alone = refl

one_byte_short : is_whole (replicate 31 0) ≡ false
one_byte_short = refl

-- 4,294,967,295 bases in 40 bytes
too_many_bases : is_whole (replicate 16 0 ++ 255 ∷ 255 ∷ 255 ∷ 255 ∷ replicate 20 0) ≡ false
too_many_bases = refl
