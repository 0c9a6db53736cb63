-- Packed SEQ, by computation: turning, packing and unpacking, the complement of each letter, and places, ends and windows of a reverse read.
-- Assumes nothing.
use Rattle.std.specs.Prelude.{None, Some}
use mathlib.Core.Path.{◌≡◌, refl}
use mathlib.Core.Bool.{true, false}
use mathlib.Core.List.{[], ◌∷◌, map}
use Rattle.samtags.specs.Bytes.{ascii}
use Rattle.samtags.specs.Session.{cut, drop_calls, mask}
use Rattle.packed.specs.Packed.{code_of, complement, letters, pack, reverse_complement, turn, unpack}
use Rattle.packed.specs.Stored.{as_stored, in_read, places_in_read, start_in_read, step_in_read}

-- An odd number of bases: the spare half is not read, and is written as 0. One C (0x2F) is one G (0x40); A, C and G (0x12 0x4F) turned are C, G and T
-- (0x24 0x80). Bytes past the bases are not read.
pub turned :
    (turn 1 (0x2F ∷ []) ≡ 0x40 ∷ [])
    × (turn 3 (0x12 ∷ 0x4F ∷ []) ≡ 0x24 ∷ 0x80 ∷ [])
    × (turn 2 (0x12 ∷ 0x4F ∷ []) ≡ 0x48 ∷ [])
    × (turn 1 (turn 1 (0x2F ∷ [])) ≡ 0x20 ∷ [])
    × (turn 0 (0x2F ∷ []) ≡ [])
unfolding turn
turned = (refl, refl, refl, refl, refl)

pub unpacked :
    (unpack 3 (0x12 ∷ 0x4F ∷ []) ≡ ascii "ACG")
    × (unpack 4 (0x12 ∷ 0x4F ∷ []) ≡ ascii "ACGN")
    × (unpack 16 (0x01 ∷ 0x23 ∷ 0x45 ∷ 0x67 ∷ 0x89 ∷ 0xAB ∷ 0xCD ∷ 0xEF ∷ []) ≡ letters)
unfolding unpack
unpacked = (refl, refl, refl)

-- a byte that is no letter is packed as N; so is a small letter
pub packed_to :
    (pack (ascii "ACG") ≡ 0x12 ∷ 0x40 ∷ [])
    × (pack letters ≡ 0x01 ∷ 0x23 ∷ 0x45 ∷ 0x67 ∷ 0x89 ∷ 0xAB ∷ 0xCD ∷ 0xEF ∷ [])
    × (pack (ascii "aC.") ≡ 0xF2 ∷ 0xF0 ∷ [])
    × (pack [] ≡ [])
unfolding pack
packed_to = (refl, refl, refl, refl)

-- each letter's code, and its complement
pub letter_by_letter :
    (map code_of letters ≡ 0 ∷ 1 ∷ 2 ∷ 3 ∷ 4 ∷ 5 ∷ 6 ∷ 7 ∷ 8 ∷ 9 ∷ 10 ∷ 11 ∷ 12 ∷ 13 ∷ 14 ∷ 15 ∷ [])
    × (map complement letters ≡ ascii "=TGKCYSBAWRDMHVN")
    × (reverse_complement (ascii "AACGN") ≡ ascii "NCGTT")
unfolding code_of complement reverse_complement
letter_by_letter = (refl, refl, refl)

-- a reverse read in read orientation, and stored again
pub as_read :
    (in_read true 3 (0x12 ∷ 0x4F ∷ []) ≡ ascii "CGT")
    × (in_read false 3 (0x12 ∷ 0x4F ∷ []) ≡ ascii "ACG")
    × (as_stored true (ascii "CGT") ≡ 0x12 ∷ 0x40 ∷ [])
    × (as_stored false (ascii "CGT") ≡ 0x24 ∷ 0x80 ∷ [])
unfolding in_read as_stored
as_read = (refl, refl, refl, refl)

-- places of five bases from the other end; place 7 is no place
pub mirrored_places :
    (places_in_read true 5 (0 ∷ 4 ∷ 1 ∷ []) ≡ 4 ∷ 0 ∷ 3 ∷ [])
    × (places_in_read true 5 (7 ∷ []) ≡ [])
    × (places_in_read true 5 (5 ∷ 2 ∷ []) ≡ 2 ∷ [])
    × (places_in_read false 5 (7 ∷ 0 ∷ []) ≡ 7 ∷ 0 ∷ [])
    × (places_in_read true 0 (0 ∷ []) ≡ [])
mirrored_places = (refl, refl, refl, refl, refl)

-- a window's start: unknown stays unknown, and a window that does not fit has none
pub window_starts :
    (start_in_read true 10 3 (Some 0) ≡ Some 7)
    × (start_in_read true 10 3 (Some 7) ≡ Some 0)
    × (start_in_read true 10 3 (Some 2) ≡ Some 5)
    × (start_in_read true 10 3 (Some 8) ≡ None)
    × (start_in_read true 10 3 None ≡ None)
    × (start_in_read false 10 3 (Some 8) ≡ Some 8)
    × (start_in_read false 10 3 None ≡ None)
window_starts = (refl, refl, refl, refl, refl, refl, refl)

-- a cut exchanges its ends, and a mask and a drop count their places from the other end
pub mirrored_steps :
    (step_in_read true 5 (cut 1 2) ≡ cut 2 1)
    × (step_in_read true 5 (mask (0 ∷ 7 ∷ [])) ≡ mask (4 ∷ []))
    × (step_in_read true 5 (drop_calls (7 ∷ [])) ≡ drop_calls [])
    × (step_in_read false 5 (cut 1 2) ≡ cut 1 2)
mirrored_steps = (refl, refl, refl, refl)
