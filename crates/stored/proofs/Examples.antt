-- Worked calls on stored reads: what is written and what is left, the spare half, where places are counted, and which number comes first. The hypotheses of
-- the theorems of Turned can be met: each is applied to a worked call.
-- Assumes nothing.
use Rattle.std.specs.Prelude.{Ok, Err}
use mathlib.Core.Path.{◌≡◌, refl}
use Prim.Native.Nat.{ℕ, zero, suc}
use native.Mathlib.Omega.{arith}
use mathlib.Core.Bool.{true, false}
use mathlib.Core.List.{List, [], ◌∷◌, ◌++◌}
use lib.ListN.{replicate, take}
use Rattle.lent.specs.Filled.{leaves}
use Rattle.lent.specs.Outcome.{Outcome, refusal}
use Rattle.packed.proofs.Rows.{Bytes}
use Rattle.packed.specs.Packed.{reverse_complement}
use Rattle.packed.specs.Stored.{in_read}
use Rattle.reading.specs.Calls.{read_calls}
use Rattle.reading.specs.PublicContracts.{ChecksTag, ReadsCalls, Tallies}
use Rattle.samtags.specs.Bytes.{ascii}
use Rattle.samtags.specs.Reading.{call_list, read_tag, tally_tag}
use Rattle.stored.specs.Mirrors.{places_as_stored}
use Rattle.stored.proofs.Turned.{check_tag_turned, read_calls_turned, tally_call_turned, turned_again_odd, unpack_of_turned}
use Rattle.stored.specs.PublicContracts.{ChecksStored, ReadsStored, TalliesStored, Turns, Unpacks}
use Rattle.stored.specs.Reads.{read_stored, read_stored_calls, tally_stored, turn_stored, unpack_stored}

-- A, C and G, and a spare half that is not 0
abbrev three_bases : List ℕ
three_bases = 0x12 ∷ 0x4F ∷ []

-- a row of n bytes, to see what is not written
abbrev nines : ℕ → List ℕ
nines n = replicate n 9

-- ---- bases alone

-- The spare half is not read, and is written as 0. Bytes after the list are unchanged.
pub worked_turn :
    Turns 3 three_bases (nines 3) (Ok 2) (0x24 ∷ 0x80 ∷ 9 ∷ [])
    × Turns 1 (0x2F ∷ []) (nines 1) (Ok 1) (0x40 ∷ [])
    × Turns 2 (0x12 ∷ []) (nines 1) (Ok 1) (0x48 ∷ [])
    × Turns 0 [] (nines 1) (Ok 0) (nines 1)
    × Turns 3 (0x24 ∷ 0x80 ∷ []) (nines 2) (Ok 2) (0x12 ∷ 0x40 ∷ [])
unfolding turn_stored leaves
worked_turn = ((refl, refl), (refl, refl), (refl, refl), (refl, refl), (refl, refl))

pub worked_unpack :
    Unpacks true 3 three_bases (nines 4) (Ok 3) (ascii "CGT" ++ nines 1)
    × Unpacks false 3 three_bases (nines 4) (Ok 3) (ascii "ACG" ++ nines 1)
    × Unpacks true 4 three_bases (nines 4) (Ok 4) (ascii "NCGT")
    × Unpacks true 1 (0x2F ∷ []) (nines 1) (Ok 1) (ascii "G")
    × Unpacks true 0 [] [] (Ok 0) []
    × Unpacks false 3 (0x24 ∷ 0x80 ∷ []) (nines 3) (Ok 3) (ascii "CGT")
unfolding unpack_stored leaves
worked_unpack = ((refl, refl), (refl, refl), (refl, refl), (refl, refl), (refl, refl), (refl, refl))

-- a refused call leaves the row
abbrev TurnsRefused : ℕ → ℕ → List ℕ → List ℕ → Type 0
TurnsRefused number n packed out = Turns n packed out (Err (refusal number)) out

abbrev UnpacksRefused : ℕ → ℕ → List ℕ → List ℕ → Type 0
UnpacksRefused number n packed seq = Unpacks true n packed seq (Err (refusal number)) seq

-- 1 before 2, 2 for one byte more and for one fewer, 2 before 12, and 12 for a row one byte short
pub turn_first_number :
    TurnsRefused 1 16001 three_bases (nines 1)
    × TurnsRefused 2 3 (0x12 ∷ []) (nines 2)
    × TurnsRefused 2 3 (0x12 ∷ 0x40 ∷ 0 ∷ []) (nines 3)
    × TurnsRefused 2 3 (0x12 ∷ []) []
    × TurnsRefused 12 3 three_bases (nines 1)
unfolding turn_stored leaves
turn_first_number = ((refl, refl), (refl, refl), (refl, refl), (refl, refl), (refl, refl))

pub unpack_first_number :
    UnpacksRefused 1 16001 three_bases (nines 1)
    × UnpacksRefused 2 3 (0x12 ∷ []) (nines 3)
    × UnpacksRefused 2 3 (0x12 ∷ 0x40 ∷ 0 ∷ []) (nines 3)
    × UnpacksRefused 2 0 (0 ∷ []) []
    × UnpacksRefused 12 3 three_bases (nines 2)
unfolding unpack_stored leaves
unpack_first_number = ((refl, refl), (refl, refl), (refl, refl), (refl, refl), (refl, refl))

-- ---- calls

-- five C are stored, with a spare half that is not 0: the reverse read is GGGGG
abbrev five : List ℕ
five = 0x22 ∷ 0x22 ∷ 0x2F ∷ []

-- calls at the places 0 and 4 in read orientation, and a group on the other strand at place 1
abbrev mm : List ℕ
mm = ascii "G-m?,0,3;G+h?,1;"

abbrev ml : List ℕ
ml = 200 ∷ 90 ∷ 128 ∷ []

-- The list stays in the order of the tag. Places are counted in the stored read: 0, 4 and 1 are 4, 0 and 3. The entry after the list is unchanged.
pub worked_calls_lem :
    ReadsStored true true 5 five mm ml (nines 4) (nines 4) (nines 4) (Ok (2, 3))
    (1 ∷ 1 ∷ 2 ∷ 9 ∷ []) (4 ∷ 0 ∷ 3 ∷ 9 ∷ []) (0 ∷ 1 ∷ 2 ∷ 9 ∷ [])
unfolding read_stored_calls call_list
worked_calls_lem = refl

-- the same tag on the stored bases themselves lists no G: 7
pub worked_forward_calls :
    ReadsStored false true 5 five mm ml (nines 4) (nines 4) (nines 4) (Err (refusal 7)) (nines 4) (nines 4) (nines 4)
    × ReadsStored false true 5 five (ascii "C-m?,0,3;") (200 ∷ 90 ∷ []) (nines 2) (nines 2) (nines 2) (Ok (1, 2)) (1 ∷ 1 ∷ []) (0 ∷ 4 ∷ []) (0 ∷ 1 ∷ [])
unfolding read_stored_calls call_list
worked_forward_calls = (refl, refl)

-- 12 if one column is short, and nothing is written; 2 comes before the tag, and 1 before 2
pub calls_first_number :
    ReadsStored true true 5 five mm ml (nines 3) (nines 2) (nines 3) (Err (refusal 12)) (nines 3) (nines 2) (nines 3)
    × ReadsStored true true 6 five (ascii "bad") ml (nines 3) (nines 3) (nines 3) (Err (refusal 4)) (nines 3) (nines 3) (nines 3)
    × ReadsStored true true 7 five (ascii "bad") ml (nines 3) (nines 3) (nines 3) (Err (refusal 2)) (nines 3) (nines 3) (nines 3)
    × ReadsStored true true 4 five (ascii "bad") ml (nines 3) (nines 3) (nines 3) (Err (refusal 2)) (nines 3) (nines 3) (nines 3)
    × ReadsStored true true 16001 five (ascii "bad") ml (nines 3) (nines 3) (nines 3) (Err (refusal 1)) (nines 3) (nines 3) (nines 3)
unfolding read_stored_calls call_list
calls_first_number = (refl, refl, refl, refl, refl)

-- The spare half is no base, whatever it is: a second base of any kind is refused with 7, forward and reverse.
pub spare_is_no_base :
    ChecksStored true true 1 (0x2F ∷ []) (ascii "N+m?,1;") (7 ∷ []) (Err (refusal 7))
    × ChecksStored false true 1 (0x2F ∷ []) (ascii "N+m?,1;") (7 ∷ []) (Err (refusal 7))
    × ChecksStored true true 1 (0x2F ∷ []) (ascii "N+m?,0;") (7 ∷ []) (Ok (1, 1))
    × ChecksStored true true 1 (0x2F ∷ []) (ascii "C+m?,0;") (7 ∷ []) (Err (refusal 7))
    × ChecksStored true true 2 (0x2F ∷ []) (ascii "N+m?,1;") (7 ∷ []) (Ok (1, 1))
unfolding read_stored call_list
spare_is_no_base = (refl, refl, refl, refl, refl)

pub check_first_number :
    ChecksStored true true 16001 five (ascii "bad") [] (Err (refusal 1))
    × ChecksStored true true 7 five (ascii "bad") [] (Err (refusal 2))
    × ChecksStored true true 4 five (ascii "bad") [] (Err (refusal 2))
unfolding read_stored
check_first_number = (refl, refl, refl)

-- 200 and 128 are above, 90 is below
pub worked_tally :
    TalliesStored true 5 five mm ml (Ok (2, 1))
    × TalliesStored false 5 five mm ml (Err (refusal 7))
    × TalliesStored true 1 (0x2F ∷ []) (ascii "N+m?,1;") (7 ∷ []) (Err (refusal 7))
    × TalliesStored true 7 five mm ml (Err (refusal 2))
    × TalliesStored true 4 five mm ml (Err (refusal 2))
    × TalliesStored true 16001 five mm ml (Err (refusal 1))
unfolding tally_stored
worked_tally = (refl, refl, refl, refl, refl, refl)

-- ---- the plain calls in read orientation

pub five_in_read : in_read true 5 five ≡ ascii "GGGGG"
unfolding in_read
five_in_read = refl

pub worked_plain :
    ChecksTag true (ascii "GGGGG") mm ml (Ok (2, 3))
    × Tallies (ascii "GGGGG") mm ml (Ok (2, 1))
    × ReadsCalls true (ascii "GGGGG") mm ml (nines 4) (nines 4) (nines 4) (Ok (2, 3)) (1 ∷ 1 ∷ 2 ∷ 9 ∷ []) (0 ∷ 4 ∷ 1 ∷ 9 ∷ []) (0 ∷ 1 ∷ 2 ∷ 9 ∷ [])
unfolding read_tag tally_tag read_calls call_list
worked_plain = (refl, refl, refl)

-- whatever the plain call answers and leaves is what the stored call did
pub worked_check_turned : (s : Outcome (ℕ × ℕ)) → ChecksTag true (ascii "GGGGG") mm ml s → Ok (2, 3) ≡ s
unfolding in_read read_stored call_list
worked_check_turned s = check_tag_turned true true 5 five mm ml (Ok (2, 3)) s refl refl

pub worked_tally_turned : (s : Outcome (ℕ × ℕ)) → Tallies (ascii "GGGGG") mm ml s → Ok (2, 1) ≡ s
unfolding in_read
worked_tally_turned s = tally_call_turned true 5 five mm ml (Ok (2, 1)) s refl worked_tally.0

pub worked_calls_turned : (s : Outcome (ℕ × ℕ)) (g p a : List ℕ) → ReadsCalls true (ascii "GGGGG") mm ml (nines 4) (nines 4) (nines 4) s g p a
    → (Ok (2, 3) ≡ s) × (1 ∷ 1 ∷ 2 ∷ 9 ∷ [] ≡ g) × (4 ∷ 0 ∷ 3 ∷ 9 ∷ [] ≡ places_as_stored s true 5 p) × (0 ∷ 1 ∷ 2 ∷ 9 ∷ [] ≡ a)
unfolding in_read
worked_calls_turned s g p a =
    read_calls_turned true true 5 five mm ml (nines 4) (nines 4) (nines 4) (Ok (2, 3)) s _ g _ p _ a refl worked_calls_lem

-- ---- a call on what `turn` left

three_bytes : Bytes three_bases
three_bytes zero = omega arith
three_bytes (suc zero) = omega arith
three_bytes (suc (suc p)) = omega arith

-- turned twice: the spare half is 0
pub worked_turned_again : (out : List ℕ) (k : ℕ) (out' : List ℕ) → Turns 3 (0x24 ∷ 0x80 ∷ []) out (Ok k) out' → take k out' ≡ 0x12 ∷ 0x40 ∷ []
worked_turned_again out k out' again =
    turned_again_odd 3 three_bases (nines 3) 2 (0x24 ∷ 0x80 ∷ 9 ∷ []) worked_turn.0 three_bytes out k out' again refl

-- turned and unpacked: the reverse complement of ACG
pub worked_unpack_of_turned : (seq : List ℕ) (m : ℕ) (seq' : List ℕ) → Unpacks false 3 (0x24 ∷ 0x80 ∷ []) seq (Ok m) seq' → take m seq' ≡ ascii "CGT"
unfolding reverse_complement
worked_unpack_of_turned seq m seq' done =
    unpack_of_turned 3 three_bases (nines 3) 2 (0x24 ∷ 0x80 ∷ 9 ∷ []) worked_turn.0 seq (nines 4) m 3 seq' (ascii "ACG" ++ nines 1) done worked_unpack.1
