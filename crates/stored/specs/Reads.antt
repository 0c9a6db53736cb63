-- A stored read and its tag: packed bases with their stated number, and MM and ML in read orientation. Each call's outcome is the plain call's on the
-- bases in read orientation, after the checks of the stated number: 1, then 2.
-- Assumes nothing.
use Rattle.std.specs.Prelude.{ℕ, Bool, true, cond, List, map, length, leb, eqb, Ok}
use Rattle.lent.specs.Filled.{leaves}
use Rattle.lent.specs.Outcome.{Outcome, need, on_done}
use Rattle.packed.specs.Packed.{bytes_for, turn}
use Rattle.packed.specs.Stored.{in_read, mirrored}
use Rattle.reading.specs.Calls.{CallsRead, calls_read, counts_of, group_column, listed_calls, place_column, start_column}
use Rattle.samtags.specs.Reading.{Tally, read_tag, tally_tag}
use Rattle.samtags.specs.Spots.{Listing}
use Rattle.stored_rows.specs.Orders.{numbers_in_domain}

-- a packed SEQ has as many bytes as its bases take
abbrev pub is_exact : ℕ → List ℕ → Bool
is_exact n packed = eqb (length packed) (bytes_for n)

-- the stated number of bases, and the lengths of text and ML, are within the domain; without ML the ML row is ignored
abbrev pub stated_in_domain : Bool → ℕ → List ℕ → List ℕ → Bool
stated_in_domain ml? n text ml = numbers_in_domain ml? n (length text) (length ml)

-- the outcome for a stored read, if its lengths are in order, else 1 or 2
abbrev pub of_stored : {A : Type 0} → Bool → ℕ → List ℕ → List ℕ → List ℕ → Outcome A → Outcome A
of_stored ml? n packed text ml o = need (stated_in_domain ml? n text ml) 1 (need (is_exact n packed) 2 o)

-- ---- bases alone: 1, 2, last 12

abbrev pub bases_of : ℕ → List ℕ → ℕ → List ℕ → Outcome (List ℕ)
bases_of n packed room answer = need (leb n 16000) 1 (need (is_exact n packed) 2 (need (leb (length answer) room) 12 (Ok answer)))

-- turned: the packed SEQ, reverse-complemented
unfoldable pub turn_stored : ℕ → List ℕ → ℕ → Outcome (List ℕ)
unfolding turn
turn_stored n packed room = bases_of n packed room (turn n packed)

-- unpacked in read orientation
unfoldable pub unpack_stored : Bool → ℕ → List ℕ → ℕ → Outcome (List ℕ)
unfolding in_read
unpack_stored reverse n packed room = bases_of n packed room (in_read reverse n packed)

-- ---- reading

unfoldable pub read_stored : Bool → Bool → ℕ → List ℕ → List ℕ → List ℕ → Outcome (List Listing)
unfolding in_read read_tag
read_stored reverse ml? n packed text ml = of_stored ml? n packed text ml (read_tag ml? (in_read reverse n packed) text ml)

unfoldable pub tally_stored : Bool → ℕ → List ℕ → List ℕ → List ℕ → Outcome Tally
unfolding in_read tally_tag
tally_stored reverse n packed text ml = of_stored true n packed text ml (tally_tag (in_read reverse n packed) text ml)

-- the places of the call list, counted in the stored read; the list stays in the order of the tag
abbrev pub stored_column : Bool → ℕ → List Listing → List ℕ
stored_column reverse n ls = cond reverse (map (mirrored n) (place_column ls)) (place_column ls)

unfoldable pub listed_stored : Bool → Bool → ℕ → List ℕ → List ℕ → List ℕ → ℕ → ℕ → ℕ → Outcome (List Listing)
unfolding in_read listed_calls
listed_stored reverse ml? n packed text ml groups places starts =
    of_stored ml? n packed text ml (listed_calls ml? (in_read reverse n packed) text ml groups places starts)

-- the answer of the call reader, and the three columns after the call
unfoldable pub read_stored_calls : Bool → Bool → ℕ → List ℕ → List ℕ → List ℕ → List ℕ → List ℕ → List ℕ → CallsRead
unfolding listed_stored leaves
read_stored_calls reverse ml? n packed text ml groups places starts =
    let o = listed_stored reverse ml? n packed text ml (length groups) (length places) (length starts) in
    calls_read (on_done counts_of o) (leaves group_column o groups) (leaves (stored_column reverse n) o places) (leaves start_column o starts)
