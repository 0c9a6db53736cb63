-- The promise of each public call: one proposition per call, about its arguments, its answer and the lent rows after the call. The call's `ensures`
-- cites it, and every theorem about the call uses it. A stored read is given by whether it is reverse, its number of bases n and its packed bytes.
-- Assumes nothing.
use Rattle.std.specs.Prelude.{◌≡◌, ℕ, Bool, List, length}
use Rattle.lent.specs.Filled.{leaves}
use Rattle.lent.specs.Outcome.{Outcome, on_done}
use Rattle.reading.specs.Answers.{tally_says}
use Rattle.reading.specs.Calls.{calls_read, counts_of}
use Rattle.stored.specs.Reads.{read_stored, read_stored_calls, tally_stored, turn_stored, unpack_stored}

-- a call with the outcome o answers r and leaves row' in the lent row: the list at its front and the rest unchanged, or the row unchanged
abbrev pub Fills : Outcome (List ℕ) → List ℕ → Outcome ℕ → List ℕ → Type 0
Fills o row r row' = (r ≡ on_done length o) × (row' ≡ leaves (λ (l : List ℕ). l) o row)

-- `turn`: the packed SEQ of n bases, reverse-complemented, into a lent row
abbrev pub Turns : ℕ → List ℕ → List ℕ → Outcome ℕ → List ℕ → Type 0
Turns n packed out r out' = Fills (turn_stored n packed (length out)) out r out'

-- `unpack`: the bases in read orientation, a letter each, into a lent row
abbrev pub Unpacks : Bool → ℕ → List ℕ → List ℕ → Outcome ℕ → List ℕ → Type 0
Unpacks reverse n packed seq r seq' = Fills (unpack_stored reverse n packed (length seq)) seq r seq'

-- `check_tag` answers r: how many groups and calls the tag has, or why it is refused. It writes nothing.
abbrev pub ChecksStored : Bool → Bool → ℕ → List ℕ → List ℕ → List ℕ → Outcome (ℕ × ℕ) → Type 0
ChecksStored reverse ml? n packed mm ml r = r ≡ on_done counts_of (read_stored reverse ml? n packed mm ml)

-- `read_calls` answers r, and leaves groups', places' and starts' in the lent columns. The call list is at the front of each column, with places counted
-- in the stored read, and the rest is unchanged. With any refusal every entry is unchanged.
abbrev pub ReadsStored :
    Bool → Bool → ℕ → List ℕ → List ℕ → List ℕ → List ℕ → List ℕ → List ℕ → Outcome (ℕ × ℕ) → List ℕ → List ℕ → List ℕ → Type 0
ReadsStored reverse ml? n packed mm ml groups places starts r groups' places' starts' =
    calls_read r groups' places' starts' ≡ read_stored_calls reverse ml? n packed mm ml groups places starts

-- `tally` answers r: how many of the tag's ML values are above and how many below, or why the tag is refused. It writes nothing.
abbrev pub TalliesStored : Bool → ℕ → List ℕ → List ℕ → List ℕ → Outcome (ℕ × ℕ) → Type 0
TalliesStored reverse n packed mm ml r = tally_says r ≡ tally_stored reverse n packed mm ml
