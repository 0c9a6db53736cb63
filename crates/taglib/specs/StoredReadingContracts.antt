-- What each export that reads a stored read promises to a C program: one proposition per export, about its arguments, the returned number, and the lent
-- rows and numbers after the call. The export's `ensures` cites it, and every theorem about the export uses it. A stored read is its packed bytes, its
-- number of bases, and a byte that says whether it is reverse.
-- Assumes nothing.
use Rattle.std.specs.Prelude.{ℕ, List, length}
use Rattle.stored.specs.Reads.{listed_stored, read_stored, stored_column, tally_stored, turn_stored, unpack_stored}
use Rattle.telling.specs.Told.{yes}
use Rattle.taglib.specs.AlignmentContracts.{FillsInC}
use Rattle.taglib.specs.ReadingContracts.{ListsCallsInC, TellsCallsInC, TellsTallyInC}

-- `aql_turn`: the packed bytes and the number of bases; the row for the turned bytes and the number for their count; the returned number; row and number
-- after the call
abbrev pub TurnsInC : List ℕ → ℕ → List ℕ → ℕ → ℕ → List ℕ → ℕ → Type 0
TurnsInC packed bases out n r out' n' = FillsInC (turn_stored bases packed (length out)) out n r out' n'

-- `aql_unpack`: the stored read; the row for the letters and the number for their count; the rest as above
abbrev pub UnpacksInC : List ℕ → ℕ → ℕ → List ℕ → ℕ → ℕ → List ℕ → ℕ → Type 0
UnpacksInC packed bases reverse seq n r seq' n' = FillsInC (unpack_stored (yes reverse) bases packed (length seq)) seq n r seq' n'

-- `aql_stored_check_tag`: the stored read, MM, ML and whether there is an ML; the two lent numbers; the returned number; the two numbers after the call
abbrev pub ChecksStoredInC : List ℕ → ℕ → ℕ → List ℕ → List ℕ → ℕ → ℕ → ℕ → ℕ → ℕ → ℕ → Type 0
ChecksStoredInC packed bases reverse mm ml hasMl groups calls r groups' calls' =
    TellsCallsInC (read_stored (yes reverse) (yes hasMl) bases packed mm ml) groups calls r groups' calls'

-- `aql_stored_read_calls`: the stored read, MM, ML and whether there is an ML; the three lent columns and two lent numbers; the returned number; columns
-- and numbers after the call
abbrev pub ReadsStoredInC :
    List ℕ → ℕ → ℕ → List ℕ → List ℕ → ℕ → List ℕ → List ℕ → List ℕ → ℕ → ℕ → ℕ → List ℕ → List ℕ → List ℕ → ℕ → ℕ → Type 0
ReadsStoredInC packed bases reverse mm ml hasMl gs ps ss groups calls r gs' ps' ss' groups' calls' =
    let o = listed_stored (yes reverse) (yes hasMl) bases packed mm ml (length gs) (length ps) (length ss) in
    ListsCallsInC (stored_column (yes reverse) bases) o gs ps ss groups calls r gs' ps' ss' groups' calls'

-- `aql_stored_tally`: the stored read, MM and ML; the two lent numbers; the returned number; how many values of the ML are above and below
abbrev pub TalliesStoredInC : List ℕ → ℕ → ℕ → List ℕ → List ℕ → ℕ → ℕ → ℕ → ℕ → ℕ → Type 0
TalliesStoredInC packed bases reverse mm ml above below r above' below' =
    TellsTallyInC (tally_stored (yes reverse) bases packed mm ml) above below r above' below'
