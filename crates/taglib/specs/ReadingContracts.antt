-- What each export that reads a tag promises to a C program: one proposition per export, about its arguments, the returned number, and the lent rows
-- and numbers after the call. The export's `ensures` cites it, and every theorem about the export uses it.
-- Assumes nothing.
use Rattle.std.specs.Prelude.{◌≡◌, ℕ, List, length}
use Rattle.lent.specs.Outcome.{Outcome, number_of}
use Rattle.lent.specs.Filled.{leaves}
use Rattle.samtags.specs.Spots.{Listing}
use Rattle.samtags.specs.Reading.{call_list, read_tag, Tally, tally_tag}
use Rattle.reading.specs.Calls.{group_column, listed_calls, place_column, start_column}
use Rattle.telling.specs.Told.{told, yes}

-- A call with the outcome o passes on how many groups and calls a tag lists: 0 and the two numbers, or o's number with both unchanged.
abbrev pub TellsCallsInC : Outcome (List Listing) → ℕ → ℕ → ℕ → ℕ → ℕ → Type 0
TellsCallsInC o groups calls r groups' calls' =
    (r ≡ number_of o)
    × (groups' ≡ told (λ (ls : List Listing). length ls) o groups)
    × (calls' ≡ told (λ (ls : List Listing). length (call_list ls)) o calls)

-- `aql_check_tag`: SEQ, MM, ML and whether there is an ML; the two lent numbers; the returned number; the two numbers after the call
abbrev pub ChecksTagInC : List ℕ → List ℕ → List ℕ → ℕ → ℕ → ℕ → ℕ → ℕ → ℕ → Type 0
ChecksTagInC seq mm ml hasMl groups calls r groups' calls' = TellsCallsInC (read_tag (yes hasMl) seq mm ml) groups calls r groups' calls'

-- A call with the outcome o writes the call list: 0, with the list at the front of the three columns, its places as `column` gives them, and the two
-- numbers; or o's number, with columns and numbers unchanged.
abbrev pub ListsCallsInC : (List Listing → List ℕ) → Outcome (List Listing) → List ℕ → List ℕ → List ℕ → ℕ → ℕ → ℕ → List ℕ → List ℕ → List ℕ → ℕ → ℕ
    → Type 0
ListsCallsInC column o gs ps ss groups calls r gs' ps' ss' groups' calls' =
    (r ≡ number_of o)
    × (groups' ≡ told (λ (ls : List Listing). length ls) o groups)
    × (calls' ≡ told (λ (ls : List Listing). length (call_list ls)) o calls)
    × (gs' ≡ leaves group_column o gs)
    × (ps' ≡ leaves column o ps)
    × (ss' ≡ leaves start_column o ss)

-- `aql_read_calls`: SEQ, MM, ML and whether there is an ML; the three lent columns and two lent numbers; the returned number; columns and numbers after the call
abbrev pub ReadsCallsInC : List ℕ → List ℕ → List ℕ → ℕ → List ℕ → List ℕ → List ℕ → ℕ → ℕ → ℕ → List ℕ → List ℕ → List ℕ → ℕ → ℕ
    → Type 0
ReadsCallsInC seq mm ml hasMl gs ps ss groups calls r gs' ps' ss' groups' calls' =
    ListsCallsInC place_column (listed_calls (yes hasMl) seq mm ml (length gs) (length ps) (length ss)) gs ps ss groups calls r gs' ps' ss' groups' calls'

-- A call with the outcome o passes on a tally: 0 and the two numbers, or o's number with both unchanged.
abbrev pub TellsTallyInC : Outcome Tally → ℕ → ℕ → ℕ → ℕ → ℕ → Type 0
TellsTallyInC o above below r above' below' =
    (r ≡ number_of o) × (above' ≡ told (λ (t : Tally). t.above) o above) × (below' ≡ told (λ (t : Tally). t.below) o below)

-- `aql_tally`: SEQ, MM and ML; the two lent numbers; the returned number; how many values of the ML are above and below
abbrev pub TalliesInC : List ℕ → List ℕ → List ℕ → ℕ → ℕ → ℕ → ℕ → ℕ → Type 0
TalliesInC seq mm ml above below r above' below' = TellsTallyInC (tally_tag seq mm ml) above below r above' below'
