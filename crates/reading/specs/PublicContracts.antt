-- The promise of each public call: one proposition per call, about its arguments, its answer and the lent rows after the call. The call's `ensures`
-- cites it, and every theorem about the call uses it.
-- Assumes nothing.
use Rattle.std.specs.Prelude.{◌≡◌, ℕ, Bool, List}
use Rattle.lent.specs.Outcome.{Outcome, on_done}
use Rattle.samtags.specs.Reading.{read_tag, tally_tag}
use Rattle.reading.specs.Answers.{tally_says}
use Rattle.reading.specs.Calls.{calls_read, counts_of, read_calls}

-- `check_tag` answers r: how many groups and calls the tag has, or why it is refused. It writes nothing.
abbrev pub ChecksTag : Bool → List ℕ → List ℕ → List ℕ → Outcome (ℕ × ℕ) → Type 0
ChecksTag ml? seq mm ml r = r ≡ on_done counts_of (read_tag ml? seq mm ml)

-- `read_calls` answers r, and leaves groups', places' and starts' in the lent columns groups, places and starts. The call list is at the front of
-- each column and the rest is unchanged. If the tag is refused or the list is longer than a column, every entry is unchanged.
abbrev pub ReadsCalls :
    Bool → List ℕ → List ℕ → List ℕ → List ℕ → List ℕ → List ℕ → Outcome (ℕ × ℕ) → List ℕ → List ℕ → List ℕ → Type 0
ReadsCalls ml? seq mm ml groups places starts r groups' places' starts' =
    calls_read r groups' places' starts' ≡ read_calls ml? seq mm ml groups places starts

-- `tally` answers r: how many of the tag's ML values are above and how many below, or why the tag is refused. It writes nothing.
abbrev pub Tallies : List ℕ → List ℕ → List ℕ → Outcome (ℕ × ℕ) → Type 0
Tallies seq mm ml r = tally_says r ≡ tally_tag seq mm ml
