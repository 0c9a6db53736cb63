-- The call reader as a public call: its outcome, its answer, and the three columns after the call.
-- Assumes nothing.
use Rattle.std.specs.Prelude.{ℕ, Bool, ◌&&◌, List, map, length, leb, Ok}
use Rattle.lent.specs.Outcome.{Outcome, need, and_then, on_done}
use Rattle.lent.specs.Filled.{leaves}
use Rattle.samtags.specs.Spots.{Listing}
use Rattle.samtags.specs.Reading.{Row, call_list, read_tag}

-- how many groups and how many calls
abbrev pub counts_of : List Listing → ℕ × ℕ
counts_of ls = (length ls, length (call_list ls))

-- the columns of the call list
abbrev pub group_column : List Listing → List ℕ
group_column ls = map (λ (r : Row). r.group) (call_list ls)

abbrev pub place_column : List Listing → List ℕ
place_column ls = map (λ (r : Row). r.place) (call_list ls)

abbrev pub start_column : List Listing → List ℕ
start_column ls = map (λ (r : Row). r.start) (call_list ls)

-- the reader's outcome, and last 12 if the list is longer than a column
unfoldable pub listed_calls : Bool → List ℕ → List ℕ → List ℕ → ℕ → ℕ → ℕ → Outcome (List Listing)
unfolding read_tag
listed_calls ml? seq text ml groups places starts =
    and_then (read_tag ml? seq text ml) (λ ls.
    need (leb (length (call_list ls)) groups && leb (length (call_list ls)) places && leb (length (call_list ls)) starts) 12 (Ok ls))

-- the answer of the call reader, and the columns after the call
pub record CallsRead : Type 0 where
  pub answer : Outcome (ℕ × ℕ)
  pub groups : List ℕ
  pub places : List ℕ
  pub starts : List ℕ

abbrev pub calls_read : Outcome (ℕ × ℕ) → List ℕ → List ℕ → List ℕ → CallsRead
calls_read answer groups places starts = record { answer = answer; groups = groups; places = places; starts = starts }

unfoldable pub read_calls : Bool → List ℕ → List ℕ → List ℕ → List ℕ → List ℕ → List ℕ → CallsRead
unfolding listed_calls leaves
read_calls ml? seq text ml groups places starts =
    let o = listed_calls ml? seq text ml (length groups) (length places) (length starts) in
    calls_read (on_done counts_of o) (leaves group_column o groups) (leaves place_column o places) (leaves start_column o starts)
