-- `edit_groups`. Invariant: reading and writing the remaining groups, after what is written, gives the result for all groups.
-- Assumes nothing.
use mathlib.Core.Path.{◌≡◌}
use Prim.Native.Nat.{◌-◌, ◌≤◌, ℕ}
use mathlib.Core.Bool.{Bool}
use mathlib.Core.List.{List}
use lib.ListN.{drop, length}
use Rattle.changing.specs.Drafts.{Draft, draft}
use Rattle.drafting.specs.Walks.{edited_groups, tag_put}
use Rattle.changing.specs.Windows.{is_marked, window_edit}
use Rattle.drafting.specs.declared.Cursor.{Cursor}
use Rattle.lent.specs.Outcome.{Outcome, on_done}
use Rattle.samtags.specs.Reading.{read_groups}
use Rattle.samtags.specs.Text.{closed_by}
use Rattle.drafting.proofs.edit_groups.Given as goal

-- the outcome of reading from a cursor on, changed and written
abbrev pub put_from : List ℕ → List ℕ → List ℕ → List ℕ → List ℕ → ℕ → Bool → List ℕ → List ℕ → Cursor → Outcome Draft
put_from seq after marks text ml lo ml? out ml-out c =
    on_done (tag_put (draft out c.end ml-out c.kept)) (edited_groups (window_edit lo after marks)
    (read_groups ml? (is_marked marks) seq (closed_by 59 (drop c.at text)) (drop c.used ml)))

abbrev pub invariant-loop-c : goal.invariant-loop-c
invariant-loop-c l = (l.c.at ≤ length l.text) × (l.c.used ≤ length l.ml) × (l.c.end ≤ l.c.at) × (l.c.kept ≤ l.c.used)
    × (put_from l.seq l.after l.marks l.text l.ml l.lo l.has_ml l.initial.out l.initial.ml_out l.initial.c ≡ put_from l.seq l.after l.marks l.text l.ml l.lo l.has_ml l.out l.ml_out l.c)
    × (length l.out ≡ length l.initial.out) × (length l.ml_out ≡ length l.initial.ml_out)

abbrev pub decreases-loop-c : goal.decreases-loop-c
decreases-loop-c l = length l.text - l.c.at
