-- `edit_groups`. Invariant: reading and writing the remaining groups, after what is written, gives the result for all groups; and what is still to be read
-- is unchanged.
-- Assumes nothing.
use mathlib.Core.Path.{◌≡◌}
use Prim.Native.Nat.{◌-◌, ◌≤◌, ℕ}
use mathlib.Core.Bool.{Bool}
use mathlib.Core.List.{List}
use lib.ListN.{drop, length}
use Rattle.changing.specs.Drafts.{Draft, draft}
use Rattle.changing.specs.Windows.{is_marked, window_edit}
use Rattle.drafting.specs.Walks.{edited_groups, tag_put}
use Rattle.drafting.specs.declared.Cursor.{Cursor}
use Rattle.lent.specs.Outcome.{Outcome, on_done}
use Rattle.samtags.specs.Reading.{read_groups}
use Rattle.samtags.specs.Text.{closed_by}
use Rattle.overwriting.proofs.edit_groups.Given as goal

-- the outcome of reading text₀ and ml₀ from a cursor on, changed and written into text and ml
abbrev pub put_from : List ℕ → List ℕ → List ℕ → ℕ → Bool → List ℕ → List ℕ → List ℕ → List ℕ → Cursor → Outcome Draft
put_from seq after marks lo ml? text₀ ml₀ text ml c =
    on_done (tag_put (draft text c.end ml c.kept)) (edited_groups (window_edit lo after marks)
    (read_groups ml? (is_marked marks) seq (closed_by 59 (drop c.at text₀)) (drop c.used ml₀)))

abbrev pub invariant-loop-c : goal.invariant-loop-c
invariant-loop-c l = (l.c.at ≤ length l.initial.text) × (l.c.used ≤ length l.initial.ml) × (l.c.end ≤ l.c.at) × (l.c.kept ≤ l.c.used)
    × (put_from l.seq l.after l.marks l.lo l.has_ml l.initial.text l.initial.ml l.initial.text l.initial.ml l.initial.c ≡ put_from l.seq l.after l.marks l.lo l.has_ml l.initial.text l.initial.ml l.text l.ml l.c)
    × (drop l.c.at l.text ≡ drop l.c.at l.initial.text) × (drop l.c.used l.ml ≡ drop l.c.used l.initial.ml)
    × (length l.text ≡ length l.initial.text) × (length l.ml ≡ length l.initial.ml)

abbrev pub decreases-loop-c : goal.decreases-loop-c
decreases-loop-c l = length l.initial.text - l.c.at
