-- `edit_entries`. Invariant: reading and writing the remaining entries, after what is written, gives the result for all entries. Writing never overtakes
-- reading, so what is still to be read is unchanged.
-- Assumes nothing.
use mathlib.Core.Path.{◌≡◌}
use Prim.Native.Nat.{◌+◌, ◌-◌, ◌≤◌, ℕ}
use mathlib.Core.List.{List}
use lib.ListN.{drop, length}
use Rattle.entries.specs.declared.Kind.{Kind}
use Rattle.changing.specs.Drafts.{Draft, draft}
use Rattle.changing.specs.Windows.{denied_in, held_in, is_marked}
use Rattle.drafting.specs.Walks.{spots_put}
use Rattle.lent.specs.Outcome.{Outcome, on_done}
use Rattle.samtags.proofs.Behind.{Behind}
use Rattle.samtags.specs.Reading.{read_spots}
use Rattle.samtags.specs.Text.{led_by, up_to}
use Rattle.fields.specs.Fields.{field_of}
use Rattle.places.specs.Walk.{tracked_from}
use Rattle.strides.specs.declared.Window.{Window}
use Rattle.entries.specs.declared.Pen.{Pen}
use Rattle.places.specs.declared.Place.{Place}
use Rattle.overwriting.proofs.edit_entries.Given as goal

-- the outcome of reading from a separator, a place and a value on, changed and written
abbrev pub put_from : List ℕ → List ℕ → List ℕ → List ℕ → List ℕ → Window → Kind → Draft → ℕ → ℕ → ℕ → ℕ → Outcome (Draft × List ℕ)
put_from seq after marks text ml window kind w gap used at from =
    on_done (spots_put (held_in window.lo after kind.base) (is_marked marks) w gap)
    (read_spots kind.values (denied_in marks kind.may_drop) (led_by 44 (up_to 59 (drop at text))) (tracked_from kind.base from seq) (drop used ml))

-- what the loop keeps, of its variables before it began (₀) and now
abbrev pub Walked : List ℕ → List ℕ → List ℕ → Window → Kind → List ℕ → List ℕ → ℕ → ℕ → Pen → Place → List ℕ → List ℕ → ℕ → ℕ → Pen → Place → Type 0
Walked seq after marks window kind text₀ ml₀ at₀ used₀ pen₀ from₀ text ml at used pen from =
    (at + length (up_to 59 (drop at text₀)) ≡ at₀ + length (up_to 59 (drop at₀ text₀)))
    × (length (field_of (drop at text₀)) ≡ 0)
    × (from.0 ≤ length seq) × (used ≤ length ml₀)
    × Behind (at₀ + pen.end) (pen₀.end + at) pen.gap
    × (used₀ + pen.kept ≤ pen₀.kept + used)
    × (pen.gap + length (tracked_from kind.base from.0 seq) ≤ 16000)
    × (put_from seq after marks text₀ ml₀ window kind (draft text₀ pen₀.end ml₀ pen₀.kept) 0 used₀ at₀ 0
    ≡ put_from seq after marks text₀ ml₀ window kind (draft text pen.end ml pen.kept) pen.gap used at from.0)
    × (drop at text ≡ drop at text₀) × (drop used ml ≡ drop used ml₀)
    × (length text ≡ length text₀) × (length ml ≡ length ml₀)

abbrev pub invariant-loop-text : goal.invariant-loop-text
invariant-loop-text l = Walked l.seq l.after l.marks l.window l.kind l.initial.text l.initial.ml l.initial.at l.initial.used l.initial.pen l.initial.from l.text l.ml l.at l.used l.pen l.from

abbrev pub decreases-loop-text : goal.decreases-loop-text
decreases-loop-text l = length l.initial.text - l.at
