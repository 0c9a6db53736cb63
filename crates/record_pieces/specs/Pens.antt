-- The new record while it is written. Contracts of support functions; no promise rests on them.
-- Assumes nothing.
use Rattle.std.specs.Prelude.{◌≡◌, ℕ, ◌+◌, Bool, true, List, [], length, take, Ok, Err}
use Rattle.std.proofs.lemmas.List.Edits.{sets}
use Rattle.lent.specs.Outcome.{Outcome}
use Rattle.record_fields.specs.Fields.{Field, joined}
use Rattle.record_pieces.specs.declared.Pen.{Pen}
use Rattle.samtags.specs.Writing.{Tag}

-- the text of a tag that is edited
abbrev pub text_in : Outcome Tag → List ℕ
text_in (Err r) = []
text_in (Ok t) = t.text

-- the values of a tag that is edited
abbrev pub values_in : Outcome Tag → List ℕ
values_in (Err r) = []
values_in (Ok t) = t.ml

-- a list waits at the front of the work row, if the flag says so
abbrev pub Waits : Bool → List ℕ → ℕ → List ℕ → Type 0
Waits flag xs kept work = flag ≡ true → (kept ≡ length xs) × (take kept work ≡ xs)

-- what the pen says of the work row, for an edited tag: its values wait there, or its text
abbrev pub Waiting : Outcome Tag → Pen → List ℕ → Type 0
Waiting o pen work = Waits pen.values (values_in o) pen.kept work × Waits pen.text (text_in o) pen.kept work

-- fields written from an index on, as far as the row reaches; r is the index after them
abbrev pub Wrote : List Field → ℕ → List ℕ → ℕ → List ℕ → Type 0
Wrote fs at out r out' = (r ≡ at + length (joined fs)) × (out' ≡ sets out at (joined fs))
