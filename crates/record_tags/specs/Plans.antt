-- A plan: for each name a number that says what happens to its next fields. Contracts of support functions; no promise rests on them.
-- Assumes nothing.
use Rattle.std.specs.Prelude.{◌≡◌, ℕ, ◌+◌, Bool, true, false, cond, ◌&&◌, ◌||◌, List, [], ◌∷◌, leb, eqb, length, get_or}
use Rattle.changing.specs.Windows.{window_edit}
use Rattle.lent.specs.Answers.{is_done}
use Rattle.record_fields.specs.Fields.{Field, MN, first_named}
use Rattle.record_tags.specs.Changes.{Change, Changes, TagEdit, goes, length_set, or_goes}
use Rattle.record_tags.specs.Values.{text_of, with_text, with_values}
use Rattle.samtags.specs.Edits.{edited}

-- ---- the numbers

-- the field stays
abbrev pub STAYS : ℕ
STAYS = 0

-- it goes
abbrev pub GOES : ℕ
GOES = 1

-- a text, edited without ML
abbrev pub ALONE : ℕ
ALONE = 2

-- the text of MM, edited with its ML
abbrev pub PAIRED : ℕ
PAIRED = 3

-- the values of ML, edited with MM
abbrev pub VALUES : ℕ
VALUES = 4

-- MN, which becomes the length of SEQ
abbrev pub LENGTH : ℕ
LENGTH = 5

-- it goes, and the next field of its name becomes the length of SEQ
abbrev pub GOES-THEN-LENGTH : ℕ
GOES-THEN-LENGTH = 6

-- ---- what they say

-- the one form of edit that the three calls share
abbrev pub by_window : ℕ → List ℕ → List ℕ → List ℕ → TagEdit
by_window lo after marks seq ml? text ml = edited (window_edit lo after marks) ml? seq text ml

-- what the numbers of a plan need: the edit, the text of MM and the values of ML, the length of SEQ
pub record Means : Type 0 where
  pub edit : TagEdit
  pub mm : List ℕ
  pub ml : List ℕ
  pub bases : ℕ

abbrev pub means : TagEdit → List ℕ → List ℕ → ℕ → Means
means edit mm ml bases = record { edit = edit; mm = mm; ml = ml; bases = bases }

unfoldable pub queue_by : Means → ℕ → List Change
queue_by m a =
    cond (eqb a GOES) (goes ∷ [])
    (cond (eqb a ALONE) ((λ (f : Field). or_goes (λ t. with_text t.text f) (m.edit false (text_of f) [])) ∷ [])
    (cond (eqb a PAIRED) ((λ (f : Field). or_goes (λ t. with_text t.text f) (m.edit true m.mm m.ml)) ∷ [])
    (cond (eqb a VALUES) ((λ (f : Field). or_goes (λ t. with_values t.ml f) (m.edit true m.mm m.ml)) ∷ [])
    (cond (eqb a LENGTH) (length_set m.bases ∷ [])
    (cond (eqb a GOES-THEN-LENGTH) (goes ∷ length_set m.bases ∷ []) [])))))

unfoldable pub planned : Means → List ℕ → Changes
unfolding queue_by
planned m plan k = queue_by m (get_or plan k 0)

-- the number after a field
abbrev pub next_of : ℕ → ℕ
next_of a = cond (eqb a GOES-THEN-LENGTH) LENGTH STAYS

-- the number can be carried out on the field: the edit succeeds, and the texts are within the domain and no longer than the field
unfoldable pub is_ready : Means → ℕ → Field → Bool
is_ready m a f =
    cond (eqb a ALONE) (is_done (m.edit false (text_of f) []) && leb (length (text_of f)) 65536)
    (cond (eqb a PAIRED) (is_done (m.edit true m.mm m.ml) && leb (length m.mm + 4) (length f))
    (cond (eqb a VALUES) (is_done (m.edit true m.mm m.ml) && leb (length m.ml + 8) (length f)) true))

-- each number can be carried out on the first field of its name, and only MN's is above VALUES
abbrev pub Ready : Means → List ℕ → List Field → Type 0
Ready m plan fs = (k : ℕ) → (is_ready m (get_or plan k 0) (first_named k fs) ≡ true) × (eqb k MN || leb (get_or plan k 0) VALUES ≡ true)

-- how many bytes the record may grow by: MN of one byte becomes one of four
unfoldable pub growth : List ℕ → ℕ
growth plan = cond (leb LENGTH (get_or plan MN 0)) 3 0
