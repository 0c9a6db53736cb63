-- What becomes of the optional fields when the tags are removed or edited.
-- Assumes nothing.
use Rattle.std.specs.Prelude.{ℕ, Bool, true, false, cond, not, ◌&&◌, ◌||◌, List, [], ◌∷◌, ◌++◌, ltb, eqb, Ok, Err, Option, None, Some}
use Rattle.lent.specs.Lists.{is_empty}
use Rattle.lent.specs.Outcome.{Outcome, need}
use Rattle.record_fields.specs.Fields.{Field, MM, ML, MN, am, bm, any_other, first_named, name_of}
use Rattle.record_tags.specs.Values.{is_byte_array, is_integer, is_text, text_of, values_of, with_integer, with_text, with_values}
use Rattle.samtags.specs.Writing.{Tag}

-- ---- changes

-- what becomes of a field: one field, or none if it goes
abbrev pub Change : Type 0
Change = Field → List Field

abbrev pub goes : Change
goes f = []

-- For each name a list of changes: the first is for the first field of that name, the second for the second, and so on. A field without a change stays.
abbrev pub Changes : Type 0
Changes = ℕ → List Change

-- what becomes of the next field
abbrev pub applied : List Change → Field → List Field
applied [] f = f ∷ []
applied (g ∷ gs) f = g f

-- the changes for the fields after the next one
abbrev pub rest : List Change → List Change
rest [] = []
rest (g ∷ gs) = gs

-- the changes after a field of this name
abbrev pub after : ℕ → Changes → Changes
after name c k = cond (eqb k name) (rest (c k)) (c k)

-- the fields after all changes, in their order
unfoldable pub changed : Changes → List Field → List Field
unfolding name_of
changed c [] = []
changed c (f ∷ fs) = applied (c (name_of f)) f ++ changed (after (name_of f) c) fs

-- ---- removing

-- the first field of each of the five names goes
unfoldable pub removal : Changes
removal k = cond (ltb k any_other) (goes ∷ []) []

-- there is an MM, am or bm, of whatever type
unfoldable pub is_tagged : List Field → Bool
unfolding first_named
is_tagged fs = not (is_empty (first_named MM fs)) || not (is_empty (first_named am fs)) || not (is_empty (first_named bm fs))

-- ---- editing

-- an edit of a tag: with or without ML, the text, the ML
abbrev pub TagEdit : Type 0
TagEdit = Bool → List ℕ → List ℕ → Outcome Tag

-- the field with what a tag's edit gives for it, or none if the edit refuses
abbrev pub or_goes : (Tag → Field) → Outcome Tag → List Field
or_goes g (Err r) = []
or_goes g (Ok t) = g t ∷ []

-- a text is edited without ML; a field of another type stays
abbrev pub alone_edited : TagEdit → Change
alone_edited edit f = cond (is_text f) (or_goes (λ t. with_text t.text f) (edit false (text_of f) [])) (f ∷ [])

-- MM is edited with its ML, if there is one; an ML that is no array of bytes cannot be edited, and the refusal's number is not shown
unfoldable pub with_ml : TagEdit → Field → Field → Outcome Tag
with_ml edit mm ml =
    cond (is_empty ml) (edit false (text_of mm) []) (need (is_byte_array ml) 8 (edit true (text_of mm) (values_of ml)))

-- the edit refuses
abbrev pub refuses : Outcome Tag → Bool
refuses (Err r) = true
refuses (Ok t) = false

-- MN becomes n, if it is an integer
abbrev pub length_set : ℕ → Change
length_set n f = cond (is_integer f) (with_integer n f ∷ []) (f ∷ [])

-- and is not looked at if SEQ's length did not change
abbrev pub length_sets : Option ℕ → List Change
length_sets None = []
length_sets (Some n) = length_set n ∷ []

-- MM and ML are edited together, or go together, with MN; am and bm are edited alone, and go alone. Afterwards an MN that is still there becomes the new
-- length of SEQ, if that changed.
unfoldable pub editing : TagEdit → Option ℕ → List Field → Changes
unfolding first_named with_ml
editing edit length fs k =
    let mm = first_named MM fs in
    let o = with_ml edit mm (first_named ML fs) in
    cond (eqb k MM) ((λ (f : Field). cond (is_text f) (or_goes (λ t. with_text t.text f) o) (f ∷ [])) ∷ [])
    (cond (eqb k ML) ((λ (f : Field). cond (is_text mm) (or_goes (λ t. with_values t.ml f) o) (f ∷ [])) ∷ [])
    (cond (eqb k MN) (cond (is_text mm && refuses o) (goes ∷ []) [] ++ length_sets length)
    (cond (eqb k am || eqb k bm) (alone_edited edit ∷ []) [])))
