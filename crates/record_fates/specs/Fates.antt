-- A record that was opened, and the numbers of a plan by what the first field of each name holds. Contracts of support functions; no promise rests on
-- them.
-- Assumes nothing.
use Rattle.std.specs.Prelude.{◌≡◌, ℕ, Bool, true, false, cond, ◌&&◌, ◌||◌, List, [], ◌∷◌, eqb, drop, Ok, Err}
use Rattle.lent.specs.Answers.{is_done}
use Rattle.lent.specs.Lists.{is_empty}
use Rattle.lent.specs.Outcome.{Outcome, need}
use Rattle.record_fields.specs.Bam.{head_size, is_reverse, is_whole, seq_length, seq_start}
use Rattle.record_fields.specs.Fields.{Field, fields, fields_of, is_field}
use Rattle.record_fields.specs.Spots.{Spots}
use Rattle.record_fields.specs.declared.Head.{Head}
use Rattle.record_tags.specs.Changes.{TagEdit}
use Rattle.record_tags.specs.Plans.{ALONE, GOES, GOES-THEN-LENGTH, LENGTH, PAIRED, STAYS, VALUES}
use Rattle.record_tags.specs.Records.{in_domain, remade}
use Rattle.record_tags.specs.Values.{is_byte_array, is_text, text_of, values_of}

-- no field, or a whole one
abbrev pub is_sound : Field → Bool
is_sound f = is_empty f || is_field f

-- ---- opening

-- what the head says is read
abbrev pub HeadRead : List ℕ → Head → Type 0
HeadRead bam h =
    (h.reverse ≡ is_reverse bam) × (h.bases ≡ seq_length bam) × (h.seq_at ≡ seq_start bam) × (h.fields_at ≡ head_size bam)

-- the record is refused whatever is asked of it, or its fields and lengths are in order
abbrev pub OpenedAs : List ℕ → ℕ → List ℕ → List ℕ → Outcome Head → Type 0
OpenedAs bam k ats sizes (Err r) = (room : ℕ) (new : List Field → List Field) → remade bam k room new ≡ Err r
OpenedAs bam k ats sizes (Ok h) =
    (is_whole bam ≡ true) × HeadRead bam h × (is_done (fields (drop (head_size bam) bam)) ≡ true)
    × Spots bam (fields_of (drop (head_size bam) bam)) ats sizes × (in_domain (seq_length bam) k (fields_of (drop (head_size bam) bam)) ≡ true)

-- ---- the plan

-- an edit that is not possible refuses
abbrev pub guarded : Bool → TagEdit → TagEdit
guarded possible edit ml? text ml = need possible 2 (edit ml? text ml)

-- a text is edited without ML, or goes
abbrev pub alone_fate : TagEdit → Field → ℕ
alone_fate edit f = cond (is_text f) (cond (is_done (edit false (text_of f) [])) ALONE GOES) STAYS

-- MM is edited with its ML, if there is one, or goes
abbrev pub pair_fate : TagEdit → Field → Field → ℕ
pair_fate edit mm ml =
    cond (is_empty ml) (alone_fate edit mm)
    (cond (is_text mm) (cond (is_byte_array ml && is_done (edit true (text_of mm) (values_of ml))) PAIRED GOES) STAYS)

-- ML goes with MM
abbrev pub array_fate : ℕ → ℕ
array_fate mm = cond (eqb mm GOES) GOES (cond (eqb mm PAIRED) VALUES STAYS)

-- MN goes with MM; if SEQ's length changed, an MN that is still there is set
abbrev pub length_fate : ℕ → Bool → ℕ
length_fate mm set = cond (eqb mm GOES) (cond set GOES-THEN-LENGTH GOES) (cond set LENGTH STAYS)

abbrev pub plan_of : ℕ → ℕ → ℕ → Bool → List ℕ
plan_of mm am bm set = mm ∷ array_fate mm ∷ length_fate mm set ∷ am ∷ bm ∷ STAYS ∷ []
