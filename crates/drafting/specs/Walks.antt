-- The answer of the walk over a tag and the rows after it, step by step, and that writing never overtakes reading. These are contracts of support
-- functions; no promise rests on them.
-- Assumes nothing.
use Rattle.std.specs.Prelude.{ℕ, ◌+◌, ◌≤◌, ◌≡◌, Bool, List, map, length, drop, Ok, Err}
use Rattle.lent.specs.Lists.{concat_map}
use Rattle.lent.specs.Outcome.{Outcome, on_done, and_then}
use Rattle.samtags.specs.Text.{up_to}
use Rattle.samtags.specs.Spots.{Spot, values_of, Group}
use Rattle.samtags.specs.Writing.{Tag, skips_from, entries_text, group_text, written}
use Rattle.samtags.specs.Edits.{Edit, changed}
use Rattle.samtags.proofs.Length.{change}
use Rattle.changing.specs.Drafts.{Draft, draft, more}
use Rattle.entries.specs.declared.Pen.{Pen}
use Rattle.drafting.specs.declared.Cursor.{Cursor}

-- ---- what is written

-- the changed spots of a group, before which `gap` bare spots wait; the rest of ML is passed on
abbrev pub spots_put : (ℕ → Bool) → (ℕ → Bool) → Draft → ℕ → List Spot × List ℕ → Draft × List ℕ
spots_put held dropped w gap r =
    let ss = change held dropped r.0 in
    (more w (entries_text (skips_from gap ss)) (concat_map values_of ss), r.1)

-- a changed group
abbrev pub group_put : Edit → Draft → Group × List ℕ → Draft × List ℕ
group_put e w r = (more w (group_text (changed e r.0)) (concat_map values_of (changed e r.0).spots), r.1)

-- a whole tag
abbrev pub tag_put : Draft → Tag → Draft
tag_put w t = more w t.text t.ml

-- ---- the state of a walk

-- the pen at the ends of the written parts, with no base passed yet
abbrev pub pen_of : Cursor → Pen
pen_of c = record { end = c.end; kept = c.kept; gap = 0 }

-- the cursor of a walk that has read up to byte `at` and value `used`
abbrev pub cursor_at : ℕ → ℕ → Pen → Cursor
cursor_at at used pen = record { at = at; used = used; end = pen.end; kept = pen.kept }

-- ---- the answers

-- the answer agrees with o, the outcome of the entries from the separator at c on; t and v are the rows before, t' and v' after
abbrev pub EntriesEdited : (ℕ → Bool) → (ℕ → Bool) → List ℕ → List ℕ → Cursor → Outcome (List Spot × List ℕ)
    → List ℕ → List ℕ → Outcome Cursor → List ℕ → List ℕ → Type 0
EntriesEdited held dropped text ml c o t v (Err r) t' v' = o ≡ Err r
EntriesEdited held dropped text ml c o t v (Ok d) t' v' =
    (d.at ≡ c.at + length (up_to 59 (drop c.at text))) × (d.used ≤ length ml)
    × (c.at + d.end ≤ c.end + d.at) × (c.used + d.kept ≤ c.kept + d.used)
    × (on_done (spots_put held dropped (draft t c.end v c.kept) 0) o ≡ Ok (draft t' d.end v' d.kept, drop d.used ml))

-- the answer agrees with o, the outcome of the group at a byte of the text and a value of ML
abbrev pub GroupEdited : Edit → List ℕ → List ℕ → ℕ → ℕ → Outcome (Group × List ℕ) → List ℕ → List ℕ → Outcome Cursor → List ℕ → List ℕ → Type 0
GroupEdited e text ml at used o t v (Err r) t' v' = o ≡ Err r
GroupEdited e text ml at used o t v (Ok d) t' v' =
    (d.at ≡ at + length (up_to 59 (drop at text)) + 1) × (d.used ≤ length ml) × (at + d.end ≤ d.at) × (used + d.kept ≤ d.used)
    × (on_done (group_put e (draft t 0 v 0)) o ≡ Ok (draft t' d.end v' d.kept, drop d.used ml))

-- the tag written from the changed groups
abbrev pub edited_groups : Edit → Outcome (List Group) → Outcome Tag
edited_groups e o = and_then o (λ gs. Ok (written (map (changed e) gs)))

-- the answer agrees with o, the outcome of all groups
abbrev pub TagEdited : Edit → Outcome (List Group) → List ℕ → List ℕ → Outcome Cursor → List ℕ → List ℕ → Type 0
TagEdited e o t v (Err r) t' v' = o ≡ Err r
TagEdited e o t v (Ok d) t' v' = on_done (tag_put (draft t 0 v 0)) (edited_groups e o) ≡ Ok (draft t' d.end v' d.kept)
