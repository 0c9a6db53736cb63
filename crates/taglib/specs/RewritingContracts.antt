-- What each export that rewrites a tag into other rows promises to a C program: one proposition per export, about its arguments, the returned
-- number, and the lent rows and numbers after the call. The export's `ensures` cites it, and every theorem about the export uses it.
-- Assumes nothing.
use Rattle.std.specs.Prelude.{◌≡◌, ℕ, Bool, List, length}
use Rattle.lent.specs.Outcome.{Outcome, number_of}
use Rattle.lent.specs.Filled.{leaves}
use Rattle.samtags.specs.Edits.{cut_tag, drop_from_tag, mask_tag}
use Rattle.samtags.specs.Writing.{Tag}
use Rattle.editing.specs.Rewrote.{values_with}
use Rattle.telling.specs.Told.{told, yes}
use Rattle.telling.specs.Starts.{given_start}

-- A call with the outcome o writes a tag, its text into mm and its values into ml, and passes on both lengths. It returns 0, with the two at the
-- front of their rows and their lengths in t and v; or o's number, with rows and lengths unchanged. Without ML the ML row is unchanged, and a done
-- call writes 0 to v.
abbrev pub WritesTagInC : Bool → Outcome Tag → List ℕ → List ℕ → ℕ → ℕ → ℕ → List ℕ → List ℕ → ℕ → ℕ → Type 0
WritesTagInC ml? o mm ml t v r mm' ml' t' v' =
    (r ≡ number_of o)
    × (t' ≡ told (λ (u : Tag). length u.text) o t)
    × (v' ≡ told (λ (u : Tag). length (values_with ml? u)) o v)
    × (mm' ≡ leaves (λ (u : Tag). u.text) o mm)
    × (ml' ≡ leaves (values_with ml?) o ml)

-- `aql_drop_masked_modifications`: SEQ before and after, MM, ML and whether there is an ML; the lent rows and lengths; the returned number; rows and
-- lengths after the call
abbrev pub MasksTagInC : List ℕ → List ℕ → List ℕ → List ℕ → ℕ → List ℕ → List ℕ → ℕ → ℕ → ℕ → List ℕ → List ℕ → ℕ → ℕ → Type 0
MasksTagInC before after mm ml hasMl mmOut mlOut t v r mmOut' mlOut' t' v' =
    WritesTagInC (yes hasMl) (mask_tag (yes hasMl) before after mm ml (length mmOut) (length mlOut)) mmOut mlOut t v r mmOut' mlOut' t' v'

-- `aql_drop_modifications_at`: SEQ, the places, MM, ML and whether there is an ML; the rest as above
abbrev pub DropsFromTagInC : List ℕ → List ℕ → List ℕ → List ℕ → ℕ → List ℕ → List ℕ → ℕ → ℕ → ℕ → List ℕ → List ℕ → ℕ → ℕ → Type 0
DropsFromTagInC seq places mm ml hasMl mmOut mlOut t v r mmOut' mlOut' t' v' =
    WritesTagInC (yes hasMl) (drop_from_tag (yes hasMl) seq places mm ml (length mmOut) (length mlOut)) mmOut mlOut t v r mmOut' mlOut' t' v'

-- `aql_trim_clipped_modifications`: SEQ before and after, whether the start is known and where it is, MM, ML and whether there is an ML; the rest as
-- above
abbrev pub CutsTagInC : List ℕ → List ℕ → ℕ → ℕ → List ℕ → List ℕ → ℕ → List ℕ → List ℕ → ℕ → ℕ → ℕ → List ℕ → List ℕ → ℕ → ℕ → Type 0
CutsTagInC before after startKnown start mm ml hasMl mmOut mlOut t v r mmOut' mlOut' t' v' =
    let o = cut_tag (yes hasMl) (given_start startKnown start) before after mm ml (length mmOut) (length mlOut) in
    WritesTagInC (yes hasMl) o mmOut mlOut t v r mmOut' mlOut' t' v'
