-- The promise of each public call: one proposition per call, about its answer and every byte of the lent rows, for all inputs. The call's `ensures`
-- cites it, and every theorem about the call uses it. `ml?` says whether the tag has an ML; `mm` and `ml` are the tag, `text` and `values` are the
-- rows lent for the edited tag, and `text'` and `values'` are these rows after the call.
-- Assumes nothing.
use Rattle.lent.specs.Outcome.{Outcome}
use Rattle.std.specs.Prelude.{◌≡◌, ℕ, Bool, List, length, Option}
use Rattle.samtags.specs.Edits.{cut_tag, drop_from_tag, mask_tag}
use Rattle.editing.specs.Rewrote.{leaves_tag, rewrote}

-- `drop_masked_modifications`: SEQ `before` was masked to `after`
abbrev pub Masks : Bool → List ℕ → List ℕ → List ℕ → List ℕ → List ℕ → List ℕ → Outcome (ℕ × ℕ) → List ℕ → List ℕ → Type 0
Masks ml? before after mm ml text values r text' values' =
    rewrote r text' values' ≡ leaves_tag ml? (mask_tag ml? before after mm ml (length text) (length values)) text values

-- `drop_modifications_at`: the calls at the places are dropped, and SEQ stays
abbrev pub Drops : Bool → List ℕ → List ℕ → List ℕ → List ℕ → List ℕ → List ℕ → Outcome (ℕ × ℕ) → List ℕ → List ℕ → Type 0
Drops ml? seq places mm ml text values r text' values' =
    rewrote r text' values' ≡ leaves_tag ml? (drop_from_tag ml? seq places mm ml (length text) (length values)) text values

-- `trim_clipped_modifications`: SEQ `before` was cut to `after`, which begins at `start`
abbrev pub Trims : Bool → Option ℕ → List ℕ → List ℕ → List ℕ → List ℕ → List ℕ → List ℕ → Outcome (ℕ × ℕ) → List ℕ → List ℕ → Type 0
Trims ml? start before after mm ml text values r text' values' =
    rewrote r text' values' ≡ leaves_tag ml? (cut_tag ml? start before after mm ml (length text) (length values)) text values
