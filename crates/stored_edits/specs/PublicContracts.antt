-- The promise of each public call: one proposition per call, about its answer and every byte of the lent rows, for all inputs. The call's `ensures`
-- cites it, and every theorem about the call uses it. `reverse` says whether the stored read is reverse, `ml?` whether the tag has an ML; `mm` and `ml`
-- are the tag, `text` and `values` are the rows lent for the edited tag, and `text'` and `values'` are these rows after the call.
-- Assumes nothing.
use Rattle.lent.specs.Outcome.{Outcome}
use Rattle.std.specs.Prelude.{◌≡◌, ℕ, Bool, List, length, Option}
use Rattle.editing.specs.Rewrote.{leaves_tag, rewrote}
use Rattle.stored_edits.specs.Edits.{cut_stored, drop_stored, mask_stored}

-- `drop_masked_modifications`: the stored SEQ `before` of n bases was masked to `after` of k bases
abbrev pub MasksStored : Bool → Bool → ℕ → List ℕ → ℕ → List ℕ → List ℕ → List ℕ → List ℕ → List ℕ → Outcome (ℕ × ℕ) → List ℕ → List ℕ → Type 0
MasksStored reverse ml? n before k after mm ml text values r text' values' =
    rewrote r text' values'
    ≡ leaves_tag ml? (mask_stored reverse ml? n before k after mm ml (length text) (length values)) text values

-- `drop_modifications_at`: the calls at the places are dropped, and SEQ stays
abbrev pub DropsStored : Bool → Bool → ℕ → List ℕ → List ℕ → List ℕ → List ℕ → List ℕ → List ℕ → Outcome (ℕ × ℕ) → List ℕ → List ℕ → Type 0
DropsStored reverse ml? n packed places mm ml text values r text' values' =
    rewrote r text' values'
    ≡ leaves_tag ml? (drop_stored reverse ml? n packed places mm ml (length text) (length values)) text values

-- `trim_clipped_modifications`: the stored SEQ `before` of n bases was cut to `after` of k bases, which begins at `start`
abbrev pub TrimsStored :
    Bool → Bool → Option ℕ → ℕ → List ℕ → ℕ → List ℕ → List ℕ → List ℕ → List ℕ → List ℕ → Outcome (ℕ × ℕ) → List ℕ → List ℕ → Type 0
TrimsStored reverse ml? start n before k after mm ml text values r text' values' =
    rewrote r text' values'
    ≡ leaves_tag ml? (cut_stored reverse ml? start n before k after mm ml (length text) (length values)) text values
