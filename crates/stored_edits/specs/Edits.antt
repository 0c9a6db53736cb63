-- The three edits of a stored read's tag: the plain edit on the bases in read orientation, after the checks of the stated numbers: 1, then 2.
-- Assumes nothing.
use Rattle.std.specs.Prelude.{ℕ, Bool, ◌&&◌, List, leb, Option}
use Rattle.lent.specs.Outcome.{Outcome, need}
use Rattle.packed.specs.Stored.{in_read, places_in_read, start_in_read}
use Rattle.samtags.specs.Edits.{cut_tag, drop_from_tag, mask_tag}
use Rattle.samtags.specs.Writing.{Tag}
use Rattle.stored.specs.Reads.{is_exact, of_stored, stated_in_domain}

-- a stored SEQ before and after an edit: n bases in `before` and k bases in `after`
abbrev pub of_two_stored : Bool → ℕ → List ℕ → ℕ → List ℕ → List ℕ → List ℕ → Outcome Tag → Outcome Tag
of_two_stored ml? n before k after text ml o =
    need (stated_in_domain ml? n text ml && leb k 16000) 1 (need (is_exact n before && is_exact k after) 2 o)

-- masking; t and m are the rooms for text and ML
unfoldable pub mask_stored : Bool → Bool → ℕ → List ℕ → ℕ → List ℕ → List ℕ → List ℕ → ℕ → ℕ → Outcome Tag
unfolding in_read mask_tag
mask_stored reverse ml? n before k after text ml t m =
    of_two_stored ml? n before k after text ml (mask_tag ml? (in_read reverse n before) (in_read reverse k after) text ml t m)

-- dropping; places are counted in the stored read, and those past its end do nothing
unfoldable pub drop_stored : Bool → Bool → ℕ → List ℕ → List ℕ → List ℕ → List ℕ → ℕ → ℕ → Outcome Tag
unfolding in_read drop_from_tag
drop_stored reverse ml? n packed places text ml t m =
    of_stored ml? n packed text ml (drop_from_tag ml? (in_read reverse n packed) (places_in_read reverse n places) text ml t m)

-- cutting; the window's start is counted from the stored front
unfoldable pub cut_stored : Bool → Bool → Option ℕ → ℕ → List ℕ → ℕ → List ℕ → List ℕ → List ℕ → ℕ → ℕ → Outcome Tag
unfolding in_read cut_tag
cut_stored reverse ml? start n before k after text ml t m =
    of_two_stored ml? n before k after text ml
    (cut_tag ml? (start_in_read reverse n k start) (in_read reverse n before) (in_read reverse k after) text ml t m)
