-- The three edits: on a group, then on a tag, then as public calls, each with its own order of refusals.
-- Assumes nothing.
use Rattle.std.specs.Prelude.{ℕ, ◌+◌, ◌-◌, Bool, true, false, cond, not, ◌&&◌, ◌||◌, List, [], ◌∷◌, map, length, get_or, drop, leb, ltb, eqb, Ok, Option, None, Some}
use Rattle.lent.specs.Lists.{filter, among}
use Rattle.samtags.specs.Bytes.{letter_n}
use Rattle.samtags.specs.Text.{base_of}
use Rattle.lent.specs.Outcome.{Outcome, refuse, need, and_then}
use Rattle.samtags.specs.Spots.{Spot, bare, call, place_of, Group, holds}
use Rattle.samtags.specs.Reading.{nowhere, read, in_domain}
use Rattle.samtags.specs.Writing.{Tag, written}

-- An edit says which bases of a kind remain bases of that kind, and at which places the calls are dropped.
pub record Edit : Type 0 where
  pub still_held : ℕ → ℕ → Bool
  pub dropped : ℕ → Bool

-- a call at a dropped place becomes bare: its base stays in SEQ, so it still counts in later skips
abbrev pub unlist : (ℕ → Bool) → Spot → Spot
unlist dropped (bare p) = bare p
unlist dropped (call p vs) = cond (dropped p) (bare p) (call p vs)

-- the spots that are still bases of the group's kind stay; the others count in no skip
unfoldable pub changed : Edit → Group → Group
unfolding base_of
changed e g =
    record {
      header = g.header;
      spots = filter (λ s. e.still_held (base_of g.header) (place_of s)) (map (unlist e.dropped) g.spots);
    }

-- a tag is read, changed and written again; a drop under a header that doesn't end in '?' is refused while reading
unfoldable pub edited : Edit → Bool → List ℕ → List ℕ → List ℕ → Outcome Tag
unfolding read changed written
edited e ml? seq text ml = and_then (read ml? e.dropped seq text ml) (λ gs. Ok (written (map (changed e) gs)))

-- ---- the three kinds of edit

-- SEQ became `after`, which is as long as SEQ was
unfoldable pub masked_to : List ℕ → Edit
unfolding holds
masked_to after = record { still_held = λ b p. holds b (get_or after p 0); dropped = nowhere }

-- the calls at the places are dropped, SEQ stays
unfoldable pub dropping_at : List ℕ → Edit
dropping_at places = record { still_held = λ b p. true; dropped = among places }

-- SEQ became `after`, which begins at place lo of the old SEQ
unfoldable pub cut_to : ℕ → List ℕ → Edit
unfolding holds
cut_to lo after = record {
  still_held = λ b p. leb lo p && ltb p (lo + length after) && holds b (get_or after (p - lo) 0);
  dropped = nowhere;
}

-- ---- the public calls

-- the finished tag fits the room lent for text and for ML; without ML the room for ML is ignored
abbrev pub in_room : Bool → ℕ → ℕ → Outcome Tag → Outcome Tag
in_room ml? t m o = and_then o (λ r. need (leb (length r.text) t && cond ml? (leb (length r.ml) m) true) 12 (Ok r))

-- Masking: 1, 2, then the reader's numbers, last 12. A mask that changes nothing is an edit like any other: it respells the tag.
unfoldable pub mask_tag : Bool → List ℕ → List ℕ → List ℕ → List ℕ → ℕ → ℕ → Outcome Tag
unfolding edited masked_to
mask_tag ml? before after text ml t m =
    need (in_domain ml? before text ml && leb (length after) 16000) 1
    (need (eqb (length before) (length after)) 2
    (in_room ml? t m (edited (masked_to after) ml? before text ml)))

-- Dropping: 1, then the reader's numbers with 10, last 12.
unfoldable pub drop_from_tag : Bool → List ℕ → List ℕ → List ℕ → List ℕ → ℕ → ℕ → Outcome Tag
unfolding edited dropping_at
drop_from_tag ml? seq places text ml t m =
    need (in_domain ml? seq text ml) 1
    (in_room ml? t m (edited (dropping_at places) ml? seq text ml))

-- the same bytes
abbrev pub same_bytes_of : List ℕ → List ℕ → Bool
same_bytes_of [] [] = true
same_bytes_of [] (y ∷ ys) = false
same_bytes_of (x ∷ xs) [] = false
same_bytes_of (x ∷ xs) (y ∷ ys) = eqb x y && same_bytes_of xs ys

-- 'N' and 'n'
abbrev pub is_masked : ℕ → Bool
is_masked x = eqb x letter_n || eqb x 110

-- `after` matches the front of `before`: each of its bytes is the byte at the same place, or masked
abbrev pub lies_in : List ℕ → List ℕ → Bool
lies_in [] before = true
lies_in (x ∷ xs) [] = false
lies_in (x ∷ xs) (y ∷ ys) = (eqb x y || is_masked x) && lies_in xs ys

-- the start of the window: 0 if nothing was cut off, whatever start is given; else the given start, if it is known
abbrev pub window_start : Option ℕ → List ℕ → List ℕ → Option ℕ
window_start start before after = cond (eqb (length before) (length after)) (Some 0) start

-- f of a known start, or 11 if the start is unknown
abbrev pub with_start : Option ℕ → (ℕ → Outcome Tag) → Outcome Tag
with_start None f = refuse 11
with_start (Some lo) f = f lo

-- Cutting: 1, 21 if nothing changed, 11 if `after` is no window of `before` or its start is unknown, then the reader's numbers, last 12.
unfoldable pub cut_tag : Bool → Option ℕ → List ℕ → List ℕ → List ℕ → List ℕ → ℕ → ℕ → Outcome Tag
unfolding edited cut_to
cut_tag ml? start before after text ml t m =
    need (in_domain ml? before text ml && leb (length after) 16000) 1
    (need (not (same_bytes_of before after)) 21
    (with_start (window_start start before after) (λ lo.
    need (leb lo (length before) && lies_in after (drop lo before)) 11
    (in_room ml? t m (edited (cut_to lo after) ml? before text ml)))))
