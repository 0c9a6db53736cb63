-- Reading a tag: the groups of an MM text with its SEQ and ML, or the number of the first error from the left. `ml?` says whether there is an ML:
-- without ML no value is taken, and 8 and 9 do not occur.
-- Assumes nothing.
use Rattle.std.specs.Prelude.{ℕ, suc, ◌+◌, Bool, true, false, cond, not, ◌&&◌, List, [], ◌∷◌, ◌++◌, map, length, take, drop, leb, ltb, eqb, Ok}
use Rattle.lent.specs.Lists.{every, filter, is_empty, last_or}
use Rattle.samtags.specs.Bytes.{comma, semicolon, is_ascii}
use Rattle.samtags.specs.Decimal.{is_number, value}
use Rattle.samtags.specs.Text.{up_to, led_by, closed_by, base_of, ends_in_question, values_per}
use Rattle.lent.specs.Outcome.{Outcome, need, and_then, with_first}
use Rattle.samtags.specs.Spots.{Spot, bare, call, Group, Call, Listing, listing, tracked}

-- no place
abbrev pub nowhere : ℕ → Bool
nowhere p = false

-- Reads one entry, given the tracked places that are left and n, the number of ML values left: its place, and the places after it. The entry's number
-- is how many places to pass over; the entry takes k values. At a denied place no call may be listed.
unfoldable pub read_entry : ℕ → (ℕ → Bool) → List ℕ → List ℕ → ℕ → Outcome (ℕ × List ℕ)
unfolding is_number value
read_entry k denied field places n =
    need (is_number field) 6
    (with_first (drop (value field) places) 7 (λ p rest.
    need (leb k n) 8
    (need (not (denied p)) 10
    (Ok (p, rest)))))

-- Reads a group's entries, given the tracked places and the ML values that are left: its spots, and the values left after them.
unfoldable pub read_spots : ℕ → (ℕ → Bool) → List (List ℕ) → List ℕ → List ℕ → Outcome (List Spot × List ℕ)
unfolding read_entry
read_spots k denied [] places ml = Ok (map bare places, ml)
read_spots k denied (f ∷ fs) places ml =
    and_then {A = ℕ × List ℕ} (read_entry k denied f places (length ml)) (λ e.
    and_then (read_spots k denied fs e.1 (drop k ml)) (λ r.
    Ok (map bare (take (value f) places) ++ call e.0 (take k ml) ∷ r.0, r.1)))

-- the number of ML values that a listed base takes
unfoldable pub values_if : Bool → List ℕ → ℕ
unfolding values_per
values_if ml? header = cond ml? (values_per header) 0

-- a group with this header may list no call at the place, if the calls at the named places are to be dropped: dropping it would say "unmodified"
abbrev pub denied_to : List ℕ → (ℕ → Bool) → ℕ → Bool
denied_to header named p = named p && not (ends_in_question header)

-- Reads one group: the group, and the ML values left after it.
unfoldable pub read_group : Bool → (ℕ → Bool) → List ℕ → List ℕ → List ℕ → Outcome (Group × List ℕ)
unfolding read_spots values_if base_of ends_in_question tracked
read_group ml? named seq group ml =
    let header = up_to comma group in
    need (leb 2 (length header)) 5
    (and_then (read_spots (values_if ml? header) (denied_to header named) (led_by comma group) (tracked (base_of header) seq) ml) (λ r.
    Ok (record { header = header; spots = r.0 }, r.1)))

-- Reads the groups from the left; after the last one no ML value may be left over.
unfoldable pub read_groups : Bool → (ℕ → Bool) → List ℕ → List (List ℕ) → List ℕ → Outcome (List Group)
unfolding read_group
read_groups ml? named seq [] ml = need (is_empty ml) 9 (Ok [])
read_groups ml? named seq (g ∷ gs) ml =
    and_then (read_group ml? named seq g ml) (λ r.
    and_then (read_groups ml? named seq gs r.1) (λ rest.
    Ok (r.0 ∷ rest)))

-- Reads a whole text. Only a group whose header ends in '?' may list a call at a named place.
unfoldable pub read : Bool → (ℕ → Bool) → List ℕ → List ℕ → List ℕ → Outcome (List Group)
unfolding read_groups
read ml? named seq text ml =
    need (every is_ascii text) 3
    (need (eqb (last_or 0 text) semicolon) 4
    (read_groups ml? named seq (closed_by semicolon text) (cond ml? ml [])))

-- what the tag lists, group by group
unfoldable pub lists : Bool → List ℕ → List ℕ → List ℕ → Outcome (List Listing)
unfolding read
lists ml? seq text ml = and_then (read ml? nowhere seq text ml) (λ gs. Ok (map listing gs))

-- ---- the public reader

-- the lengths of SEQ, text and ML are within the domain; without ML the ML row is ignored
abbrev pub in_domain : Bool → List ℕ → List ℕ → List ℕ → Bool
in_domain ml? seq text ml = leb (length seq) 16000 && leb (length text) 65536 && cond ml? (leb (length ml) 65536) true

-- the reader as a public call
unfoldable pub read_tag : Bool → List ℕ → List ℕ → List ℕ → Outcome (List Listing)
unfolding lists
read_tag ml? seq text ml = need (in_domain ml? seq text ml) 1 (lists ml? seq text ml)

-- ---- the call list: a row for each call, with its group counted from 1, its place, and the index of its first value in ML (0 without ML)

pub record Row : Type 0 where
  pub group : ℕ
  pub place : ℕ
  pub start : ℕ

-- the calls of group g, whose values start at s
abbrev pub rows_of : ℕ → ℕ → List Call → List Row
rows_of g s [] = []
rows_of g s (c ∷ cs) = record { group = g; place = c.place; start = s } ∷ rows_of g (s + length c.values) cs

abbrev pub values_in : List Call → ℕ
values_in [] = 0
values_in (c ∷ cs) = length c.values + values_in cs

abbrev pub rows_from : ℕ → ℕ → List Listing → List Row
rows_from g s [] = []
rows_from g s (l ∷ ls) = rows_of g s l.calls ++ rows_from (suc g) (s + values_in l.calls) ls

unfoldable pub call_list : List Listing → List Row
call_list ls = rows_from 1 0 ls

-- ---- the tally: each ML value counts once, above if it is at least 128, else below

pub record Tally : Type 0 where
  pub above : ℕ
  pub below : ℕ

abbrev pub is_above : ℕ → Bool
is_above v = leb 128 v

abbrev pub is_below : ℕ → Bool
is_below v = ltb v 128

unfoldable pub tally_of : List ℕ → Tally
tally_of ml = record { above = length (filter is_above ml); below = length (filter is_below ml) }

-- the tally as a public call; it always takes an ML
unfoldable pub tally_tag : List ℕ → List ℕ → List ℕ → Outcome Tally
unfolding read_tag tally_of
tally_tag seq text ml = and_then (read_tag true seq text ml) (λ ls. Ok (tally_of ml))
