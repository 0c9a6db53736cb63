-- A group read over SEQ: a list of spots, one for each base of the group's kind, in order. Each spot is bare or a call with its ML values. A skip is
-- only a count of bare spots.
-- Assumes nothing.
use Rattle.std.specs.Prelude.{ℕ, suc, Bool, cond, ◌||◌, List, [], ◌∷◌, eqb}
use Rattle.samtags.specs.Bytes.{letter_n}

-- a base of the group's kind, at a place in SEQ
pub data Spot : Type 0 where
  bare : ℕ → Spot
  call : ℕ → List ℕ → Spot

abbrev pub place_of : Spot → ℕ
place_of (bare p) = p
place_of (call p vs) = p

abbrev pub values_of : Spot → List ℕ
values_of (bare p) = []
values_of (call p vs) = vs

pub record Group : Type 0 where
  pub header : List ℕ
  pub spots : List Spot

-- ---- what a reader sees of a group: its header, and its calls in order

pub record Call : Type 0 where
  pub place : ℕ
  pub values : List ℕ

pub record Listing : Type 0 where
  pub header : List ℕ
  pub calls : List Call

abbrev pub calls_in : List Spot → List Call
calls_in [] = []
calls_in (bare p ∷ ss) = calls_in ss
calls_in (call p vs ∷ ss) = record { place = p; values = vs } ∷ calls_in ss

abbrev pub listing : Group → Listing
listing g = record { header = g.header; calls = calls_in g.spots }

-- ---- the bases of a kind

-- a byte x of SEQ counts for the base b: every byte if b is 'N', else only b itself
unfoldable pub holds : ℕ → ℕ → Bool
holds b x = eqb b letter_n || eqb x b

-- the places, counted from i, of the bytes that pass the test
abbrev pub places_from : (ℕ → Bool) → ℕ → List ℕ → List ℕ
places_from t i [] = []
places_from t i (x ∷ xs) = cond (t x) (i ∷ places_from t (suc i) xs) (places_from t (suc i) xs)

-- the places of SEQ that a group on the base b tracks
unfoldable pub tracked : ℕ → List ℕ → List ℕ
unfolding holds
tracked b seq = places_from (holds b) 0 seq
