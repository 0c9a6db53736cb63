-- The hypotheses of the promises can be met: each promise is applied to a worked tag, for which all its hypotheses hold together.
-- Assumes nothing.
use Rattle.std.specs.Prelude.{Ok}
use mathlib.Core.Path.{◌≡◌, refl}
use Prim.Native.Nat.{ℕ, zero, suc, ◌*◌, ◌<◌}
use native.Mathlib.Omega.{arith}
use mathlib.Core.Bool.{true}
use mathlib.Core.List.{List, [], ◌∷◌, map}
use lib.ListN.{get_or, take, drop}
use lib.Dec.{lit<}
use Rattle.lent.specs.Lists.{every}
use Rattle.pattern.specs.Case.{upper}
use Rattle.samtags.specs.Bytes.{ascii}
use Rattle.samtags.specs.Edits.{cut_to, dropping_at, edited, masked_to}
use Rattle.samtags.specs.Reading.{lists, read_tag}
use Rattle.samtags.specs.Samtags.{Names, Spelled, TagMeans, TextMeans, a_group, is_spelling, kind_before, meaning_of, no_call, no_group, of_kind, ordinal}
use Rattle.samtags.specs.Spots.{Call, Listing}
use Rattle.samtags.specs.Text.{base_of}
use Rattle.samtags.proofs.Examples.{at, cs}
use Rattle.samtags.proofs.Kept.{cut_keeps_the_others, drop_keeps_the_others}
use Rattle.samtags.proofs.Masking.{differs_by_n, mask_keeps_the_others, then_lists}
use Rattle.samtags.proofs.MeantIsRead.{meant_is_accepted, none_on_u, spelled_is_meant}
use Rattle.samtags.proofs.Names.{upper_case}
use Rattle.samtags.proofs.ReadMeans.{Read-means, no_u, reading_means}

-- ---- SAMtags' own example, `C+m,5,12,0;`, on twenty Cs

abbrev pub worked : Spelled
worked = record {
  header = record { base = 67; sign = 43; codes = ascii "m"; mark = [] };
  skips = ascii "5" ∷ ascii "12" ∷ ascii "0" ∷ [];
}

abbrev pub worked_ml : List ℕ
worked_ml = 1 ∷ 2 ∷ 3 ∷ []

abbrev pub worked_calls : List Call
worked_calls = at 5 (1 ∷ []) ∷ at 18 (2 ∷ []) ∷ at 19 (3 ∷ []) ∷ []

worked_names : (j : ℕ) → j < 3 → Names 67 cs (ordinal (5 ∷ 12 ∷ 0 ∷ []) j) (get_or worked_calls j no_call).place
unfolding kind_before of_kind
worked_names zero h = record { there = lit< tt; kind = refl; before = refl }
worked_names (suc zero) h = record { there = lit< tt; kind = refl; before = refl }
worked_names (suc (suc zero)) h = record { there = lit< tt; kind = refl; before = refl }
worked_names (suc (suc (suc j))) h = let z : ⊥ = omega arith in absurd z

worked_values : (j : ℕ) → j < 3 → (get_or worked_calls j no_call).values ≡ take 1 (drop (j * 1) worked_ml)
worked_values zero h = refl
worked_values (suc zero) h = refl
worked_values (suc (suc zero)) h = refl
worked_values (suc (suc (suc j))) h = let z : ⊥ = omega arith in absurd z

pub worked_means : TagMeans cs worked_ml (map (meaning_of true) (worked ∷ [])) (worked_calls ∷ [])
unfolding meaning_of
worked_means = a_group (record { as_many_of = refl; names = worked_names; values = worked_values }) refl no_group

pub worked_spelled : every is_spelling (worked ∷ []) ≡ true
unfolding is_spelling
worked_spelled = refl

pub worked_none_on_u : none_on_u (worked ∷ []) ≡ true
worked_none_on_u = refl

pub worked_upper : upper_case cs ≡ true
unfolding upper
worked_upper = refl

pub worked_text_means : TextMeans true cs (ascii "C+m,5,12,0;") worked_ml (worked_calls ∷ [])
worked_text_means = record { spelling = worked ∷ []; spelled_so = worked_spelled; spells = refl; means = worked_means }

abbrev pub worked_listings : List Listing
worked_listings = record { header = ascii "C+m"; calls = worked_calls } ∷ []

-- what SAMtags allows is accepted
pub worked_accepted : read_tag true cs (ascii "C+m,5,12,0;") worked_ml ≡ Ok worked_listings
worked_accepted = meant_is_accepted true cs worked [] worked_ml (worked_calls ∷ []) worked_spelled worked_none_on_u worked_upper worked_means refl

-- and what is accepted is meant
worked_lists : lists true cs (ascii "C+m,5,12,0;") worked_ml ≡ Ok worked_listings
unfolding lists
worked_lists = refl

worked_no_u : no_u worked_listings ≡ true
unfolding base_of upper
worked_no_u = refl

pub worked_read : Read-means true cs (ascii "C+m,5,12,0;") worked_ml worked_listings
worked_read = reading_means true cs (ascii "C+m,5,12,0;") worked_ml worked_listings worked_lists worked_upper worked_no_u

pub worked_is_meant : TagMeans cs worked_ml (map (meaning_of true) (worked ∷ [])) (worked_calls ∷ [])
worked_is_meant = (spelled_is_meant true cs (worked ∷ []) worked_ml worked_listings worked_spelled worked_none_on_u worked_upper worked_lists).1

-- ---- the edits, on the tag of the scope's program

abbrev text : List ℕ
text = ascii "C+m?,0,1,0;"

abbrev ml : List ℕ
ml = 200 ∷ 90 ∷ 30 ∷ []

abbrev listed : List Call → List Listing
listed calls = record { header = ascii "C+m?"; calls = calls } ∷ []

lists_three : lists true (ascii "ACCGTCC") text ml ≡ Ok (listed (at 1 (200 ∷ []) ∷ at 5 (90 ∷ []) ∷ at 6 (30 ∷ []) ∷ []))
unfolding lists
lists_three = refl

-- masked to ANCGTCC
pub worked_differs : differs_by_n (ascii "ACCGTCC") (ascii "ANCGTCC") ≡ true
worked_differs = refl

pub worked_mask :
    then_lists true (ascii "ANCGTCC") [] (edited (masked_to (ascii "ANCGTCC")) true (ascii "ACCGTCC") text ml)
    ≡ Ok (listed (at 5 (90 ∷ []) ∷ at 6 (30 ∷ []) ∷ []))
unfolding base_of upper
worked_mask = mask_keeps_the_others true (ascii "ACCGTCC") (ascii "ANCGTCC") text ml _ [] lists_three worked_differs

-- without the call at place 5
pub worked_drop :
    lists true (ascii "ACCGTCC") (ascii "C+m?,0,2;") (200 ∷ 30 ∷ []) ≡ Ok (listed (at 1 (200 ∷ []) ∷ at 6 (30 ∷ []) ∷ []))
unfolding edited dropping_at
worked_drop = drop_keeps_the_others true (ascii "ACCGTCC") text ml _ lists_three [] (5 ∷ []) (record { text = ascii "C+m?,0,2;"; ml = 200 ∷ 30 ∷ [] }) refl

-- three bases off the front and one off the back
pub worked_cut : lists true (ascii "GTC") (ascii "C+m?,0;") (90 ∷ []) ≡ Ok (listed (at 2 (90 ∷ []) ∷ []))
unfolding edited cut_to
worked_cut = cut_keeps_the_others true (ascii "ACCGTCC") text ml _ lists_three [] 3 3 (record { text = ascii "C+m?,0;"; ml = 90 ∷ [] }) (omega arith) refl
