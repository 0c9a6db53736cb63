-- The numbers that each public call can answer: no other number, each of them for some input, and 0 exactly when the call is done.
-- Assumes nothing.
use Rattle.std.specs.Prelude.{Ok}
use mathlib.Core.Path.{◌≡◌, refl, sym, subst}
use mathlib.Core.Bool.{Bool, false, ◌&&◌}
use mathlib.Core.List.{List, [], ◌∷◌, map}
use Prim.Native.Nat.{ℕ}
use lib.Dec.{leb}
use lib.IntN.{ℤ, pos}
use lib.ListN.{length}
use Rattle.lent.specs.Answers.{Answers}
use Rattle.lent.specs.Lists.{every}
use Rattle.lent.specs.Outcome.{Outcome, need, on_done, number_of}
use Rattle.lent.proofs.Answers.{only_need, only_on_done, only_and_then, answers}
use Rattle.cigar.specs.Cigar.{is_known, is_start, start_of, query_length, checked, read_places, query_places}
use Rattle.alignment.specs.PublicContracts.{FindsPlaces, FetchesBases}
use Rattle.alignment.specs.Reference.{base_at, fetched_bases}

abbrev query_numbers : List ℕ
query_numbers = 1 ∷ 12 ∷ 13 ∷ []

pub query_to_ref_positions_numbers : (cigar : List ℕ) (start : ℤ) (reversed : Bool) (row : List ℤ) (r : Outcome ℕ) (row' : List ℤ)
    → FindsPlaces cigar start reversed row r row' → Answers (1 ∷ 12 ∷ 13 ∷ []) r
query_to_ref_positions_numbers cigar start reversed row r row' p =
    let o = query_places cigar start reversed (length row) in
    let small = leb (length cigar) 65535 && leb (query_length cigar) 16000 in
    subst (Answers query_numbers) (sym p.0) (answers query_numbers (on_done length o) refl (only_on_done query_numbers length o
    (only_and_then query_numbers (checked cigar start) (λ bases. need (leb bases (length row)) 12 (Ok (read_places reversed cigar (start_of start))))
    (only_need query_numbers (every is_known cigar && is_start start) 13 (need small 1 (Ok (query_length cigar))) refl
    (only_need query_numbers small 1 (Ok (query_length cigar)) refl refl))
    (λ bases. only_need query_numbers (leb bases (length row)) 12 (Ok (read_places reversed cigar (start_of start))) refl refl))))

-- 1M from 5: into a row of one place; 16,001 bases; no room; a kind above 8
pub query_to_ref_positions_each_number :
    map (λ (i : List ℕ × List ℤ). number_of (query_places i.0 (pos 5) false (length i.1)))
    ((16 ∷ [], pos 0 ∷ []) ∷ (256016 ∷ [], []) ∷ (16 ∷ [], []) ∷ (25 ∷ [], []) ∷ [])
    ≡ 0 ∷ 1 ∷ 12 ∷ 13 ∷ []
query_to_ref_positions_each_number = refl

pub fetch_ref_bases_at_positions_numbers : (places : List ℤ) (reference row : List ℕ) (r : Outcome ℕ) (row' : List ℕ)
    → FetchesBases places reference row r row' → Answers (12 ∷ []) r
fetch_ref_bases_at_positions_numbers places reference row r row' p =
    let o = fetched_bases places reference (length row) in
    subst (Answers (12 ∷ [])) (sym p.0) (answers (12 ∷ []) (on_done length o) refl (only_on_done (12 ∷ []) length o
    (only_need (12 ∷ []) (leb (length places) (length row)) 12 (Ok (map (base_at reference) places)) refl refl)))

-- one place, with room for its base and without
pub fetch_ref_bases_at_positions_each_number :
    map (λ (row : List ℕ). number_of (fetched_bases (pos 0 ∷ []) (67 ∷ []) (length row))) ((0 ∷ []) ∷ [] ∷ [])
    ≡ 0 ∷ 12 ∷ []
fetch_ref_bases_at_positions_each_number = refl
