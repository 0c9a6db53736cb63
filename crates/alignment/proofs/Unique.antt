-- Each public call's contract determines its outcome, the answer and every lent row: two outcomes that meet the contract are equal.
-- Assumes nothing.
use mathlib.Core.Path.{◌≡◌}
use mathlib.Core.Bool.{Bool}
use mathlib.Core.List.{List}
use Prim.Native.Nat.{ℕ}
use lib.IntN.{ℤ}
use lib.ListN.{length}
use Rattle.lent.specs.Outcome.{Outcome}
use Rattle.lent.proofs.Filled.{settled}
use Rattle.cigar.specs.Cigar.{query_places}
use Rattle.alignment.specs.PublicContracts.{Fills, FindsPlaces, TellsCpg, FetchesBases}
use Rattle.alignment.specs.Reference.{fetched_bases}

one_outcome : {A : Type 0} (o : Outcome (List A)) (row : List A) (r s : Outcome ℕ) (out out' : List A)
    → Fills o row r out → Fills o row s out' → (r ≡ s) × (out ≡ out')
one_outcome o row r s out out' p q = ((settled r s p.0 q.0), settled out out' p.1 q.1)

pub query_to_ref_positions_unique : (cigar : List ℕ) (start : ℤ) (reversed : Bool) (row : List ℤ) (r s : Outcome ℕ) (out out' : List ℤ)
    → FindsPlaces cigar start reversed row r out → FindsPlaces cigar start reversed row s out' → (r ≡ s) × (out ≡ out')
query_to_ref_positions_unique cigar start reversed row = one_outcome (query_places cigar start reversed (length row)) row

pub is_cpg_context_unique : (reference : List ℕ) (place : ℕ) (top : Bool) (r s : Bool)
    → TellsCpg reference place top r → TellsCpg reference place top s → r ≡ s
is_cpg_context_unique reference place top r s = settled r s

pub fetch_ref_bases_at_positions_unique : (places : List ℤ) (reference row : List ℕ) (r s : Outcome ℕ) (out out' : List ℕ)
    → FetchesBases places reference row r out → FetchesBases places reference row s out' → (r ≡ s) × (out ≡ out')
fetch_ref_bases_at_positions_unique places reference row = one_outcome (fetched_bases places reference (length row)) row
