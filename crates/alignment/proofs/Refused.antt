-- A call that answers a number other than 0 has written nothing.
-- Assumes nothing.
use mathlib.Core.Path.{◌≡◌}
use Prim.Native.Nat.{ℕ}
use mathlib.Core.Bool.{Bool, false}
use mathlib.Core.List.{List}
use lib.IntN.{ℤ}
use lib.ListN.{length}
use Rattle.lent.specs.Answers.{is_done}
use Rattle.lent.specs.Outcome.{Outcome}
use Rattle.lent.proofs.Answers.{not_done, row_kept}
use Rattle.alignment.specs.PublicContracts.{Fills, FindsPlaces, FetchesBases}

fills_kept : {A : Type 0} (o : Outcome (List A)) (row : List A) (r : Outcome ℕ) (row' : List A) → Fills o row r row' → is_done r ≡ false → row' ≡ row
fills_kept o row r row' p d = row_kept (λ l. l) o row row' p.1 (not_done length o r p.0 d)

pub query_to_ref_positions_refused : (cigar : List ℕ) (start : ℤ) (reversed : Bool) (row : List ℤ) (r : Outcome ℕ) (row' : List ℤ)
    → FindsPlaces cigar start reversed row r row' → is_done r ≡ false → row' ≡ row
query_to_ref_positions_refused cigar start reversed row = fills_kept _ row

pub fetch_ref_bases_at_positions_refused : (places : List ℤ) (reference row : List ℕ) (r : Outcome ℕ) (row' : List ℕ)
    → FetchesBases places reference row r row' → is_done r ≡ false → row' ≡ row
fetch_ref_bases_at_positions_refused places reference row = fills_kept _ row
