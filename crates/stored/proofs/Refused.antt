-- A call that answers a number other than 0 has written nothing. `check_tag` and `tally` are lent nothing to write.
-- Assumes nothing.
use mathlib.Core.Path.{◌≡◌, ap}
use Prim.Native.Nat.{ℕ}
use mathlib.Core.Bool.{Bool, false}
use mathlib.Core.List.{List}
use lib.ListN.{length}
use Rattle.lent.proofs.Answers.{not_done, row_kept}
use Rattle.lent.specs.Answers.{is_done}
use Rattle.lent.specs.Outcome.{Outcome}
use Rattle.reading.specs.Calls.{CallsRead, counts_of, group_column, start_column}
use Rattle.stored.specs.PublicContracts.{Fills, ReadsStored, Turns, Unpacks}
use Rattle.stored.specs.Reads.{listed_stored, read_stored_calls, stored_column}

fills_refused : (o : Outcome (List ℕ)) (row : List ℕ) (r : Outcome ℕ) (row' : List ℕ) → Fills o row r row' → is_done r ≡ false → row' ≡ row
fills_refused o row r row' e d = row_kept (λ (l : List ℕ). l) o row row' e.1 (not_done length o r e.0 d)

pub turn_refused : (n : ℕ) (packed out : List ℕ) (r : Outcome ℕ) (out' : List ℕ) → Turns n packed out r out' → is_done r ≡ false → out' ≡ out
turn_refused n packed out = fills_refused _ out

pub unpack_refused : (reverse : Bool) (n : ℕ) (packed seq : List ℕ) (r : Outcome ℕ) (seq' : List ℕ)
    → Unpacks reverse n packed seq r seq' → is_done r ≡ false → seq' ≡ seq
unpack_refused reverse n packed seq = fills_refused _ seq

pub read_calls_refused : (reverse ml? : Bool) (n : ℕ) (packed mm ml groups places starts : List ℕ) (r : Outcome (ℕ × ℕ)) (groups' places' starts' : List ℕ)
    → ReadsStored reverse ml? n packed mm ml groups places starts r groups' places' starts' → is_done r ≡ false
    → (groups' ≡ groups) × (places' ≡ places) × (starts' ≡ starts)
unfolding read_stored_calls
read_calls_refused reverse ml? n packed mm ml groups places starts r groups' places' starts' e d =
    let o = listed_stored reverse ml? n packed mm ml (length groups) (length places) (length starts) in
    let k = not_done counts_of o r (ap (λ (c : CallsRead). c.answer) e) d in (
      row_kept group_column o groups groups' (ap (λ (c : CallsRead). c.groups) e) k,
      row_kept (stored_column reverse n) o places places' (ap (λ (c : CallsRead). c.places) e) k,
      row_kept start_column o starts starts' (ap (λ (c : CallsRead). c.starts) e) k,
    )
