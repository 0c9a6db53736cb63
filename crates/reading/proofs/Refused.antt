-- A call that answers a number other than 0 has written nothing. `check_tag` and `tally` are lent nothing to write.
-- Assumes nothing.
use Rattle.lent.specs.Outcome.{Outcome}
use mathlib.Core.Path.{◌≡◌, ap}
use Prim.Native.Nat.{ℕ}
use mathlib.Core.Bool.{Bool, false}
use mathlib.Core.List.{List}
use lib.ListN.{length}
use Rattle.lent.specs.Answers.{is_done}
use Rattle.lent.proofs.Answers.{not_done, row_kept}
use Rattle.reading.specs.Calls.{CallsRead, counts_of, group_column, listed_calls, place_column, read_calls, start_column}
use Rattle.reading.specs.PublicContracts.{ReadsCalls}

pub read_calls_refused : (ml? : Bool) (seq mm ml groups places starts : List ℕ) (r : Outcome (ℕ × ℕ)) (groups' places' starts' : List ℕ)
    → ReadsCalls ml? seq mm ml groups places starts r groups' places' starts' → is_done r ≡ false
    → (groups' ≡ groups) × (places' ≡ places) × (starts' ≡ starts)
unfolding read_calls
read_calls_refused ml? seq mm ml groups places starts r groups' places' starts' e d =
    let o = listed_calls ml? seq mm ml (length groups) (length places) (length starts) in
    let n = not_done counts_of o r (ap (λ (c : CallsRead). c.answer) e) d in (
      row_kept group_column o groups groups' (ap (λ (c : CallsRead). c.groups) e) n,
      row_kept place_column o places places' (ap (λ (c : CallsRead). c.places) e) n,
      row_kept start_column o starts starts' (ap (λ (c : CallsRead). c.starts) e) n,
    )
