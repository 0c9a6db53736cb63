-- A row that is filled with one value, as a `tabulate`.
-- Assumes nothing.
use Rattle.std.proofs.Common.{◌≡◌, refl, ap, ℕ, zero, suc, List, ◌∷◌, replicate}
use Rattle.lent.specs.Lists.{tabulate, tabulate_from}

same_from : (i n x : ℕ) → replicate n x ≡ tabulate_from i n (λ i. x)
same_from i zero x = refl
same_from i (suc n) x = ap (λ (l : List ℕ). x ∷ l) (same_from (suc i) n x)

pub filled_with : (n x : ℕ) → replicate n x ≡ tabulate n (λ i. x)
filled_with n x = same_from 0 n x
