-- Decimal numbers: the number that a field spells, and the digits of a number.
-- Assumes nothing.
use Rattle.std.specs.Prelude.{ℕ, zero, suc, ◌+◌, ◌-◌, ◌*◌, ◌/◌, ◌%◌, Bool, cond, not, ◌&&◌, List, [], ◌∷◌, ◌++◌, ltb}
use Rattle.lent.specs.Lists.{every, is_empty}
use Rattle.samtags.specs.Bytes.{is_digit}

-- at least one byte, and each a digit
unfoldable pub is_number : List ℕ → Bool
unfolding is_digit
is_number field = not (is_empty field) && every is_digit field

-- the number that the digits spell if the digits before them spell n
abbrev pub value_from : ℕ → List ℕ → ℕ
value_from n [] = n
value_from n (d ∷ ds) = value_from (10 * n + (d - 48)) ds

-- the number that a field spells, of any length, leading zeros allowed
unfoldable pub value : List ℕ → ℕ
value field = value_from 0 field

-- the digits of n, at most k + 1 of them
unfoldable pub digits_in : ℕ → ℕ → List ℕ
digits_in zero n = (48 + n % 10) ∷ []
digits_in (suc k) n =
    let longer = digits_in k (n / 10) ++ (48 + n % 10) ∷ [] in
    cond (ltb n 10) ((48 + n) ∷ []) longer

-- n in decimal, with no leading zero
unfoldable pub digits : ℕ → List ℕ
unfolding digits_in
digits n = digits_in n n
