-- The walk with its direction as a parameter: `false` is forward, `true` is backward. The functions of this crate use it, since one function walks both ways.
-- Assumes nothing.
use Rattle.std.specs.Prelude.{ℕ, suc, ◌+◌, ◌-◌, ◌≤◌, ◌<◌, Bool, true, false, List, reverse, ℤ, pos}
use Rattle.cigar.specs.Cigar.{reference_span, up_from, down_from, forward, backward}

-- the operations in the walk's order
abbrev pub in_order_of : Bool → List ℕ → List ℕ
in_order_of false words = words
in_order_of true words = reverse words

-- the place where the walk begins: the alignment's start, or the place after its end
abbrev pub outset : Bool → List ℕ → ℕ → ℕ
outset false words start = start
outset true words start = start + reference_span words

-- n places from p on, and the place of base i among them
abbrev pub run : Bool → ℕ → ℕ → List ℤ
run false p n = up_from p n
run true e n = down_from e n

abbrev pub place_of : Bool → ℕ → ℕ → ℤ
place_of false p i = pos (p + i)
place_of true e i = pos (e - suc i)

-- n places further in the walk's direction
abbrev pub moved : Bool → ℕ → ℕ → ℕ
moved false p n = p + n
moved true e n = e - n

-- the places of the operations, which are given in the walk's order
abbrev pub walked : Bool → ℕ → List ℕ → List ℤ
walked false p words = forward p words
walked true e words = backward e words

-- an i64 can hold the n places from p on: none is too large, none is below 0
abbrev pub Reaches : Bool → ℕ → ℕ → Type 0
Reaches false p n = p + n < 9223372036854775808
Reaches true e n = (n ≤ e) × (e < 9223372036854775808)
