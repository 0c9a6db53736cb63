-- Writing an edited tag never overtakes reading it, entry by entry. So a tag can be edited in its own rows from the left.
-- Assumes nothing.
use mathlib.Core.Path.{◌≡◌}
use Prim.Native.Nat.{ℕ, zero, suc, ◌+◌, ◌-◌, ◌*◌, ◌^◌, ◌≤◌, ◌<◌}
use native.Mathlib.Omega.{arith}
use native.Mathlib.Nat.{pow-succ', mul-le-mul_left}
use mathlib.Core.Bool.{true}
use mathlib.Core.List.{List}
use lib.ListN.{length}
use lib.Pow.{pow-add}
use Rattle.samtags.specs.Decimal.{is_number, value, digits}
use Rattle.samtags.proofs.Decimal.{digits_fit, value_lt, number_some}

-- `end` bytes are written and `at` are read, and the digits of `gap`, the number of bare spots that wait for their entry, have room between the
-- two
abbrev pub Behind : ℕ → ℕ → ℕ → Type 0
Behind end at gap = (end ≤ at) × (gap < 10 ^ (at - end))

power_some : (l : ℕ) → 1 ≤ 10 ^ l
power_some zero = omega arith
power_some (suc l) = rw (pow-succ' 10 l) (omega (arith, power_some l))

-- the sum of two numbers takes no more digits than both
sum_fits : (n s m l : ℕ) → n < 10 ^ s → m < 10 ^ l → n + m < 10 ^ (s + l)
sum_fits n s m l h k = rw (pow-add 10 s l) (go (10 ^ s) (10 ^ l) h k)
  where
    go : (x y : ℕ) → n < x → m < y → n + m < x * y
    go zero y a b = absurd (omega arith)
    go (suc x) y a b = let one : 1 ≤ y = omega arith in omega (arith, mul-le-mul_left x one)

-- before the first entry no bare spot waits
pub behind_start : (end at : ℕ) → end ≤ at → Behind end at 0
behind_start end at h = (h, power_some (at - end))

-- An entry's field f was read with the comma that leads it; m of the bases that it passes are still of the group's kind.
module _ (end at gap : ℕ) (h : Behind end at gap) (f : List ℕ) (number : is_number f ≡ true) (m : ℕ) (few : m ≤ value f) where
  fits : gap + m < 10 ^ (at - end + length f)
  fits = sum_fits gap (at - end) m (length f) h.1 (omega (arith, value_lt f number))

  more_room : (n : ℕ) → n ≤ 10 ^ (at - end + length f) → Behind end (at + 1 + length f) n
  more_room n l =
      let sum : at + 1 + length f - end ≡ suc (at - end + length f) = omega (arith, h.0) in
      (omega (arith, h.0), rw (sum, pow-succ' 10 (at - end + length f)) (omega (arith, power_some (at - end + length f))))

  -- the call stays: its entry, with its comma, ends no later than the field that was read
  pub behind_listed : Behind (end + 1 + length (digits (gap + m))) (at + 1 + length f) 0
  behind_listed =
      let room : 0 < at - end + length f = omega (arith, number_some f number) in
      let short = digits_fit (gap + m) (at - end + length f) room fits in
      behind_start (end + 1 + length (digits (gap + m))) (at + 1 + length f) (omega (arith, h.0, short))

  -- the call is dropped, and its base counts in the next entry
  pub behind_bare : Behind end (at + 1 + length f) (gap + m + 1)
  behind_bare = more_room (gap + m + 1) (omega (arith, fits))

  -- the call's base is gone
  pub behind_gone : Behind end (at + 1 + length f) (gap + m)
  behind_gone = more_room (gap + m) (omega (arith, fits))
