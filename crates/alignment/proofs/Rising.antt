-- The places of a forward read rise strictly, and those of a reverse read fall. All lie on the alignment: not before its start, and before its end.
-- Assumes nothing.
use mathlib.Core.Path.{◌≡◌, refl, sym, ◌∙◌}
use mathlib.Core.Logic.{⊎_elim}
use mathlib.Core.Bool.{Bool, true, false}
use mathlib.Core.List.{List, [], ◌∷◌, ◌++◌, reverse}
use Prim.Native.Nat.{ℕ, zero, suc, ◌+◌, ◌-◌, ◌≤◌, ◌<◌}
use native.Mathlib.Nat.{not-suc-le-zero, le_of_suc-le-suc}
use native.Mathlib.Omega.{arith}
use lib.IntN.{ℤ, pos, negsuc, pos-ne-negsuc}
use lib.ListN.{length, get_or, replicate, length-reverse, get_or-eq_default}
use Rattle.lent.proofs.Tests.{by-test}
use Rattle.lent.proofs.Numbers.{le_or_lt}
use Rattle.cigar.specs.Cigar.{kind_of, length_of, takes_bases, takes_places, bases_taken, places_taken, reference_span}
use Rattle.cigar.specs.Cigar.{missing, up_from, placed, forward, read_places}
use Rattle.lent.proofs.Reversed.{get_d_reverse}
use Rattle.alignment.proofs.Mirror.{reverse_is_mirror}

-- from lo on each place lies above the one before it, and all lie below hi; a base may have none
data Rises : ℕ → List ℤ → ℕ → Type 0 where
  none : (lo hi : ℕ) → lo ≤ hi → Rises lo [] hi
  gap : {lo hi : ℕ} {l : List ℤ} → Rises lo l hi → Rises lo (negsuc 0 ∷ l) hi
  place : {hi : ℕ} {l : List ℤ} (lo p : ℕ) → lo ≤ p → Rises (suc p) l hi → Rises lo (pos p ∷ l) hi

-- ---- the walk rises

lower : {lo lo' hi : ℕ} {l : List ℤ} → lo' ≤ lo → Rises lo l hi → Rises lo' l hi
lower {lo' = lo'} h (none lo hi le) = none lo' hi (omega arith)
lower h (gap r) = gap (lower h r)
lower {lo' = lo'} h (place lo p le r) = place lo' p (omega arith) r

joined : {lo mid hi : ℕ} {a b : List ℤ} → Rises lo a mid → Rises mid b hi → Rises lo (a ++ b) hi
joined (none lo mid le) s = lower le s
joined (gap r) s = gap (joined r s)
joined (place lo p le r) s = place lo p le (joined r s)

run_rises : (p n : ℕ) → Rises p (up_from p n) (p + n)
run_rises p zero = none p (p + 0) (omega arith)
run_rises p (suc n) = let e : p + suc n ≡ suc p + n = omega arith in rw e (place p p (omega arith) (run_rises (suc p) n))

gaps_rise : (p n : ℕ) → Rises p (replicate n missing) (p + 0)
gaps_rise p zero = none p (p + 0) (omega arith)
gaps_rise p (suc n) = gap (gaps_rise p n)

operation_rises : (p w : ℕ) → Rises p (placed w (up_from p (bases_taken w))) (p + places_taken w)
operation_rises p w =
    by-test (takes_places (kind_of w))
    (λ t. by-test (takes_bases (kind_of w)) (λ b. rw (t, b) (run_rises p (length_of w))) (λ b. rw (t, b) (none p (p + length_of w) (omega arith))))
    (λ t. rw t (gaps_rise p (bases_taken w)))

forward_rises : (p : ℕ) (words : List ℕ) → Rises p (forward p words) (p + reference_span words)
forward_rises p [] = none p (p + 0) (omega arith)
forward_rises p (w ∷ ws) =
    let e : p + (places_taken w + reference_span ws) ≡ p + places_taken w + reference_span ws = omega arith in
    rw e (joined (operation_rises p w) (forward_rises (p + places_taken w) ws))

-- ---- what that says of the bases one by one

no_place : (m : ℕ) → missing ≡ pos m → ⊥
no_place m e = pos-ne-negsuc m 0 (sym e)

ends : {lo hi : ℕ} {l : List ℤ} → Rises lo l hi → lo ≤ hi
ends (none lo hi le) = le
ends (gap r) = ends r
ends (place lo p le r) = omega (arith, ends r)

lies : {lo hi : ℕ} {l : List ℤ} → Rises lo l hi → (i m : ℕ) → get_or l i missing ≡ pos m → (lo ≤ m) × (m < hi)
lies (none lo hi le) i m e = absurd (no_place m e)
lies (gap r) zero m e = absurd (no_place m e)
lies (gap r) (suc i) m e = lies r i m e
lies (place lo p le r) zero m e = let q : p ≡ m = cc in omega (arith, ends r)
lies (place lo p le r) (suc i) m e = omega (arith, lies r i m e)

rises : {lo hi : ℕ} {l : List ℤ} → Rises lo l hi → (i j m n : ℕ) → i < j → get_or l i missing ≡ pos m → get_or l j missing ≡ pos n → m < n
rises (none lo hi le) i j m n h e f = absurd (no_place m e)
rises (gap r) zero j m n h e f = absurd (no_place m e)
rises (gap r) (suc i) zero m n h e f = absurd (not-suc-le-zero h)
rises (gap r) (suc i) (suc j) m n h e f = rises r i j m n (le_of_suc-le-suc h) e f
rises (place lo p le r) i zero m n h e f = absurd (not-suc-le-zero h)
rises (place lo p le r) zero (suc j) m n h e f = let q : p ≡ m = cc in omega (arith, lies r j n f)
rises (place lo p le r) (suc i) (suc j) m n h e f = rises r i j m n (le_of_suc-le-suc h) e f

-- ---- the theorems

-- of two bases of a forward read that have places, the later base has the larger place
pub places_rise : (words : List ℕ) (start i j m n : ℕ) → i < j
    → get_or (read_places false words start) i missing ≡ pos m → get_or (read_places false words start) j missing ≡ pos n → m < n
places_rise words start = rises (forward_rises start words)

-- a base that has a place in a reversed list has it in the list, counted from the end
from_end : (l : List ℤ) (i m : ℕ) → get_or (reverse l) i missing ≡ pos m → (i < length l) × (get_or l (length l - i - 1) missing ≡ pos m)
from_end l i m e = ⊎_elim (λ h. absurd (no_place m (beyond h))) within (le_or_lt (length l) i)
  where
    beyond : length l ≤ i → missing ≡ pos m
    beyond h =
        let off : length (reverse l) ≤ i = omega (arith, length-reverse l) in
        sym (get_or-eq_default (reverse l) missing off) ∙ e

    within : i < length l → (i < length l) × (get_or l (length l - i - 1) missing ≡ pos m)
    within h = (h, sym (get_d_reverse l i missing h) ∙ e)

-- of two bases of a reverse read that have places, the later base has the smaller place
pub places_fall : (words : List ℕ) (start i j m n : ℕ) → i < j
    → get_or (read_places true words start) i missing ≡ pos m → get_or (read_places true words start) j missing ≡ pos n → n < m
places_fall words start i j m n h e f =
    let l = forward start words in
    let x = from_end l i m (rw (reverse_is_mirror words start) at e) in
    let y = from_end l j n (rw (reverse_is_mirror words start) at f) in
    rises (forward_rises start words) (length l - j - 1) (length l - i - 1) n m (omega (arith, x.0, y.0)) y.1 x.1

-- each place lies on the alignment
pub places_lie : (reversed : Bool) (words : List ℕ) (start i m : ℕ) → get_or (read_places reversed words start) i missing ≡ pos m
    → (start ≤ m) × (m < start + reference_span words)
places_lie false words start i m e = lies (forward_rises start words) i m e
places_lie true words start i m e =
    let l = forward start words in
    let x = from_end l i m (rw (reverse_is_mirror words start) at e) in
    lies (forward_rises start words) (length l - i - 1) m x.1

-- ---- bases that have places, of a read whose alignment is 2S3M1D2M from 100: the third and the sixth of a forward one, the first and the fifth of a
-- reverse one

abbrev clipped : List ℕ
clipped = 36 ∷ 48 ∷ 18 ∷ 32 ∷ []

pub places_of_a_read :
    (get_or (read_places false clipped 100) 2 missing ≡ pos 100) × (get_or (read_places false clipped 100) 5 missing ≡ pos 104)
    × (get_or (read_places true clipped 100) 0 missing ≡ pos 105) × (get_or (read_places true clipped 100) 4 missing ≡ pos 100)
places_of_a_read = (refl, refl, refl, refl)

-- the three theorems above apply to this read
pub places_of_a_read_rise : (100 < 104) × (100 < 105) × (104 < 100 + reference_span clipped)
places_of_a_read_rise = (
  places_rise clipped 100 2 5 100 104 (omega arith) places_of_a_read.0 places_of_a_read.1,
  places_fall clipped 100 0 4 105 100 (omega arith) places_of_a_read.2 places_of_a_read.3,
  (places_lie false clipped 100 5 104 places_of_a_read.1).1,
)
