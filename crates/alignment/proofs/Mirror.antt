-- The places of a reverse read are those of a forward read in reverse order. A walk gives each base of the read one entry.
-- Assumes nothing.
use mathlib.Core.Path.{◌≡◌, refl, sym, ap, ◌∙◌}
use mathlib.Core.Bool.{Bool, true, false}
use mathlib.Core.List.{List, [], ◌∷◌, ◌++◌, append_assoc, append-nil, reverse, reverse-cons, reverse-append}
use Prim.Native.Nat.{ℕ, zero, suc, ◌+◌, ◌-◌}
use native.Mathlib.Omega.{arith}
use lib.IntN.{ℤ, pos}
use lib.ListN.{length, replicate, length-append, replicate-append-replicate}
use Rattle.lent.proofs.Tests.{by-test}
use Rattle.cigar.specs.Cigar.{kind_of, length_of, takes_bases, takes_places, bases_taken, places_taken, query_length, reference_span}
use Rattle.cigar.specs.Cigar.{missing, up_from, down_from, placed, forward, backward, read_places}
use Rattle.walking.specs.Walk.{in_order_of, outset, walked}
use Rattle.cigar.proofs.Totals.{total_reverse}
use Rattle.walking.proofs.Walks.{length_placed, up_more}

-- ---- one operation

up_down : (p n : ℕ) → down_from (p + n) n ≡ reverse (up_from p n)
up_down p zero = refl
up_down p (suc n) =
    let e : p + suc n - 1 ≡ p + n = omega arith in
    rw (e, up_more p n, reverse-append (up_from p n) (pos (p + n) ∷ [])) (ap (λ (l : List ℤ). pos (p + n) ∷ l) (up_down p n))

reverse_replicate : (n : ℕ) (z : ℤ) → reverse (replicate n z) ≡ replicate n z
reverse_replicate zero z = refl
reverse_replicate (suc n) z =
    let e : n + 1 ≡ suc n = omega arith in
    reverse-cons z (replicate n z) ∙ rw (reverse_replicate n z) (replicate-append-replicate n 1 z ∙ rw e)

-- from the place behind it, an operation's bases come in the opposite order
operation : (w p : ℕ) → placed w (down_from (p + places_taken w) (bases_taken w)) ≡ reverse (placed w (up_from p (bases_taken w)))
operation w p =
    by-test (takes_places (kind_of w))
    (λ t. by-test (takes_bases (kind_of w)) (λ b. rw (t, b) (up_down p (length_of w))) (λ b. rw (t, b)))
    (λ t. rw t (sym (reverse_replicate (bases_taken w) missing)))

-- ---- the walk

-- backward over some operations and then others
backward_append : (e : ℕ) (vs ws : List ℕ) → backward e (vs ++ ws) ≡ backward e vs ++ backward (e - reference_span vs) ws
backward_append e [] ws = let z : e - 0 ≡ e = omega arith in rw z
backward_append e (v ∷ vs) ws =
    let z : e - places_taken v - reference_span vs ≡ e - (places_taken v + reference_span vs) = omega arith in
    rw (backward_append (e - places_taken v) vs ws, z) (sym (append_assoc (placed v (down_from e (bases_taken v))) _ _))

mirrored : (words : List ℕ) (start : ℕ) → backward (start + reference_span words) (reverse words) ≡ reverse (forward start words)
mirrored [] start = refl
mirrored (w ∷ ws) start =
    let s : start + (places_taken w + reference_span ws) ≡ start + places_taken w + reference_span ws = omega arith in
    let d : start + places_taken w + reference_span ws - reference_span (reverse ws) ≡ start + places_taken w =
    omega (arith, total_reverse places_taken ws) in
    let here = placed w (up_from start (bases_taken w)) in
    rw (
      s,
      reverse-cons w ws,
      backward_append (start + places_taken w + reference_span ws) (reverse ws) (w ∷ []),
      d,
      mirrored ws (start + places_taken w),
      append-nil,
      operation w start,
    )
    (sym (reverse-append here (forward (start + places_taken w) ws)))

pub reverse_is_mirror : (words : List ℕ) (start : ℕ) → read_places true words start ≡ reverse (read_places false words start)
reverse_is_mirror words start = mirrored words start

-- ---- how many

length_walked : (r : Bool) (p : ℕ) (words : List ℕ) → length (walked r p words) ≡ query_length words
length_walked false p [] = refl
length_walked false p (w ∷ ws) =
    let next = p + places_taken w in
    omega (arith, length-append (placed w (up_from p (bases_taken w))) (forward next ws), length_placed false p w, length_walked false next ws)
length_walked true p [] = refl
length_walked true p (w ∷ ws) =
    let next = p - places_taken w in
    omega (arith, length-append (placed w (down_from p (bases_taken w))) (backward next ws), length_placed true p w, length_walked true next ws)

-- each base of the read has one entry
pub length_read_places : (reversed : Bool) (words : List ℕ) (start : ℕ) → length (read_places reversed words start) ≡ query_length words
length_read_places false words start = length_walked false start words
length_read_places true words start = length_walked true (start + reference_span words) (reverse words) ∙ total_reverse bases_taken words

-- the walk of `walking`, with its direction as a parameter, is the definition's
pub read_is_walked : (reversed : Bool) (words : List ℕ) (start : ℕ)
    → read_places reversed words start ≡ walked reversed (outset reversed words start) (in_order_of reversed words)
read_is_walked false words start = refl
read_is_walked true words start = refl
