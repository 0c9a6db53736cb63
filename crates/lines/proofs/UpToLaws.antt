-- A text up to its next byte c, from any place of the text; then the lines of a text, and the fields of a line.
-- Assumes nothing.
use mathlib.Core.Path.{◌≡◌, refl, sym, ap, ◌∙◌}
use Prim.Native.Nat.{ℕ, suc, ◌+◌, ◌-◌, ◌≤◌, ◌<◌}
use native.Mathlib.Omega.{arith}
use mathlib.Core.Bool.{cond}
use mathlib.Core.List.{List, [], ◌∷◌}
use lib.Dec.{eqb, leb}
use lib.ListN.{length, get_or, take, drop, length-drop, drop_of_length-le}
use lib.Seq.{drop-drop, take_all}
use borrow.Author.Tests.{eq-eqb, ne_eqb, le-leb, lt-leb, leb-true, leb-false}
use Rattle.std.proofs.Common.{None, Some, nat_lt, position}
use Rattle.std.proofs.lemmas.List.Recursion.{is_position_or_len}
use Rattle.std.proofs.lemmas.Option.{cond_some, none-some}
use Rattle.std.specs.List.{position_or_len}
use Rattle.lent.proofs.Lists.{drop_here}
use Rattle.lent.proofs.Tests.{by-test}
use Rattle.samtags.specs.Text.{up_to, led_by}
use Rattle.lines.specs.Lines.{lines_of, pushed, joined}

-- ---- up to the next c

module _ (c : ℕ) (t : List ℕ) (e : ℕ) where
  pub up_to_end : length t ≤ e → length (up_to c (drop e t)) ≡ 0
  up_to_end h = rw (drop_of_length-le t h)

  module _ (l : e < length t) where
    pub up_to_stop : get_or t e 0 ≡ c → length (up_to c (drop e t)) ≡ 0
    up_to_stop h = rw (drop_here t e 0 l, eq-eqb (get_or t e 0) c h)

    pub up_to_on : (get_or t e 0 ≡ c → ⊥) → length (up_to c (drop e t)) ≡ suc (length (up_to c (drop (e + 1) t)))
    up_to_on h = rw (drop_here t e 0 l, ne_eqb (get_or t e 0) c h)

up_to_take : (c : ℕ) (xs : List ℕ) → take (length (up_to c xs)) xs ≡ up_to c xs
up_to_take c [] = refl
up_to_take c (x ∷ xs) = by-test (eqb x c) (λ p. rw p) (λ p. rw p (ap (λ (r : List ℕ). x ∷ r) (up_to_take c xs)))

-- the first n bytes, if c follows them
pub up_to_part : (c : ℕ) (xs : List ℕ) (n : ℕ) → length (up_to c xs) ≡ n → take n xs ≡ up_to c xs
up_to_part c xs n h = rw (← h) (up_to_take c xs)

up_to_place : (c : ℕ) (xs : List ℕ) → length (up_to c xs) ≡ position_or_len (λ b. eqb b c) xs
up_to_place c = is_position_or_len (λ xs. length (up_to c xs)) (λ b. eqb b c) refl (λ x xs. by-test (eqb x c) (λ p. rw p) (λ p. rw p (omega arith)))

-- the bytes before the first c of those that are left
module _ (c : ℕ) (t : List ℕ) (from : ℕ) where
  rest : take (length t - from) (drop from t) ≡ drop from t
  rest = take_all (length t - from) (drop from t) (omega (arith, length-drop from t))

  pub up_to_none : position (λ b. eqb b c) (take (length t - from) (drop from t)) ≡ None → take (length t - from) (drop from t) ≡ up_to c (drop from t)
  up_to_none e =
      let xs = drop from t in
      let n = position_or_len (λ b. eqb b c) xs in
      by-test (nat_lt n (length xs))
      (λ p. absurd (none-some n (sym e ∙ ap (position (λ b. eqb b c)) rest ∙ rw p)))
      (λ p. rest ∙ sym (take_all n xs (omega (arith, leb-false (suc n) (length xs) p))) ∙ up_to_part c xs n (up_to_place c xs))

  pub up_to_some : (n : ℕ) → position (λ b. eqb b c) (take (length t - from) (drop from t)) ≡ Some n
      → take n (take (length t - from) (drop from t)) ≡ up_to c (drop from t)
  up_to_some n e =
      let xs = drop from t in
      let p = position_or_len (λ b. eqb b c) xs in
      let found = cond_some (nat_lt p (length xs)) p n (sym (ap (position (λ b. eqb b c)) rest) ∙ e) in
      ap (take n) rest ∙ up_to_part c xs n (up_to_place c xs ∙ found.1)

pub up_to_short : (c : ℕ) (xs : List ℕ) → length (up_to c xs) ≤ length xs
up_to_short c [] = omega arith
up_to_short c (x ∷ xs) = by-test (eqb x c) (λ p. rw p (omega arith)) (λ p. rw p (omega (arith, up_to_short c xs)))

-- from a place on it ends within the text
pub up_to_within : (c : ℕ) (t : List ℕ) (at : ℕ) → at ≤ length t → at + length (up_to c (drop at t)) ≤ length t
up_to_within c t at h = omega (arith, up_to_short c (drop at t), length-drop at t)

-- ---- lines

-- the first line, and the lines after its LF
lines_first : (xs : List ℕ) → 0 < length xs → lines_of xs ≡ up_to 10 xs ∷ lines_of (drop (suc (length (up_to 10 xs))) xs)
lines_first [] h = absurd (omega arith)
lines_first (x ∷ []) h = by-test (eqb x 10) (λ p. rw p) (λ p. rw p)
lines_first (x ∷ y ∷ ys) h =
    by-test (eqb x 10)
    (λ p. rw p)
    (λ p. rw p (ap (pushed x) (lines_first (y ∷ ys) (omega arith))))

-- the line at a place, and the lines after it
pub line_at : (input : List ℕ) (at : ℕ) → at < length input
    → lines_of (drop at input) ≡ up_to 10 (drop at input) ∷ lines_of (drop (at + length (up_to 10 (drop at input)) + 1) input)
line_at input at h =
    let n = length (up_to 10 (drop at input)) in
    let q : at + suc n ≡ at + n + 1 = omega arith in
    lines_first (drop at input) (omega (arith, length-drop at input)) ∙ rw (drop-drop (suc n) at input, q)

pub no_line_at : (input : List ℕ) (at : ℕ) → length input ≤ at → lines_of (drop at input) ≡ []
no_line_at input at h = rw (drop_of_length-le input h)

-- ---- fields

-- the fields that are left where the next one begins at a place; past the end none is left
abbrev pub fields_from : List ℕ → ℕ → List (List ℕ)
fields_from body at = cond (leb at (length body)) (joined (drop at body)) []

pub fields_all : (body : List ℕ) → fields_from body 0 ≡ joined body
fields_all body = rw (le-leb 0 (length body) (omega arith))

pub no_field : (body : List ℕ) (at : ℕ) → length body < at → fields_from body at ≡ []
no_field body at h = rw (lt-leb at (length body) h)

-- what c leads begins where c is
led_first : (xs : List ℕ) → length (up_to 44 xs) < length xs → led_by 44 xs ≡ joined (drop (suc (length (up_to 44 xs))) xs)
led_first [] h = absurd (omega arith)
led_first (x ∷ xs) h = by-test (eqb x 44) (λ p. rw p) (λ p. rw p (led_first xs (omega (arith, rw p at h))))

led_none : (xs : List ℕ) → length (up_to 44 xs) ≡ length xs → led_by 44 xs ≡ []
led_none [] h = refl
led_none (x ∷ xs) h = by-test (eqb x 44) (λ p. absurd (omega (arith, rw p at h))) (λ p. rw p (led_none xs (omega (arith, rw p at h))))

-- the field at a place, and the fields after its comma
pub field_at : (body : List ℕ) (at : ℕ) → at ≤ length body
    → fields_from body at ≡ up_to 44 (drop at body) ∷ fields_from body (at + length (up_to 44 (drop at body)) + 1)
field_at body at h =
    let n = length (up_to 44 (drop at body)) in
    let size = length-drop at body in
    let q : at + suc n ≡ at + n + 1 = omega arith in
    rw (le-leb at (length body) h)
    (by-test (leb (at + n + 1) (length body))
    (λ t.
    let more : at + n + 1 ≤ length body = leb-true _ _ t in
    let led : led_by 44 (drop at body) ≡ joined (drop (at + n + 1) body) = led_first (drop at body) (omega arith) ∙ rw
    (drop-drop (suc n) at body, q) in
    rw (t, led))
    (λ t.
    let last : n ≡ length (drop at body) = omega (arith, up_to_short 44 (drop at body), leb-false (at + n + 1) (length body) t) in
    rw (t, led_none (drop at body) last)))
