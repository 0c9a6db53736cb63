-- Lengths: the lines of an input, a line that asks for a step, decimals, and the values that an ML line lists.
-- Assumes nothing.
use Rattle.std.specs.Prelude.{Option, None, Some}
use mathlib.Core.Path.{◌≡◌, refl, ap}
use Prim.Native.Nat.{ℕ, suc, ◌+◌, ◌-◌, ◌*◌, ◌≤◌, ◌<◌}
use native.Mathlib.Omega.{arith}
use mathlib.Core.Bool.{Bool, true, false, cond}
use mathlib.Core.List.{List, [], ◌∷◌, map}
use lib.Dec.{eqb, leb}
use lib.ListN.{length, length-append, length-drop}
use Rattle.lent.proofs.Tests.{and_true_l, and_true_r, by-test}
use Rattle.lent.specs.Lists.{is_empty}
use Rattle.samtags.proofs.Decimal.{digits_fit, number_some, value_lt}
use Rattle.samtags.proofs.Length.{fields_length, piece_length, weight}
use Rattle.samtags.specs.Decimal.{digits, is_number, value}
use Rattle.samtags.specs.Session.{Step, drop_calls, mask}
use Rattle.samtags.specs.Text.{up_to}
use Rattle.operands.specs.Answers.{is_number_to}
use Rattle.lines.specs.Lines.{answer_line, are_numbers, body_of, cut_of, decimals, given, has_mark, joined, lines_of, numbers_of, pushed, step_of, values_of}

-- ---- the lines of an input: each with an LF are at most one byte more than the input, whose last line may lack it

pub lines_length : (xs : List ℕ) → fields_length (lines_of xs) ≤ length xs + 1
lines_length [] = omega arith
lines_length (x ∷ []) = by-test (eqb x 10) (λ e. rw e (omega arith)) (λ e. rw e (omega arith))
lines_length (x ∷ y ∷ ys) =
    by-test (eqb x 10)
    (λ e. rw e (omega (arith, lines_length (y ∷ ys))))
    (λ e. rw e (omega (arith, more (lines_of (y ∷ ys)) (some_line y ys), lines_length (y ∷ ys))))
  where
    some_line : (y : ℕ) (ys : List ℕ) → 0 < length (lines_of (y ∷ ys))
    some_line y ys = by-test (eqb y 10) (λ e. rw e (omega arith)) (λ e. rw e (pushed_some (lines_of ys)))
      where
        pushed_some : (ls : List (List ℕ)) → 0 < length (pushed y ls)
        pushed_some [] = omega arith
        pushed_some (l ∷ ls) = omega arith

    more : (ls : List (List ℕ)) → 0 < length ls → fields_length (pushed x ls) ≤ suc (fields_length ls)
    more [] h = absurd (omega arith)
    more (l ∷ ls) h = omega arith

-- ---- a line with a mark

pub marked_length : (l : List ℕ) → 2 ≤ length l → length l ≡ 2 + length (body_of l)
marked_length l h = omega (arith, length-drop 2 l)

-- ---- numbers

numbers_some : (most : ℕ) (body ns : List ℕ) → numbers_of most body ≡ Some ns → (are_numbers most (joined body) ≡ true) × (map value (joined body) ≡ ns)
unfolding numbers_of
numbers_some most body ns e = go (are_numbers most (joined body)) e
  where
    go : (t : Bool) → cond t (Some (map value (joined body))) None ≡ Some ns → (t ≡ true) × (map value (joined body) ≡ ns)
    go true e = (refl, cc)
    go false e = let z : ◌≡◌ {A = ℕ} 0 1 = cc in absurd (omega arith)

-- a body of numbers is not empty
numbers_long : (most : ℕ) (body : List ℕ) → are_numbers most (joined body) ≡ true → 0 < length body
unfolding are_numbers
numbers_long most body e =
    let num = and_true_l (is_number (up_to 44 body)) (leb (value (up_to 44 body)) most) (and_true_l (is_number_to most (up_to 44 body)) _ e) in
    omega (arith, number_some (up_to 44 body) num, piece_length body)

-- a line that asks for a step has at least three bytes
pub step_long : (l : List ℕ) (t : Step) → step_of l ≡ Some t → 3 ≤ length l
unfolding step_of
step_long l t e = go (numbers_of 4294967295 (body_of l)) refl e
  where
    go : (o : Option (List ℕ)) → numbers_of 4294967295 (body_of l) ≡ o
        → given o None (λ ns. cond (has_mark "MK" l) (Some (mask ns))
        (cond (has_mark "DR" l) (Some (drop_calls ns)) (cond (has_mark "CU" l) (cut_of ns) None))) ≡ Some t
        → 3 ≤ length l
    go None p e = let z : ◌≡◌ {A = ℕ} 0 1 = cc in absurd (omega arith)
    go (Some ns) p e =
        let long = numbers_long 4294967295 (body_of l) (numbers_some 4294967295 (body_of l) ns p).0 in
        omega (arith, length-drop 2 l)

-- ---- decimals

-- a decimal and the comma that follows it
abbrev pub spelled : ℕ → ℕ
spelled v = length (digits v) + 1

pub decimals_length : (vs : List ℕ) → length (decimals vs) ≡ weight spelled vs - 1
unfolding decimals
decimals_length [] = refl
decimals_length (v ∷ []) = omega arith
decimals_length (v ∷ w ∷ vs) = omega (arith, length-append (digits v) (44 ∷ decimals (w ∷ vs)), decimals_length (w ∷ vs))

-- each field is at least as long as its number is written
fields_spelled : (most : ℕ) (fs : List (List ℕ)) → are_numbers most fs ≡ true → (weight spelled (map value fs) ≤ fields_length fs) ×
    (2 * length fs ≤ fields_length fs)
unfolding are_numbers
fields_spelled most [] e = (omega arith, omega arith)
fields_spelled most (f ∷ fs) e =
    let num = and_true_l (is_number f) (leb (value f) most) (and_true_l (is_number_to most f) _ e) in
    let rest = fields_spelled most fs (and_true_r (is_number_to most f) _ e) in (
      omega (arith, digits_fit (value f) (length f) (number_some f num) (value_lt f num), rest.0),
      omega (arith, number_some f num, rest.1),
    )

-- the values of an ML line, written again, are no longer than the line; and each takes two bytes of it, but the last
pub record Values-short (body vs : List ℕ) : Type 0 where
  pub spelled_short : weight spelled vs - 1 ≤ length body
  pub few : 2 * length vs ≤ length body + 1

pub values_short : (l vs : List ℕ) → values_of l ≡ Some vs → Values-short (body_of l) vs
unfolding values_of
values_short l vs e = go (body_of l) e
  where
    short : (body vs : List ℕ) → weight spelled vs - 1 ≤ length body → 2 * length vs ≤ length body + 1 → Values-short body vs
    short body vs h k = record { spelled_short = h; few = k }

    none_short : (vs : List ℕ) → ◌≡◌ {A = Option (List ℕ)} (Some []) (Some vs) → Values-short [] vs
    none_short vs e = let q : [] ≡ vs = cc in rw (← q) (short [] [] (omega arith) (omega arith))

    go : (body : List ℕ) → cond (is_empty body) (Some []) (numbers_of 255 body) ≡ Some vs → Values-short body vs
    go [] e = none_short vs e
    go (x ∷ xs) e =
        let body : List ℕ = x ∷ xs in
        let n = numbers_some 255 body vs e in
        let s = fields_spelled 255 (joined body) n.0 in
        let size = piece_length body in
        short body vs (omega (arith, ap (weight spelled) n.1)) (omega (arith, ap length n.1, length_values (joined body)))
      where
        length_values : (fs : List (List ℕ)) → length (map value fs) ≡ length fs
        length_values [] = refl
        length_values (f ∷ fs) = ap suc (length_values fs)

-- ---- an answer

pub answer_short : (n : ℕ) → n ≤ 21 → length (answer_line n) ≤ 5
unfolding answer_line
answer_short n h = omega (arith, length-append (digits n) (10 ∷ []), digits_fit n 2 (omega arith) (omega arith))

pub answer_zero : length (answer_line 0) ≡ 4
unfolding answer_line
answer_zero = refl
