-- The room of the output. A step's line has at least four bytes with its LF, and its answer at most five. What is held at the end is no longer than the
-- lines that gave it at the opening.
-- Assumes nothing.
use Rattle.std.specs.Prelude.{Ok, Err, Option, None, Some}
use mathlib.Core.Path.{◌≡◌, refl}
use Prim.Native.Nat.{ℕ, ◌+◌, ◌-◌, ◌*◌, ◌≤◌}
use native.Mathlib.Omega.{arith}
use mathlib.Core.Bool.{Bool, true, false, cond}
use mathlib.Core.List.{List, [], ◌∷◌, ◌++◌}
use lib.Dec.{leb}
use lib.ListN.{length, length-append}
use borrow.Author.Tests.{leb-true}
use Rattle.lent.proofs.Tests.{by-test}
use Rattle.lent.specs.Outcome.{Outcome, number, number_of}
use Rattle.lines.proofs.MarkLaws.{marked_long}
use Rattle.operands.proofs.SizeLaws.{answer_short, answer_zero, decimals_length, lines_length, marked_length, spelled, step_long, values_short}
use Rattle.lines.specs.Lines.{answer_line, body_of, decimals, given, has_mark, line_of, lines_of, step_of, values_of}
use Rattle.samtags.proofs.TableNumbers.{InTable, read_tag_in_table, step_in_table}
use Rattle.samtags.proofs.Length.{fields_length, weight}
use Rattle.samtags.proofs.Memory.{Shrinks, step_shrinks}
use Rattle.samtags.specs.Reading.{read_tag}
use Rattle.samtags.specs.Session.{Held, Step, after_step, stepped}
use Rattle.samtags.specs.Spots.{Listing}
use Rattle.serving.proofs.RestLaws.{line_length}
use Rattle.serving.specs.Serving.{after_opening, closing}
use Rattle.transcript.specs.Transcript.{from_first, from_second, from_third, opened, opened_on, transcript_of}

-- ---- what is held

-- how long it is said at the end
abbrev size : Bool → Held → ℕ
size ml? s = 6 + length s.seq + length s.text + cond ml? (3 + (weight spelled s.ml - 1)) 0

closing_size : (ml? : Bool) (s : Held) → length (closing ml? s) ≡ size ml? s
unfolding closing
closing_size ml? s =
    let seq = line_of "SQ" s.seq in
    let text = line_of "MM" s.text in
    let ml = cond ml? (line_of "ML" (decimals s.ml)) [] in
    omega (
      arith,
      length-append (seq ++ text) ml,
      length-append seq text,
      line_length 83 81 s.seq,
      line_length 77 77 s.text,
      ml_length ml?,
    )
  where
    ml_length : (b : Bool) → length (cond b (line_of "ML" (decimals s.ml)) []) ≡ cond b (3 + (weight spelled s.ml - 1)) 0
    ml_length true = omega (arith, line_length 77 76 (decimals s.ml), decimals_length s.ml)
    ml_length false = refl

-- a step lets it not grow
size_shrinks : (ml? : Bool) (s : Held) (o : Outcome Held) → Shrinks ml? s o → size ml? (after_step s o) ≤ size ml? s
size_shrinks ml? s (Err r) w = omega arith
size_shrinks true s (Ok h) w = omega (arith, w.seq_in, w.text_in, w.ml_lighter spelled)
size_shrinks false s (Ok h) w = omega (arith, w.seq_in, w.text_in)

-- ---- from the opening's answer on

after_room : (ml? : Bool) (ls : List (List ℕ)) (s : Held) → 4 * length (after_opening ml? ls s) ≤ 5 * fields_length ls + 4 * size ml? s
unfolding after_opening
after_room ml? [] s = omega (arith, closing_size ml? s)
after_room ml? (l ∷ ls) s = go (λ h. after_room ml? ls h) (step_of l) refl
  where
    go : ((h : Held) → 4 * length (after_opening ml? ls h) ≤ 5 * fields_length ls + 4 * size ml? h) → (o : Option Step) → step_of l ≡ o
        → 4 * length (given o (answer_line 13) (λ t. answer_line (number_of (stepped ml? t s)) ++ after_opening ml? ls (after_step s (stepped ml? t s))))
        ≤ 5 * fields_length (l ∷ ls) + 4 * size ml? s
    go rest None e = omega (arith, answer_short 13 (omega arith))
    go rest (Some t) e =
        let o = stepped ml? t s in
        omega (
          arith,
          length-append (answer_line (number_of o)) (after_opening ml? ls (after_step s o)),
          answer_short (number_of o) (step_in_table ml? t s),
          step_long l t e,
          rest (after_step s o),
          size_shrinks ml? s o (step_shrinks ml? t s),
        )

opened_room : (ml? : Bool) (ls : List (List ℕ)) (s : Held) (o : Outcome (List Listing)) → InTable o
    → 4 * length (opened ml? ls s o) ≤ 16 + 5 * fields_length ls + 4 * size ml? s
unfolding opened
opened_room ml? ls s (Err r) h = omega (arith, answer_short (number r) h)
opened_room ml? ls s (Ok listed) h = omega (arith, answer_zero, length-append (answer_line 0) (after_opening ml? ls s), after_room ml? ls s)

opened_on_room : (ml? : Bool) (seq text ml : List ℕ) (ls : List (List ℕ))
    → 4 * length (opened_on ml? seq text ml ls) ≤ 16 + 5 * fields_length ls + 4 * size ml? (record { seq = seq; text = text; ml = ml })
unfolding opened_on
opened_on_room ml? seq text ml ls =
    opened_room ml? ls (record { seq = seq; text = text; ml = ml }) (read_tag ml? seq text ml) (read_tag_in_table ml? seq text ml)

-- ---- the opening lines

third_room : (seq text : List ℕ) (ls : List (List ℕ))
    → 4 * length (from_third seq text ls) ≤ 16 + 5 * fields_length ls + 4 * (6 + length seq + length text)
unfolding from_third
third_room seq text [] = omega (arith, opened_on_room false seq text [] [])
third_room seq text (l ∷ ls) =
    by-test (has_mark "ML" l)
    (λ e. rw e (go (values_of l) refl (marked_length l (marked_long l 77 76 e))))
    (λ e. rw e (omega (arith, opened_on_room false seq text [] (l ∷ ls))))
  where
    go : (o : Option (List ℕ)) → values_of l ≡ o → length l ≡ 2 + length (body_of l)
        → 4 * length (given o (answer_line 13) (λ ml. opened_on true seq text ml ls)) ≤ 16 + 5 * fields_length (l ∷ ls) + 4 *
        (6 + length seq + length text)
    go None v e = omega (arith, answer_short 13 (omega arith))
    go (Some ml) v e = omega (arith, opened_on_room true seq text ml ls, (values_short l ml v).spelled_short)

second_room : (seq : List ℕ) (ls : List (List ℕ)) → 4 * length (from_second seq ls) ≤ 16 + 5 * fields_length ls + 4 * (3 + length seq)
unfolding from_second
second_room seq [] = omega (arith, answer_short 13 (omega arith))
second_room seq (l ∷ ls) =
    by-test (has_mark "MM" l)
    (λ e. rw e (omega (arith, third_room seq (body_of l) ls, marked_length l (marked_long l 77 77 e))))
    (λ e. rw e (omega (arith, answer_short 13 (omega arith))))

first_room : (ls : List (List ℕ)) (n : ℕ) → fields_length ls ≤ n + 1 → 4 * length (from_first ls) ≤ 16 + 5 * (n + 1)
unfolding from_first
first_room [] n h = omega (arith, answer_short 13 (omega arith))
first_room (l ∷ ls) n h =
    by-test (has_mark "SQ" l)
    (λ e. rw e (omega (arith, second_room (body_of l) ls, marked_length l (marked_long l 83 81 e))))
    (λ e. rw e (omega (arith, answer_short 13 (omega arith))))

-- ---- the whole output

-- five bytes of output for four of input, but for the opening's answer and an LF that the last line may lack
pub room_of : (input : List ℕ) → 4 * length (transcript_of input) ≤ 16 + 5 * (length input + 1)
unfolding transcript_of
room_of input =
    by-test (leb (length input) 65536)
    (λ e. rw e (first_room (lines_of input) (length input) (lines_length input)))
    (λ e. rw e (omega (arith, answer_short 1 (omega arith))))

pub room : (input : List ℕ) → length (transcript_of input) ≤ 81925
unfolding transcript_of
room input =
    by-test (leb (length input) 65536)
    (λ e. let few : length input ≤ 65536 = leb-true (length input) 65536 e in
    rw e (omega (arith, first_room (lines_of input) (length input) (lines_length input))))
    (λ e. rw e (omega (arith, answer_short 1 (omega arith))))
