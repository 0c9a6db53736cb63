-- `from_second` takes a line that is marked MM, and answers 13 otherwise.
-- Assumes nothing.
use mathlib.Core.Path.{◌∙◌, ◌≡◌, ap, subst, sym}
use Prim.Native.Nat.{◌+◌, ◌≤◌}
use native.Mathlib.Omega.{arith}
use mathlib.Core.Bool.{false, true}
use mathlib.Core.List.{List}
use Prim.Native.Nat.{ℕ}
use lib.ListN.{drop, length, length-drop}
use Rattle.lines.proofs.UpToLaws.{up_to_within}
use Rattle.lines.specs.Lines.{has_mark, lines_of}
use Rattle.transcript.proofs.OpeningLaws.{said_answer, said_same, second_bad, second_ends, second_text}
use Rattle.transcript.specs.Transcript.{from_second, from_third}
use Rattle.transcript.proofs.from_second.Goals as goal

pub returns-then-input-place : goal.returns-then-input-place
returns-then-input-place c =
    said_answer (from_second c.args.bases.now (lines_of (drop c.args.place c.args.input.now))) c.put_answer.result c.args.out.now c.put_answer.new.out 13
    (second_ends c.args.input.now c.args.place (omega arith) c.args.bases.now) c.put_answer.ensures

pub returns-then-not-marked : goal.returns-then-not-marked
returns-then-not-marked c =
    let marked : has_mark "MM" c.next_line-line.result.now ≡ false = sym c.has_mark-marked.ensures ∙ c.if-not-marked.true in
    said_answer (from_second c.args.bases.now (lines_of (drop c.args.place c.args.input.now))) c.put_answer-then-not-marked.result c.args.out.now c.put_answer-then-not-marked.new.out 13
    (second_bad c.args.input.now c.args.place (omega arith) c.next_line-line.result.now c.next_line-line.ensures c.args.bases.now marked) c.put_answer-then-not-marked.ensures

pub from_third-requires : goal.from_third-requires
from_third-requires c =
    let within : c.args.place + length c.next_line-line.result.now ≤ length c.args.input.now = subst (λ (l : List ℕ). c.args.place + length l ≤ length c.args.input.now) (sym c.next_line-line.ensures)
    (up_to_within 10 c.args.input.now c.args.place (omega arith)) in
    let whole : from_second c.args.bases.now (lines_of (drop c.args.place c.args.input.now)) ≡ from_third c.args.bases.now c.body_of-text.result.now (lines_of (drop (c.args.place + length c.next_line-line.result.now + 1) c.args.input.now)) = (let marked : has_mark "MM" c.next_line-line.result.now ≡ true = sym c.has_mark-marked.ensures ∙ c.if-not-marked.false in
    second_text c.args.input.now c.args.place (omega arith) c.next_line-line.result.now c.next_line-line.ensures c.args.bases.now marked
    ∙ ap (λ (t : List ℕ). from_third c.args.bases.now t (lines_of (drop (c.args.place + length c.next_line-line.result.now + 1) c.args.input.now)))
    (sym c.body_of-text.ensures)) in
    let inside = within in
    let text : length c.body_of-text.result.now ≤ 65536 =
    omega (arith, ap length c.body_of-text.ensures, length-drop 2 c.next_line-line.result.now, c.requires.input_len_bound.0) in
    record { input_len_bound = (c.requires.input_len_bound.0, omega (arith, c.requires.input_len_bound.0), c.requires.input_len_bound.2, text); desk_fits = c.requires.desk_fits; input_len_bound_2 = omega (arith, c.requires.input_len_bound_2, ap length (whole)) }

pub returns : goal.returns
returns c =
    let whole : from_second c.args.bases.now (lines_of (drop c.args.place c.args.input.now)) ≡ from_third c.args.bases.now c.body_of-text.result.now (lines_of (drop (c.args.place + length c.next_line-line.result.now + 1) c.args.input.now)) = (let marked : has_mark "MM" c.next_line-line.result.now ≡ true = sym c.has_mark-marked.ensures ∙ c.if-not-marked.false in
    second_text c.args.input.now c.args.place (omega arith) c.next_line-line.result.now c.next_line-line.ensures c.args.bases.now marked
    ∙ ap (λ (t : List ℕ). from_third c.args.bases.now t (lines_of (drop (c.args.place + length c.next_line-line.result.now + 1) c.args.input.now)))
    (sym c.body_of-text.ensures)) in
    said_same (from_second c.args.bases.now (lines_of (drop c.args.place c.args.input.now))) c.from_third.result c.args.out.now c.from_third.new.out
    (from_third c.args.bases.now c.body_of-text.result.now (lines_of (drop (c.args.place + length c.next_line-line.result.now + 1) c.args.input.now))) (whole)
    c.from_third.ensures
