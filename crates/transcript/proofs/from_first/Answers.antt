-- `from_first` takes a line that is marked SQ, and answers 13 otherwise.
-- Assumes nothing.
use mathlib.Core.Path.{◌∙◌, ◌≡◌, ap, subst, sym}
use Prim.Native.Nat.{◌+◌, ◌≤◌, ℕ}
use native.Mathlib.Omega.{arith}
use mathlib.Core.Bool.{false, true}
use mathlib.Core.List.{List}
use lib.ListN.{drop, length, length-drop}
use Rattle.lines.proofs.UpToLaws.{up_to_within}
use Rattle.lines.specs.Lines.{body_of, has_mark, lines_of}
use Rattle.transcript.proofs.OpeningLaws.{first_bad, first_ends, first_seq, said_answer, said_same}
use Rattle.transcript.specs.Transcript.{from_first, from_second}
use Rattle.transcript.proofs.from_first.Goals as goal

pub returns-then-input-eq0 : goal.returns-then-input-eq0
returns-then-input-eq0 c =
    said_answer (from_first (lines_of c.args.input.now)) c.put_answer.result c.args.out.now c.put_answer.new.out 13 (first_ends c.args.input.now (omega arith))
    c.put_answer.ensures

pub returns-then-not-marked : goal.returns-then-not-marked
returns-then-not-marked c =
    let marked : has_mark "SQ" c.next_line-line.result.now ≡ false = sym c.has_mark-marked.ensures ∙ c.if-not-marked.true in
    said_answer (from_first (lines_of c.args.input.now)) c.put_answer-then-not-marked.result c.args.out.now c.put_answer-then-not-marked.new.out 13
    (first_bad c.args.input.now 0 (omega arith) c.next_line-line.result.now c.next_line-line.ensures marked) c.put_answer-then-not-marked.ensures

pub from_second-requires : goal.from_second-requires
from_second-requires c =
    let within : 0 + length c.next_line-line.result.now ≤ length c.args.input.now = subst (λ (l : List ℕ). 0 + length l ≤ length c.args.input.now) (sym c.next_line-line.ensures)
    (up_to_within 10 c.args.input.now (0) (omega arith)) in
    let whole : from_first (lines_of c.args.input.now) ≡ from_second c.body_of-bases.result.now (lines_of (drop (length c.next_line-line.result.now + 1) c.args.input.now)) = (let marked : has_mark "SQ" c.next_line-line.result.now ≡ true = sym c.has_mark-marked.ensures ∙ c.if-not-marked.false in
    let next : 0 + length c.next_line-line.result.now + 1 ≡ length c.next_line-line.result.now + 1 = omega arith in
    first_seq c.args.input.now 0 (omega arith) c.next_line-line.result.now c.next_line-line.ensures marked
    ∙ ap (λ (n : ℕ). from_second (body_of c.next_line-line.result.now) (lines_of (drop n c.args.input.now))) next
    ∙ ap (λ (t : List ℕ). from_second t (lines_of (drop (length c.next_line-line.result.now + 1) c.args.input.now))) (sym c.body_of-bases.ensures)) in
    let inside = within in
    let bases : length c.body_of-bases.result.now ≤ 65536 =
    omega (arith, ap length c.body_of-bases.ensures, length-drop 2 c.next_line-line.result.now, c.requires.input_len_bound) in
    record { input_len_bound = (c.requires.input_len_bound, omega (arith, c.requires.input_len_bound), bases); desk_fits = c.requires.desk_fits; input_len_bound_2 = omega (arith, c.requires.input_len_bound_2, ap length (whole)) }

pub returns : goal.returns
returns c =
    let whole : from_first (lines_of c.args.input.now) ≡ from_second c.body_of-bases.result.now (lines_of (drop (length c.next_line-line.result.now + 1) c.args.input.now)) = (let marked : has_mark "SQ" c.next_line-line.result.now ≡ true = sym c.has_mark-marked.ensures ∙ c.if-not-marked.false in
    let next : 0 + length c.next_line-line.result.now + 1 ≡ length c.next_line-line.result.now + 1 = omega arith in
    first_seq c.args.input.now 0 (omega arith) c.next_line-line.result.now c.next_line-line.ensures marked
    ∙ ap (λ (n : ℕ). from_second (body_of c.next_line-line.result.now) (lines_of (drop n c.args.input.now))) next
    ∙ ap (λ (t : List ℕ). from_second t (lines_of (drop (length c.next_line-line.result.now + 1) c.args.input.now))) (sym c.body_of-bases.ensures)) in
    said_same (from_first (lines_of c.args.input.now)) c.from_second.result c.args.out.now c.from_second.new.out
    (from_second c.body_of-bases.result.now (lines_of (drop (length c.next_line-line.result.now + 1) c.args.input.now))) (whole) c.from_second.ensures
