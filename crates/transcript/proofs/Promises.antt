-- What the transcript of a session tells. If every line after the opening asks for a step, the answers and the closing lines are those of the session. So
-- they are what demand 3 says that a session means.
-- Assumes nothing.
use Rattle.std.specs.Prelude.{Ok, None, Some}
use mathlib.Core.Path.{◌≡◌, refl, sym, ap, subst, ◌∙◌}
use Prim.Native.Nat.{ℕ, ◌≤◌}
use native.Mathlib.Omega.{arith}
use mathlib.Core.Bool.{Bool, true, false, ◌&&◌}
use mathlib.Core.List.{List, [], ◌∷◌, ◌++◌, append_assoc, map}
use lib.Dec.{eqb}
use lib.ListN.{length, take}
use borrow.Author.Tests.{eqb-true, le-leb}
use Rattle.lent.proofs.Filled.{over_front}
use Rattle.lent.proofs.Outcome.{need_rest}
use Rattle.lent.proofs.Tests.{and_true_l, and_true_r, by-test}
use Rattle.lent.specs.Lists.{concat_map}
use Rattle.lent.specs.Outcome.{number_of}
use Rattle.samtags.proofs.SessionMeaning.{session_meaning}
use Rattle.samtags.specs.Bytes.{ascii}
use Rattle.samtags.specs.Meaning.{after_steps, answers_to, left_of_listing, left_of_seq, opening}
use Rattle.samtags.specs.Reading.{in_domain, lists, read_tag}
use Rattle.samtags.specs.Session.{Held, Step, after_step, answers, cut, drop_calls, mask, run, stepped}
use Rattle.samtags.specs.Spots.{Listing}
use Rattle.lines.proofs.MarkLaws.{marked_long}
use Rattle.lines.specs.Lines.{answer_line, has_mark, lines_of, step_of, values_of}
use Rattle.answering.proofs.LineLaws.{asks_nothing}
use Rattle.serving.specs.Serving.{after_opening, closing}
use Rattle.transcript.specs.PublicContracts.{Transcribes}
use Rattle.transcript.specs.Transcript.{from_first, from_second, from_third, opened, opened_on, transcript_of}

-- an answer for each step, and what is held after the last
pub good_lines : (ml? : Bool) (ls : List (List ℕ)) (ts : List Step) (s : Held) → map step_of ls ≡ map Some ts
    → after_opening ml? ls s ≡ concat_map answer_line (answers ml? ts s) ++ closing ml? (run ml? ts s)
unfolding after_opening answers run
good_lines ml? [] [] s e = refl
good_lines ml? [] (t ∷ ts) s e = let z : ◌≡◌ {A = ℕ} 0 1 = cc in absurd (omega arith)
good_lines ml? (l ∷ ls) [] s e = let z : ◌≡◌ {A = ℕ} 0 1 = cc in absurd (omega arith)
good_lines ml? (l ∷ ls) (t ∷ ts) s e =
    let first : step_of l ≡ Some t = cc in
    let rest : map step_of ls ≡ map Some ts = cc in
    let next : Held = after_step s (stepped ml? t s) in
    rw first
    (ap (λ (r : List ℕ). answer_line (number_of (stepped ml? t s)) ++ r) (good_lines ml? ls ts next rest)
    ∙ sym (append_assoc (answer_line (number_of (stepped ml? t s))) (concat_map answer_line (answers ml? ts next)) (closing ml? (run ml? ts next))))

-- The output of a session: 0 for the opening, the answers that the session means, and at the end a SEQ and a tag that lists what the session means.
pub record Tells (ml? : Bool) (s : Held) (listed : List Listing) (ts : List Step) (output : List ℕ) : Type 0 where
  pub held : Held
  pub printed : output ≡ answer_line 0 ++ (concat_map answer_line (answers_to listed ts (opening s.seq)) ++ closing ml? held)
  pub seq_then : held.seq ≡ left_of_seq (after_steps listed ts (opening s.seq)) s.seq
  pub lists_then : lists ml? held.seq held.text held.ml ≡ Ok (map (left_of_listing (after_steps listed ts (opening s.seq))) listed)

pub session_told : (ml? : Bool) (seq text ml : List ℕ) (listed : List Listing) → read_tag ml? seq text ml ≡ Ok listed
    → (ls : List (List ℕ)) (ts : List Step) → map step_of ls ≡ map Some ts
    → Tells ml? (record { seq = seq; text = text; ml = ml }) listed ts (opened_on ml? seq text ml ls)
unfolding opened_on opened read_tag
session_told ml? seq text ml listed r ls ts e =
    let s : Held = record { seq = seq; text = text; ml = ml } in
    let means = session_meaning ml? s listed (need_rest (in_domain ml? seq text ml) 1 (lists ml? seq text ml) listed r) ts in
    record {
      held = run ml? ts s;
      printed =
          ap (opened ml? ls s) r
          ∙ ap (λ (x : List ℕ). answer_line 0 ++ x) (good_lines ml? ls ts s e)
          ∙ ap (λ (ns : List ℕ). answer_line 0 ++ (concat_map answer_line ns ++ closing ml? (run ml? ts s))) means.answers_then;
      seq_then = means.seq_then;
      lists_then = means.lists_then;
    }

-- ---- the same of a whole input

-- a line that is marked ML asks for no step
ml_line : (l : List ℕ) → has_mark "ML" l ≡ true → step_of l ≡ None
ml_line [] e = let z : ◌≡◌ {A = ℕ} 0 1 = cc in absurd (omega arith)
ml_line (x ∷ []) e = let h = marked_long (x ∷ []) 77 76 e in absurd (omega arith)
ml_line (x ∷ y ∷ ys) e =
    let a : x ≡ 77 = eqb-true x 77 (and_true_l (eqb x 77) (eqb y 76 && true) e) in
    let b : y ≡ 76 = eqb-true y 76 (and_true_l (eqb y 76) true (and_true_r (eqb x 77) (eqb y 76 && true) e)) in
    rw (a, b) (asks_nothing (77 ∷ 76 ∷ ys) refl refl refl)

-- SQ and MM, and no ML behind them
third_is_a_step : (seq text : List ℕ) (ls : List (List ℕ)) (ts : List Step) → map step_of ls ≡ map Some ts
    → from_third seq text ls ≡ opened_on false seq text [] ls
unfolding from_third
third_is_a_step seq text [] ts e = refl
third_is_a_step seq text (l ∷ ls) [] e = let z : ◌≡◌ {A = ℕ} 0 1 = cc in absurd (omega arith)
third_is_a_step seq text (l ∷ ls) (t ∷ ts) e =
    let first : step_of l ≡ Some t = cc in
    by-test (has_mark "ML" l)
    (λ m. let none-asked : step_of l ≡ None = ml_line l m in let z : ◌≡◌ {A = ℕ} 0 1 = cc in absurd (omega arith))
    (λ m. rw m)

-- `transcript` on an input of at most 65,536 bytes whose first lines are these: it filled r bytes of the row lent as `out`, and left it as out'.
module _ (input seq text : List ℕ) (fits : length input ≤ 65536) (out : List ℕ) (r : ℕ) (out' : List ℕ) (told : Transcribes input out r out') where
  -- the front of the row is the output
  printed : take r out' ≡ transcript_of input
  printed = rw (told.0, told.1) (over_front (transcript_of input) out)

  from_lines : (ls : List (List ℕ)) → lines_of input ≡ (ascii "SQ" ++ seq) ∷ (ascii "MM" ++ text) ∷ ls → transcript_of input ≡ from_third seq text ls
  unfolding transcript_of from_first from_second
  from_lines ls e = rw (le-leb (length input) 65536 fits, e)

  -- a session with ML, as the program tells it
  pub tells_with_ml : (line ml : List ℕ) (ls : List (List ℕ)) (ts : List Step) (listed : List Listing)
      → lines_of input ≡ (ascii "SQ" ++ seq) ∷ (ascii "MM" ++ text) ∷ line ∷ ls → has_mark "ML" line ≡ true → values_of line ≡ Some ml
      → read_tag true seq text ml ≡ Ok listed → map step_of ls ≡ map Some ts
      → Tells true (record { seq = seq; text = text; ml = ml }) listed ts (take r out')
  unfolding from_third
  tells_with_ml line ml ls ts listed e m v read g =
      let third : from_third seq text (line ∷ ls) ≡ opened_on true seq text ml ls = rw (m, v) in
      subst (Tells true (record { seq = seq; text = text; ml = ml }) listed ts) (sym (printed ∙ from_lines (line ∷ ls) e ∙ third))
      (session_told true seq text ml listed read ls ts g)

  -- a session without ML, as the program tells it
  pub tells_without_ml : (ls : List (List ℕ)) (ts : List Step) (listed : List Listing)
      → lines_of input ≡ (ascii "SQ" ++ seq) ∷ (ascii "MM" ++ text) ∷ ls → read_tag false seq text [] ≡ Ok listed → map step_of ls ≡ map Some ts
      → Tells false (record { seq = seq; text = text; ml = [] }) listed ts (take r out')
  tells_without_ml ls ts listed e read g =
      subst (Tells false (record { seq = seq; text = text; ml = [] }) listed ts) (sym (printed ∙ from_lines ls e ∙ third_is_a_step seq text ls ts g))
      (session_told false seq text [] listed read ls ts g)

-- ---- the hypotheses can be met: the scope's case, whatever row is lent

module _ (out : List ℕ) (r : ℕ) (out' : List ℕ) where
  abbrev seq : List ℕ
  seq = ascii "ACCGTCC"

  abbrev text : List ℕ
  text = ascii "C+m?,0,1,0;"

  abbrev ml : List ℕ
  ml = 200 ∷ 90 ∷ 30 ∷ []

  abbrev steps : List Step
  steps = mask (1 ∷ []) ∷ drop_calls (5 ∷ []) ∷ cut 3 0 ∷ []

  abbrev calls : List Listing
  calls = record {
    header = ascii "C+m?";
    calls = record { place = 1; values = 200 ∷ [] } ∷ record { place = 5; values = 90 ∷ [] } ∷ record { place = 6; values = 30 ∷ [] } ∷ [];
  } ∷ []

  pub scope_case_told : Transcribes (ascii "SQACCGTCC\nMMC+m?,0,1,0;\nML200,90,30\nMK1\nDR5\nCU3,0\n") out r out'
      → Tells true (record { seq = seq; text = text; ml = ml }) calls steps (take r out')
  unfolding values_of read_tag step_of
  scope_case_told told =
      tells_with_ml (ascii "SQACCGTCC\nMMC+m?,0,1,0;\nML200,90,30\nMK1\nDR5\nCU3,0\n") seq text (omega arith) out r out' told (ascii "ML200,90,30") ml
      (ascii "MK1" ∷ ascii "DR5" ∷ ascii "CU3,0" ∷ []) steps calls refl refl refl refl refl

  pub scope_case_told_without_ml : Transcribes (ascii "SQACCGTCC\nMMC+m?,0,1,0;\nMK1\n") out r out'
      → (listed : List Listing) × Tells false (record { seq = seq; text = text; ml = [] }) listed (mask (1 ∷ []) ∷ []) (take r out')
  unfolding read_tag step_of
  scope_case_told_without_ml told = (
    _,
    tells_without_ml (ascii "SQACCGTCC\nMMC+m?,0,1,0;\nMK1\n") seq text (omega arith) out r out' told (ascii "MK1" ∷ []) (mask (1 ∷ []) ∷ []) _ refl
        refl refl,
  )
