-- The opening: the result of the first lines of the input, by their marks; and the desk after SEQ, the text and ML are laid on it.
-- Assumes nothing.
use Rattle.std.specs.Prelude.{Ok, Err, None, Some}
use mathlib.Core.Path.{◌≡◌, refl, sym, ap, ◌∙◌}
use Prim.Native.Nat.{ℕ, ◌+◌, ◌≤◌, ◌<◌}
use native.Mathlib.Omega.{arith}
use mathlib.Core.Bool.{Bool, true, false, cond}
use mathlib.Core.List.{List, [], ◌∷◌, ◌++◌}
use lib.ListN.{length, drop, take, length-drop}
use lib.Seq.{length-sets, sets}
use borrow.Author.Tests.{le-leb, lt-leb}
use Rattle.lent.proofs.Filled.{over_front, over_stored}
use Rattle.lent.proofs.Outcome.{need_test, on_done_inv, on_done_refused}
use Rattle.lent.specs.Filled.{over}
use Rattle.lent.specs.Outcome.{Outcome, number, number_of, on_done}
use Rattle.lent.specs.declared.Refusal.{Refusal}
use Rattle.samtags.proofs.TableNumbers.{read_tag_in_table}
use Rattle.samtags.proofs.Taken.{in_domain_lem}
use Rattle.samtags.specs.Reading.{in_domain, read_tag}
use Rattle.samtags.specs.Session.{held_in}
use Rattle.samtags.specs.Spots.{Listing}
use Rattle.samtags.specs.Text.{up_to}
use Rattle.operands.proofs.SizeLaws.{values_short}
use Rattle.lines.proofs.UpToLaws.{line_at, no_line_at}
use Rattle.operands.specs.Answers.{values_in}
use Rattle.lines.specs.Lines.{answer_line, body_of, given, has_mark, lines_of, values_of}
use Rattle.reading.specs.Calls.{counts_of}
use Rattle.stepping.specs.Steps.{Ordered, memory}
use Rattle.stepping.specs.declared.Lengths.{Lengths}
use Rattle.transcript.proofs.Room.{room}
use Rattle.serving.proofs.RestLaws.{Put}
use Rattle.transcript.specs.Desk.{Said}
use Rattle.serving.specs.Serving.{after_opening}
use Rattle.transcript.specs.Transcript.{from_first, from_second, from_third, opened, opened_on, transcript_of}

-- ---- the opening's answer

module _ (ml? : Bool) (seq text ml : List ℕ) (ls : List (List ℕ)) where
  -- what was read, by what the reader says of it
  module _ (r : Outcome (ℕ × ℕ)) (e : r ≡ on_done counts_of (read_tag ml? seq text ml)) where
    pub opening_number : number_of r ≡ number_of (read_tag ml? seq text ml)
    opening_number = ap number_of e ∙ go (read_tag ml? seq text ml)
      where
        go : (o : Outcome (List Listing)) → number_of (on_done counts_of o) ≡ number_of o
        go (Err q) = refl
        go (Ok l) = refl

    pub opening_small : number_of r ≤ 255
    opening_small = omega (arith, opening_number, read_tag_in_table ml? seq text ml)

    pub opening_refused : (q : Refusal) → r ≡ Err q → opened_on ml? seq text ml ls ≡ answer_line (number q)
    unfolding opened_on opened
    opening_refused q f =
        let o : read_tag ml? seq text ml ≡ Err q = on_done_refused counts_of (read_tag ml? seq text ml) q (sym e ∙ f) in
        rw o

    pub opening_done : (p : ℕ × ℕ) → r ≡ Ok p
        → opened_on ml? seq text ml ls ≡ answer_line 0 ++ after_opening ml? ls (record { seq = seq; text = text; ml = ml })
    unfolding opened_on opened
    opening_done p f =
        let o = on_done_inv counts_of (read_tag ml? seq text ml) p (sym e ∙ f) in
        rw o.1

    -- what is opened is within the domain
    pub opening_fits : (p : ℕ × ℕ) → r ≡ Ok p → (length seq ≤ 16000) × (length text ≤ 65536) × (cond ml? (length ml) 0 ≤ 65536)
    unfolding read_tag
    opening_fits p f =
        let o = on_done_inv counts_of (read_tag ml? seq text ml) p (sym e ∙ f) in
        in_domain_lem ml? seq text ml (need_test (in_domain ml? seq text ml) 1 _ o.0 o.1)

-- ---- the desk

-- a list stored at the front of a row
front_stored : (l row : List ℕ) → length l ≤ length row → take (length l) (sets row 0 l) ≡ l
front_stored l row h = ap (take (length l)) (over_stored l row h) ∙ over_front l row

-- SEQ and the text laid on their rows, and so many values of ML on theirs
module _ (bases text seq mm ml seq' mm' : List ℕ) (n : Lengths) (p : seq' ≡ sets seq 0 bases) (q : mm' ≡ sets mm 0 text)
    (a : n.seq ≡ length bases) (b : n.mm ≡ length text) (h : length bases ≤ length seq) (k : length text ≤ length mm) where
  pub laid_out : held_in (memory seq' mm' ml n) ≡ record { seq = bases; text = text; ml = take n.ml ml }
  laid_out = λ j. record {
    seq = (ap (λ (i : ℕ). take i seq') a ∙ ap (take (length bases)) p ∙ front_stored bases seq h) j;
    text = (ap (λ (i : ℕ). take i mm') b ∙ ap (take (length text)) q ∙ front_stored text mm k) j;
    ml = take n.ml ml;
  }

  pub laid_in_order : (ml? : Bool) → length bases ≤ 16000 → length text ≤ 65536 → n.ml ≤ 65536 → n.ml ≤ length ml → Ordered ml?
      (memory seq' mm' ml n)
  laid_in_order ml? s t v w =
      let ls : length seq' ≡ length seq = ap length p ∙ length-sets seq 0 bases in
      let lm : length mm' ≡ length mm = ap length q ∙ length-sets mm 0 text in
      (omega arith, omega arith, taken ml? 65536 v, omega arith, omega arith, taken ml? (length ml) w)
    where
      taken : (b : Bool) (most : ℕ) → n.ml ≤ most → cond b n.ml 0 ≤ most
      taken true most h = h
      taken false most h = omega arith

-- ---- the values of an ML line

pub values_of_lem : (l vs : List ℕ) → values_in (body_of l) ≡ Some vs → values_of l ≡ Some vs
unfolding values_of
values_of_lem l vs e = e

pub no_values_of : (l : List ℕ) → values_in (body_of l) ≡ None → values_of l ≡ None
unfolding values_of
no_values_of l e = e

-- they have room, and are at the front of their row
pub values_fit : (l vs : List ℕ) → values_of l ≡ Some vs → length l ≤ 65536 → length vs ≤ 32768
values_fit l vs e h = omega (arith, (values_short l vs e).few, length-drop 2 l)

pub values_stored : (vs row row' : List ℕ) (n : ℕ) → n ≡ length vs → row' ≡ sets row 0 vs → length vs ≤ length row → take n row' ≡ vs
values_stored vs row row' n e f h = rw (e, f) (front_stored vs row h)

-- ---- the first lines

module _ (input : List ℕ) (place : ℕ) where
  module _ (h : length input ≤ place) where
    pub second_ends : (seq : List ℕ) → from_second seq (lines_of (drop place input)) ≡ answer_line 13
    unfolding from_second
    second_ends seq = ap (from_second seq) (no_line_at input place h)

    pub third_ends : (seq text : List ℕ) → from_third seq text (lines_of (drop place input)) ≡ opened_on false seq text [] (lines_of (drop place input))
    unfolding from_third
    third_ends seq text = rw (no_line_at input place h)

  module _ (h : place < length input) (line : List ℕ) (e : line ≡ up_to 10 (drop place input)) where
    here : lines_of (drop place input) ≡ line ∷ lines_of (drop (place + length line + 1) input)
    here = line_at input place h ∙ rw (← e)

    pub first_bad : has_mark "SQ" line ≡ false → from_first (lines_of (drop place input)) ≡ answer_line 13
    unfolding from_first
    first_bad m = ap from_first here ∙ rw m

    pub first_seq : has_mark "SQ" line ≡ true
        → from_first (lines_of (drop place input)) ≡ from_second (body_of line) (lines_of (drop (place + length line + 1) input))
    unfolding from_first
    first_seq m = ap from_first here ∙ rw m

    module _ (seq : List ℕ) where
      pub second_bad : has_mark "MM" line ≡ false → from_second seq (lines_of (drop place input)) ≡ answer_line 13
      unfolding from_second
      second_bad m = ap (from_second seq) here ∙ rw m

      pub second_text : has_mark "MM" line ≡ true
          → from_second seq (lines_of (drop place input)) ≡ from_third seq (body_of line) (lines_of (drop (place + length line + 1) input))
      unfolding from_second
      second_text m = ap (from_second seq) here ∙ rw m

      module _ (text : List ℕ) where
        pub third_other : has_mark "ML" line ≡ false
            → from_third seq text (lines_of (drop place input)) ≡ opened_on false seq text [] (lines_of (drop place input))
        unfolding from_third
        third_other m =
            ap (from_third seq text) here
            ∙ ap (λ (b : Bool). cond b (given (values_of line) (answer_line 13)
            (λ ml. opened_on true seq text ml (lines_of (drop (place + length line + 1) input))))
            (opened_on false seq text [] (line ∷ lines_of (drop (place + length line + 1) input)))) m
            ∙ ap (opened_on false seq text []) (sym here)

        module _ (m : has_mark "ML" line ≡ true) where
          pub third_bad : values_of line ≡ None → from_third seq text (lines_of (drop place input)) ≡ answer_line 13
          unfolding from_third
          third_bad v = ap (from_third seq text) here ∙ rw (m, v)

          pub third_values : (ml : List ℕ) → values_of line ≡ Some ml
              → from_third seq text (lines_of (drop place input)) ≡ opened_on true seq text ml (lines_of (drop (place + length line + 1) input))
          unfolding from_third
          third_values ml v = ap (from_third seq text) here ∙ rw (m, v)

pub first_ends : (input : List ℕ) → length input ≡ 0 → from_first (lines_of input) ≡ answer_line 13
unfolding from_first
first_ends [] h = refl
first_ends (x ∷ xs) h = absurd (omega arith)

-- ---- what is said

module _ (said : List ℕ) (n : ℕ) (out out' : List ℕ) where
  pub said_same : (other : List ℕ) → said ≡ other → Said other n out out' → Said said n out out'
  said_same other e s = (s.0 ∙ ap length (sym e), s.1 ∙ ap (sets out 0) (sym e))

  -- an answer alone
  pub said_answer : (k : ℕ) → said ≡ answer_line k → Put out 0 (answer_line k) n out' → Said said n out out'
  said_answer k e p = said_same (answer_line k) e (omega (arith, p.0), p.1)

-- ---- the whole input

module _ (input : List ℕ) where
  pub too_long : 65536 < length input → transcript_of input ≡ answer_line 1
  unfolding transcript_of
  too_long h = rw (lt-leb (length input) 65536 h)

  pub not_too_long : length input ≤ 65536 → transcript_of input ≡ from_first (lines_of input)
  unfolding transcript_of
  not_too_long h = rw (le-leb (length input) 65536 h)

  -- what is said has room in the output
  pub filled : (n : ℕ) (out out' : List ℕ) → length out ≡ 81925 → Said (transcript_of input) n out out'
      → (n ≡ length (transcript_of input)) × (out' ≡ over (transcript_of input) out)
  filled n out out' e s = (s.0, s.1 ∙ over_stored (transcript_of input) out (omega (arith, room input)))
