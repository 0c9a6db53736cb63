-- Writing the output line by line: one run of stores behind another, the closing lines, and the answer to the next line of the input.
-- Assumes nothing.
use Rattle.std.specs.Prelude.{None, Some}
use mathlib.Core.Path.{◌≡◌, refl, sym, ap, subst, ◌∙◌}
use Prim.Native.Nat.{ℕ, ◌+◌, ◌≤◌, ◌<◌}
use native.Mathlib.Omega.{arith}
use mathlib.Core.Bool.{Bool, true, false, cond}
use mathlib.Core.List.{List, [], ◌∷◌, ◌++◌, append-nil}
use lib.ListN.{length, drop, length-append}
use lib.Seq.{sets}
use Rattle.lent.proofs.Stores.{sets_append}
use Rattle.lent.specs.Outcome.{number_of}
use Rattle.samtags.proofs.TableNumbers.{step_in_table}
use Rattle.samtags.proofs.Memory.{In-order, step_follows}
use Rattle.samtags.specs.Session.{Held, Memory, Step, after_step, held_in, step_in_memory, stepped}
use Rattle.samtags.specs.Text.{up_to}
use Rattle.lines.proofs.UpToLaws.{line_at, no_line_at}
use Rattle.lines.specs.Lines.{answer_line, decimals, line_of, lines_of, step_of}
use Rattle.stepping.specs.Steps.{Ordered, memory}
use Rattle.stepping.specs.declared.Lengths.{Lengths}
use Rattle.answering.specs.Answers.{LineAnswered}
use Rattle.serving.specs.Serving.{after_opening, closing}

-- ---- runs of stores

-- what is put from a place on, the row then, and the place after it
abbrev pub Put : List ℕ → ℕ → List ℕ → ℕ → List ℕ → Type 0
Put l at xs end l' = (end ≡ at + length xs) × (l' ≡ sets l at xs)

module _ (l : List ℕ) (at : ℕ) (xs : List ℕ) (end : ℕ) (l' : List ℕ) (p : Put l at xs end l') where
  -- what is to be put yet
  pub put_on : (ys : List ℕ) → (sets l at (xs ++ ys) ≡ sets l' end ys) × (at + length (xs ++ ys) ≡ end + length ys)
  put_on ys = (
    sets_append l at xs ys ∙ rw (← p.0, ← p.1),
    omega (arith, length-append xs ys, p.0),
  )

  pub put_then : (ys : List ℕ) (end₂ : ℕ) (l₂ : List ℕ) → Put l' end ys end₂ l₂ → Put l at (xs ++ ys) end₂ l₂
  put_then ys end₂ l₂ q = (omega (arith, (put_on ys).1, q.0), q.1 ∙ sym (put_on ys).0)

-- ---- what is held at the end

-- a line is as long as its mark, its body and its LF
pub line_length : (a b : ℕ) (body : List ℕ) → length (a ∷ b ∷ body ++ 10 ∷ []) ≡ 3 + length body
line_length a b body = omega (arith, length-append body (10 ∷ []))

module _ (s : Held) (seq text ml : List ℕ) (e : seq ≡ s.seq) (f : text ≡ s.text) (l : List ℕ) (at e₁ : ℕ) (l₁ : List ℕ) (e₂ : ℕ) (l₂ : List ℕ)
    (p : Put l at (line_of "SQ" seq) e₁ l₁) (q : Put l₁ e₁ (line_of "MM" text) e₂ l₂) where
  both : Put l at (line_of "SQ" s.seq ++ line_of "MM" s.text) e₂ l₂
  both =
      subst (λ (xs : List ℕ). Put l at (line_of "SQ" xs ++ line_of "MM" s.text) e₂ l₂) e
      (subst (λ (xs : List ℕ). Put l at (line_of "SQ" seq ++ line_of "MM" xs) e₂ l₂) f
      (put_then l at (line_of "SQ" seq) e₁ l₁ p (line_of "MM" text) e₂ l₂ q))

  pub closed_without : (ml? : Bool) → ml? ≡ false → Put l at (closing ml? s) e₂ l₂
  unfolding closing
  closed_without ml? n =
      subst (λ (xs : List ℕ). Put l at xs e₂ l₂)
      (sym (append-nil (line_of "SQ" s.seq ++ line_of "MM" s.text))
      ∙ ap (λ (b : Bool). line_of "SQ" s.seq ++ line_of "MM" s.text ++ cond b (line_of "ML" (decimals s.ml)) []) (sym n))
      both

  pub closed_with : (ml? : Bool) → ml? ≡ true → ml ≡ s.ml → (e₃ : ℕ) (l₃ : List ℕ) → Put l₂ e₂ (line_of "ML" (decimals ml)) e₃ l₃ → Put l at
      (closing ml? s) e₃ l₃
  unfolding closing
  closed_with ml? n g e₃ l₃ r =
      subst (λ (xs : List ℕ). Put l at xs e₃ l₃)
      (ap (λ (xs : List ℕ). line_of "SQ" s.seq ++ line_of "MM" s.text ++ line_of "ML" (decimals xs)) g
      ∙ ap (λ (b : Bool). line_of "SQ" s.seq ++ line_of "MM" s.text ++ cond b (line_of "ML" (decimals s.ml)) []) (sym n))
      (put_then l at (line_of "SQ" s.seq ++ line_of "MM" s.text) e₂ l₂ both (line_of "ML" (decimals ml)) e₃ l₃ r)

-- ---- the next line of the input

-- the lengths in order, as the session's theorems and as its functions ask it
ordered_of : (ml? : Bool) (m : Memory) → In-order ml? m → Ordered ml? m
ordered_of true m i = (i.seq_domain, i.text_domain, i.ml_domain refl, i.seq_buffer, i.text_buffer, i.ml_buffer refl)
ordered_of false m i = (i.seq_domain, i.text_domain, omega arith, i.seq_buffer, i.text_buffer, omega arith)

order_of : (ml? : Bool) (m : Memory) → Ordered ml? m → In-order ml? m
order_of true m i =
    record {
      seq_domain = i.0;
      text_domain = i.1;
      ml_domain = λ e. i.2;
      seq_buffer = i.3;
      text_buffer = i.4;
      ml_buffer = λ e. i.5;
    }
order_of false m i =
    record {
      seq_domain = i.0;
      text_domain = i.1;
      ml_domain = λ e. let z : ◌≡◌ {A = ℕ} 0 1 = cc in absurd (omega arith);
      seq_buffer = i.3;
      text_buffer = i.4;
      ml_buffer = λ e. let z : ◌≡◌ {A = ℕ} 0 1 = cc in absurd (omega arith);
    }

-- what is said from a place of the input on
abbrev pub said_from : Bool → List ℕ → ℕ → Memory → List ℕ
said_from ml? text place m = after_opening ml? (lines_of (drop place text)) (held_in m)

-- the first line of those that are left
module _ (ml? : Bool) (l : List ℕ) (ls : List (List ℕ)) (s : Held) where
  after_bad : step_of l ≡ None → after_opening ml? (l ∷ ls) s ≡ answer_line 13
  unfolding after_opening
  after_bad e = rw e

  after_step_lem : (t : Step) → step_of l ≡ Some t
      → after_opening ml? (l ∷ ls) s ≡ answer_line (number_of (stepped ml? t s)) ++ after_opening ml? ls (after_step s (stepped ml? t s))
  unfolding after_opening
  after_step_lem t e = rw e

after_none : (ml? : Bool) (s : Held) → after_opening ml? [] s ≡ closing ml? s
unfolding after_opening
after_none ml? s = refl

module _ (ml? : Bool) (text : List ℕ) (place : ℕ) (m : Memory) where
  pub no_line : length text ≤ place → said_from ml? text place m ≡ closing ml? (held_in m)
  no_line h = ap (λ (ls : List (List ℕ)). after_opening ml? ls (held_in m)) (no_line_at text place h) ∙ after_none ml? (held_in m)

  module _ (h : place < length text) (line : List ℕ) (e : line ≡ up_to 10 (drop place text)) where
    here : lines_of (drop place text) ≡ line ∷ lines_of (drop (place + length line + 1) text)
    here = line_at text place h ∙ rw (← e)

    pub bad_line : step_of line ≡ None → said_from ml? text place m ≡ answer_line 13
    bad_line b =
        ap (λ (ls : List (List ℕ)). after_opening ml? ls (held_in m)) here
        ∙ after_bad ml? line (lines_of (drop (place + length line + 1) text)) (held_in m) b

    -- the line was answered with n, and the rows are then those of m'
    pub record Turned (n : ℕ) (m' : Memory) : Type 0 where
      pub said : said_from ml? text place m ≡ answer_line n ++ said_from ml? text (place + length line + 1) m'
      pub ordered : Ordered ml? m'
      pub small : n ≤ 21

    pub turned : Ordered ml? m → (n : ℕ) (k : Lengths) (s t v : List ℕ) → LineAnswered ml? (step_of line) m (Some (n, k)) s t v
        → Turned n (memory s t v k)
    turned i n k s t v a =
        let f = step_follows ml? a.0 m (order_of ml? m i) in
        let o = stepped ml? a.0 (held_in m) in
        let number : n ≡ number_of o = a.2 ∙ f.number_then in
        let held : held_in (memory s t v k) ≡ after_step (held_in m) o = ap held_in a.3 ∙ f.held_then in
        let ls = lines_of (drop (place + length line + 1) text) in
        record {
          said =
              ap (λ (ls : List (List ℕ)). after_opening ml? ls (held_in m)) here ∙ after_step_lem ml? line ls (held_in m) a.0 a.1
              ∙ ap (λ (x : ℕ). answer_line x ++ after_opening ml? ls (after_step (held_in m) o)) (sym number)
              ∙ ap (λ (h : Held). answer_line n ++ after_opening ml? ls h) (sym held);
          ordered = subst (Ordered ml?) (sym a.3) (ordered_of ml? (after_step m (step_in_memory ml? a.0 m)) f.order_then);
          small = omega (arith, number, step_in_table ml? a.0 (held_in m));
        }
