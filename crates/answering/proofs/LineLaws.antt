-- Laws of a line: its answer from the step's answer, the row that a mask fills, and the step that the line asks for.
-- Assumes nothing.
use Rattle.std.specs.Prelude.{Ok, Err, Option, None, Some}
use Rattle.lent.specs.Outcome.{Outcome}
use mathlib.Core.Path.{◌≡◌, refl, sym, ap, ◌∙◌}
use Prim.Native.Nat.{ℕ, ◌-◌, ◌≤◌}
use native.Mathlib.Nat.{sub-zero}
use native.Mathlib.Omega.{arith}
use mathlib.Core.Bool.{Bool, true, false, cond}
use mathlib.Core.List.{List, map}
use lib.ListN.{length, take, length-drop, length-take}
use lib.Seq.{sets}
use Rattle.lent.proofs.Filled.{over_front, over_stored}
use Rattle.lent.specs.Filled.{over}
use Rattle.lent.specs.Lists.{among}
use Rattle.samtags.specs.Decimal.{value}
use Rattle.samtags.specs.Session.{Step, drop_calls, mask, masked, step_in_memory}
use Rattle.changing.proofs.WindowLaws.{stored_is_masked, take_stored}
use Rattle.changing.specs.Windows.{stored_at}
use Rattle.lines.specs.Lines.{are_numbers, body_of, cut_of, given, has_mark, joined, numbers_of, step_of}
use Rattle.stepping.proofs.StepLaws.{by_answer}
use Rattle.stepping.specs.Steps.{came, leaves_memory, memory, step_says}
use Rattle.stepping.specs.declared.Lengths.{Lengths as Declared}
use Rattle.answering.specs.Answers.{LineAnswered, answer_of}

-- ---- a step's answer

module _ (ml? : Bool) (s t v : List ℕ) (n : Declared) where
  -- a line that asks for a step, by what the step answered and how it left the rows
  pub step_answered : (o : Option Step) (p : Step) → o ≡ Some p → (r : Outcome Declared) (s' t' v' : List ℕ)
      → came (step_says r) s' t' v' ≡ leaves_memory (memory s t v n) (step_in_memory ml? p (memory s t v n))
      → LineAnswered ml? o (memory s t v n) (Some (answer_of r n)) s' t' v'
  step_answered o p e (Ok k) s' t' v' c =
      let left = by_answer (memory s t v n) n refl (Ok k) (step_in_memory ml? p (memory s t v n)) s' t' v' c in (p, e, left.1, left.0)
  step_answered o p e (Err r) s' t' v' c =
      let left = by_answer (memory s t v n) n refl (Err r) (step_in_memory ml? p (memory s t v n)) s' t' v' c in (p, e, left.1, left.0)

-- ---- the numbers of a line

module _ (most : ℕ) (body : List ℕ) (f : List ℕ → Option Step) where
  pub no_numbers : are_numbers most (joined body) ≡ false → given (numbers_of most body) None f ≡ None
  unfolding numbers_of
  no_numbers e = rw e

  pub the_numbers : are_numbers most (joined body) ≡ true → given (numbers_of most body) None f ≡ f (map value (joined body))
  unfolding numbers_of
  the_numbers e = rw e

-- ---- SEQ as a mask leaves it: a copy of it at the front of a row, with N at the places

pub masked_front : (n : ℕ) (seq row row₁ row₂ places : List ℕ) → n ≤ length seq → n ≤ length row → row₁ ≡ sets row 0 (take (n - 0) seq)
    → row₂ ≡ stored_at 78 places row₁ → take (n - 0) row₂ ≡ masked (among places) (take n seq)
masked_front n seq row row₁ row₂ places h k p q =
    let size : length (take n seq) ≡ n = omega (arith, length-take n seq) in
    let front : take n row₁ ≡ take n seq =
    ap (take n) (p ∙ ap (λ (m : ℕ). sets row 0 (take m seq)) (sub-zero n) ∙ over_stored (take n seq) row (omega arith)) ∙ ap
    (λ (m : ℕ). take m (over (take n seq) row)) (sym size)
    ∙ over_front (take n seq) row in
    ap (λ (m : ℕ). take m row₂) (sub-zero n) ∙ ap (take n) q ∙ take_stored n 78 places row₁ ∙ ap (stored_at 78 places) front
    ∙ stored_is_masked places (take n seq)

-- ---- the step that a line asks for

pub body_fits : (line : List ℕ) (n : ℕ) → length line ≤ n → length (body_of line) ≤ n
body_fits line n h = omega (arith, length-drop 2 line)

module _ (l : List ℕ) where
  asked : Option (List ℕ) → Bool → Bool → Bool → Option Step
  asked o mk dr cu = given o None (λ ns. cond mk (Some (mask ns)) (cond dr (Some (drop_calls ns)) (cond cu (cut_of ns) None)))

  step_is : (mk dr cu : Bool) → has_mark "MK" l ≡ mk → has_mark "DR" l ≡ dr → has_mark "CU" l ≡ cu
      → step_of l ≡ asked (numbers_of 4294967295 (body_of l)) mk dr cu
  unfolding step_of asked
  step_is mk dr cu e f g = λ j. given (numbers_of 4294967295 (body_of l)) None (λ ns.
      cond (e j) (Some (mask ns)) (cond (f j) (Some (drop_calls ns)) (cond (g j) (cut_of ns) None)))

  module _ (m : has_mark "MK" l ≡ true) where
    pub asks_mask : step_of l ≡ given (numbers_of 4294967295 (body_of l)) None (λ ns. Some (mask ns))
    unfolding asked
    asks_mask = step_is true (has_mark "DR" l) (has_mark "CU" l) m refl refl

  module _ (m : has_mark "MK" l ≡ false) where
    pub asks_drop : has_mark "DR" l ≡ true → step_of l ≡ given (numbers_of 4294967295 (body_of l)) None (λ ns. Some (drop_calls ns))
    unfolding asked
    asks_drop d = step_is false true (has_mark "CU" l) m d refl

    module _ (d : has_mark "DR" l ≡ false) where
      pub asks_cut : has_mark "CU" l ≡ true → step_of l ≡ given (numbers_of 4294967295 (body_of l)) None cut_of
      unfolding asked
      asks_cut c = step_is false false true m d c

      pub asks_nothing : has_mark "CU" l ≡ false → step_of l ≡ None
      unfolding asked
      asks_nothing c = step_is false false false m d c ∙ go (numbers_of 4294967295 (body_of l))
        where
          go : (o : Option (List ℕ)) → ◌≡◌ {A = Option Step} (given o None (λ ns. None)) None
          go None = refl
          go (Some ns) = refl
