-- Reading a field as a number up to a bound, and reading the fields of a line one by one.
-- Assumes nothing.
use Rattle.std.specs.Prelude.{Option, None, Some, Ok, Err}
use mathlib.Core.Path.{◌≡◌, refl, sym, ap, ◌∙◌}
use Prim.Native.Nat.{ℕ, ◌+◌, ◌≤◌, ◌<◌, min}
use native.Mathlib.Omega.{arith}
use mathlib.Core.Bool.{Bool, true, false, cond}
use mathlib.Core.List.{List, [], ◌∷◌, map}
use lib.Dec.{leb}
use lib.ListN.{length, drop}
use borrow.Author.Tests.{le-leb, lt-leb, leb-true}
use Rattle.lent.proofs.Outcome.{done_inj, need_rest, need_test}
use Rattle.lent.proofs.Tests.{and_true_r, by-test}
use Rattle.lent.specs.Outcome.{need, Outcome}
use Rattle.lent.specs.declared.Refusal.{Refusal}
use Rattle.samtags.specs.Decimal.{is_number, value}
use Rattle.samtags.specs.Session.{Step, cut}
use Rattle.samtags.specs.Text.{up_to}
use Rattle.lent.specs.Lists.{is_empty}
use Rattle.lines.proofs.UpToLaws.{field_at, fields_all, fields_from, no_field, up_to_within}
use Rattle.operands.specs.Answers.{is_number_to, number_to, values_in}
use Rattle.lines.specs.Lines.{are_numbers, cut_of, given, joined, numbers_of}

module _ (f : List ℕ) (most : ℕ) where
  -- no decimal
  pub number_refused : (r : Refusal) → Err r ≡ need (is_number f) 6 (Ok (min (most + 1) (value f))) → number_to most f ≡ None
  number_refused r e = go (is_number f) refl e
    where
      go : (t : Bool) → is_number f ≡ t → ◌≡◌ {A = Outcome ℕ} (Err r) (need t 6 (Ok (min (most + 1) (value f)))) → number_to most f ≡ None
      go true p e = let z : ◌≡◌ {A = ℕ} 0 1 = cc in absurd (omega arith)
      go false p e = rw p

  module _ (n : ℕ) (e : Ok n ≡ need (is_number f) 6 (Ok (min (most + 1) (value f)))) where
    read_as : (is_number f ≡ true) × (min (most + 1) (value f) ≡ n)
    read_as = (need_test (is_number f) 6 _ n (sym e), done_inj (need_rest (is_number f) 6 _ n (sym e)))

    -- too large
    pub number_over : most < n → number_to most f ≡ None
    number_over h = rw (read_as.0, lt-leb (value f) most (omega (arith, read_as.1)))

    pub number_read : n ≤ most → number_to most f ≡ Some n
    number_read h =
        let same : value f ≡ n = omega (arith, read_as.1) in
        rw (read_as.0, same, le-leb n most h)

-- what a number that was read says of its field
pub number_known : (f : List ℕ) (most n : ℕ) → Some n ≡ number_to most f → (is_number_to most f ≡ true) × (value f ≡ n) × (n ≤ most)
number_known f most n e = go (is_number_to most f) refl e
  where
    go : (t : Bool) → is_number_to most f ≡ t → Some n ≡ cond t (Some (value f)) None → (is_number_to most f ≡ true) × (value f ≡ n) × (n ≤ most)
    go true p e =
        let same : value f ≡ n = cc in
        (p, same, omega (arith, leb-true (value f) most (and_true_r (is_number f) (leb (value f) most) p)))
    go false p e = let z : ◌≡◌ {A = ℕ} 0 1 = cc in absurd (omega arith)

pub number_unknown : (f : List ℕ) (most : ℕ) → None ≡ number_to most f → is_number_to most f ≡ false
number_unknown f most e = go (is_number_to most f) e
  where
    go : (t : Bool) → None ≡ cond t (Some (value f)) None → t ≡ false
    go true e = let z : ◌≡◌ {A = ℕ} 0 1 = cc in absurd (omega arith)
    go false e = refl

-- ---- the fields of a line, one by one

-- the field at a place is f
module _ (body : List ℕ) (at : ℕ) (h : at ≤ length body) (f : List ℕ) (e : f ≡ up_to 44 (drop at body)) where
  pub fields_here : fields_from body at ≡ f ∷ fields_from body (at + length f + 1)
  fields_here = field_at body at h ∙ rw (← e)

  pub next_within : at + length f ≤ length body
  next_within = rw e (up_to_within 44 body at h)

  -- it is no number
  pub fields_bad : (most : ℕ) → None ≡ number_to most f → are_numbers most (fields_from body at) ≡ false
  unfolding are_numbers
  fields_bad most b = ap (are_numbers most) fields_here ∙ rw (number_unknown f most b)

  -- it is a number
  module _ (most n : ℕ) (k : Some n ≡ number_to most f) where
    pub fields_on : are_numbers most (fields_from body at) ≡ are_numbers most (fields_from body (at + length f + 1))
    unfolding are_numbers
    fields_on = ap (are_numbers most) fields_here ∙ rw (number_known f most n k).0

    pub values_here : map value (fields_from body at) ≡ n ∷ map value (fields_from body (at + length f + 1))
    values_here = ap (map value) fields_here ∙ rw (number_known f most n k).1

-- none is left
pub fields_end : (body : List ℕ) (at most : ℕ) → length body < at → are_numbers most (fields_from body at) ≡ true
unfolding are_numbers
fields_end body at most h = ap (are_numbers most) (no_field body at h)

pub values_end : (body : List ℕ) (at : ℕ) → length body < at → map value (fields_from body at) ≡ []
values_end body at h = ap (map value) (no_field body at h)

-- ---- the values of an ML line

pub no_values : (body : List ℕ) → length body ≡ 0 → values_in body ≡ Some []
no_values [] h = refl
no_values (x ∷ xs) h = absurd (omega arith)

some_body : (body : List ℕ) → (length body ≡ 0 → ⊥) → is_empty body ≡ false
some_body [] h = absurd (h refl)
some_body (x ∷ xs) h = refl

module _ (body : List ℕ) (h : length body ≡ 0 → ⊥) where
  pub values_bad : are_numbers 255 (joined body) ≡ false → values_in body ≡ None
  unfolding numbers_of
  values_bad b = rw (some_body body h, b)

  pub values_are : are_numbers 255 (joined body) ≡ true → values_in body ≡ Some (map value (joined body))
  unfolding numbers_of
  values_are b = rw (some_body body h, b)

-- ---- bases off the front and off the back

-- what the fields of such a line say
abbrev ends_in : ℕ → List (List ℕ) → Option Step
ends_in most fs = given (cond (are_numbers most fs) (Some (map value fs)) None) None cut_of

ends_are : (most : ℕ) (body : List ℕ) (fs : List (List ℕ)) → joined body ≡ fs → given (numbers_of most body) None cut_of ≡ ends_in most fs
unfolding numbers_of
ends_are most body fs e = ap (ends_in most) e

ends_one : (most : ℕ) (f : List ℕ) → ends_in most (f ∷ []) ≡ None
ends_one most f = by-test (are_numbers most (f ∷ [])) (λ t. rw t) (λ t. rw t)

ends_more : (most : ℕ) (f g h : List ℕ) (fs : List (List ℕ)) → ends_in most (f ∷ g ∷ h ∷ fs) ≡ None
ends_more most f g h fs = by-test (are_numbers most (f ∷ g ∷ h ∷ fs)) (λ t. rw t) (λ t. rw t)

module _ (most : ℕ) (body f : List ℕ) (p : f ≡ up_to 44 (drop 0 body)) where
  first : joined body ≡ f ∷ fields_from body (length f + 1)
  first =
      let z : 0 + length f + 1 ≡ length f + 1 = omega arith in
      sym (fields_all body) ∙ fields_here body 0 (omega arith) f p ∙ ap (λ (at : ℕ). f ∷ fields_from body at) z

  -- there is just one
  pub one_number : length f ≡ length body → given (numbers_of most body) None cut_of ≡ None
  one_number e =
      ends_are most body (f ∷ []) (first ∙ ap (λ (fs : List (List ℕ)). f ∷ fs) (no_field body (length f + 1) (omega arith))) ∙ ends_one most f

  module _ (h : length f + 1 ≤ length body) (g : List ℕ) (q : g ≡ up_to 44 (drop (length f + 1) body)) where
    second : joined body ≡ f ∷ g ∷ fields_from body (length f + 1 + length g + 1)
    second = first ∙ ap (λ (fs : List (List ℕ)). f ∷ fs) (fields_here body (length f + 1) h g q)

    -- there are more than two
    pub more_numbers : (length f + 1 + length g ≡ length body → ⊥) → given (numbers_of most body) None cut_of ≡ None
    more_numbers n =
        let within = next_within body (length f + 1) h g q in
        let at = length f + 1 + length g + 1 in
        let third : length f + 1 + length g + 1 ≤ length body = at_most (length f + 1 + length g) (length body) within n in
        let more = fields_here body at third (up_to 44 (drop at body)) refl in
        ends_are most body (f ∷ g ∷ up_to 44 (drop at body) ∷ fields_from body (at + length (up_to 44 (drop at body)) + 1))
        (second ∙ ap (λ (fs : List (List ℕ)). f ∷ g ∷ fs) more)
        ∙ ends_more most f g (up_to 44 (drop at body)) (fields_from body (at + length (up_to 44 (drop at body)) + 1))
      where
        at_most : (a b : ℕ) → a ≤ b → (a ≡ b → ⊥) → a + 1 ≤ b
        at_most a b l n = omega arith

    -- just two
    module _ (e : length f + 1 + length g ≡ length body) where
      two : given (numbers_of most body) None cut_of ≡ ends_in most (f ∷ g ∷ [])
      two =
          ends_are most body (f ∷ g ∷ [])
          (second ∙ ap (λ (fs : List (List ℕ)). f ∷ g ∷ fs) (no_field body (length f + 1 + length g + 1) (omega arith)))

      pub front_bad : None ≡ number_to most f → given (numbers_of most body) None cut_of ≡ None
      unfolding are_numbers
      front_bad b = two ∙ rw (number_unknown f most b)

      pub back_bad : None ≡ number_to most g → given (numbers_of most body) None cut_of ≡ None
      unfolding are_numbers
      back_bad b = two ∙ rw (number_unknown g most b) (by-test (is_number_to most f) (λ t. rw t) (λ t. rw t))

      pub two_numbers : (a b : ℕ) → Some a ≡ number_to most f → Some b ≡ number_to most g → given (numbers_of most body) None cut_of ≡ Some (cut a b)
      unfolding are_numbers
      two_numbers a b j k =
          let x = number_known f most a j in
          let y = number_known g most b k in
          two ∙ rw (x.0, y.0, x.1, y.1)
