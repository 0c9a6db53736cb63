-- Laws of parsing: one field at a time, at the front of some bytes and at a byte of a record.
-- Assumes nothing.
use Rattle.std.specs.Prelude.{Ok, Err}
use mathlib.Core.Path.{◌≡◌, refl, sym, ap, ◌∙◌}
use mathlib.Core.Bool.{Bool, true, false, not, or-false}
use Prim.Native.Nat.{ℕ, zero, suc, ◌+◌, ◌-◌, ◌≤◌, ◌<◌}
use native.Mathlib.Omega.{arith}
use mathlib.Core.List.{List, [], ◌∷◌}
use mathlib.Core.Logic.{⊎_elim}
use lib.Dec.{eqb}
use lib.ListN.{drop, drop_of_length-le, get_or, length, length-drop, take}
use lib.Seq.{drop-drop}
use borrow.Author.Tests.{eqb-true, eqb-false, ne_eqb}
use Rattle.lent.proofs.Answers.{only_and_then, only_need}
use Rattle.lent.proofs.Numbers.{le_or_lt}
use Rattle.lent.proofs.Tests.{by-test}
use Rattle.lent.specs.Answers.{is_done, refuses_only}
use Rattle.lent.specs.Lists.{is_empty}
use Rattle.lent.proofs.Outcome.{refusal_of_number}
use Rattle.lent.specs.Outcome.{Outcome, number, refusal, refuse, and_then, on_done}
use Rattle.record_fields.proofs.SizeLaws.{array_least, in_fits, in_some}
use Rattle.record_fields.specs.Fields.{Field, array_size, field_size, fields, fields_in, fields_of, or_none, value_size}

-- a field that parses has a value, and all of it is there
pub size_is : (bytes : List ℕ) → (field_size bytes ≡ 0 → ⊥)
    → (let n = value_size (get_or bytes 2 0) (drop 3 bytes) in (n ≡ 0 → ⊥) × (3 + n ≤ length bytes) × (field_size bytes ≡ 3 + n))
unfolding field_size
size_is bytes h =
    let n = value_size (get_or bytes 2 0) (drop 3 bytes) in
    let some = in_some (length bytes) n h in
    (some.0, some.1, in_fits (length bytes) n some.0 some.1)

pub size_fits : (bytes : List ℕ) → (field_size bytes ≡ 0 → ⊥) → (4 ≤ field_size bytes) × (field_size bytes ≤ length bytes)
size_fits bytes h =
    let s = size_is bytes h in
    let n = value_size (get_or bytes 2 0) (drop 3 bytes) in
    by-test (eqb n 0)
    (λ e. absurd (s.0 (eqb-true n 0 e)))
    (λ e. let z = eqb-false n 0 e in (omega (arith, s.2), omega (arith, s.1, s.2)))

-- ---- fuel does not matter

fuel_any : (k m : ℕ) (bytes : List ℕ) → length bytes ≤ k → length bytes ≤ m → fields_in k bytes ≡ fields_in m bytes
unfolding fields_in
fuel_any zero zero [] h l = refl
fuel_any zero (suc m) [] h l = refl
fuel_any (suc k) zero [] h l = refl
fuel_any (suc k) (suc m) [] h l = refl
fuel_any zero m (x ∷ xs) h l = absurd (omega arith)
fuel_any (suc k) zero (x ∷ xs) h l = absurd (omega arith)
fuel_any (suc k) (suc m) (x ∷ xs) h l =
    let n = field_size (x ∷ xs) in
    by-test (eqb n 0)
    (λ e. rw e)
    (λ e.
    let fits = size_fits (x ∷ xs) (eqb-false n 0 e) in
    let left : length (drop n (x ∷ xs)) ≡ suc (length xs) - n = length-drop n (x ∷ xs) in
    rw (fuel_any k m (drop n (x ∷ xs)) (omega (arith, fits.0)) (omega (arith, fits.0))))

pub fuel : (k : ℕ) (bytes : List ℕ) → length bytes ≤ k → fields_in k bytes ≡ fields bytes
unfolding fields
fuel k bytes h = fuel_any k (length bytes) bytes h (omega arith)

-- ---- the first field of some bytes

and_then_on_done : (f : Field) (o : Outcome (List Field)) → and_then o (λ fs. Ok (f ∷ fs)) ≡ on_done (λ (fs : List Field). f ∷ fs) o
and_then_on_done f (Err r) = refl
and_then_on_done f (Ok fs) = refl

pub fields_none : fields [] ≡ Ok []
unfolding fields
fields_none = refl

pub fields_first : (bytes : List ℕ) → 0 < length bytes → (field_size bytes ≡ 0 → ⊥)
    → fields bytes ≡ on_done (λ (fs : List Field). take (field_size bytes) bytes ∷ fs) (fields (drop (field_size bytes) bytes))
unfolding fields
fields_first [] h k = absurd (omega arith)
fields_first (x ∷ xs) h k =
    let n = field_size (x ∷ xs) in
    let fits = size_fits (x ∷ xs) k in
    let left : length (drop n (x ∷ xs)) ≡ suc (length xs) - n = length-drop n (x ∷ xs) in
    rw (ne_eqb n 0 k)
    (ap (λ (o : Outcome (List Field)). and_then o (λ fs. Ok (take n (x ∷ xs) ∷ fs))) (fuel (length xs) (drop n (x ∷ xs)) (omega (arith, fits.0)))
    ∙ and_then_on_done (take n (x ∷ xs)) (fields (drop n (x ∷ xs))))

pub fields_unparsed : (bytes : List ℕ) → 0 < length bytes → field_size bytes ≡ 0 → fields bytes ≡ refuse 15
unfolding fields
fields_unparsed [] h k = absurd (omega arith)
fields_unparsed (x ∷ xs) h k = rw k

-- ---- at a byte of a record

some_left : (bam : List ℕ) (at : ℕ) → at < length bam → 0 < length (drop at bam)
some_left bam at h = omega (arith, length-drop at bam)

pub fields_end : (bam : List ℕ) (at : ℕ) → length bam ≤ at → fields (drop at bam) ≡ Ok []
fields_end bam at h = rw (drop_of_length-le bam h) fields_none

pub done_end : (bam : List ℕ) (at : ℕ) → length bam ≤ at → is_done (fields (drop at bam)) ≡ true
done_end bam at h = ap is_done (fields_end bam at h)

module _ (bam : List ℕ) (at n : ℕ) (h : at < length bam) (e : n ≡ field_size (drop at bam)) where
  pub fields_stop : n ≡ 0 → fields (drop at bam) ≡ refuse 15
  fields_stop z = fields_unparsed (drop at bam) (some_left bam at h) (sym e ∙ z)

  pub done_stop : n ≡ 0 → is_done (fields (drop at bam)) ≡ false
  done_stop z = ap is_done (fields_stop z)

  module _ (k : n ≡ 0 → ⊥) where
    some : field_size (drop at bam) ≡ 0 → ⊥
    some z = k (e ∙ z)

    pub fields_step : fields (drop at bam) ≡ on_done (λ (fs : List Field). take n (drop at bam) ∷ fs) (fields (drop (at + n) bam))
    fields_step = rw (← drop-drop n at bam, e) (fields_first (drop at bam) (some_left bam at h) some)

    -- where the next field begins
    pub step_fits : (4 ≤ n) × (at + n ≤ length bam)
    step_fits =
        let fits = size_fits (drop at bam) some in
        (omega (arith, fits.0), omega (arith, fits.1, length-drop at bam))

    pub done_step : is_done (fields (drop at bam)) ≡ is_done (fields (drop (at + n) bam))
    done_step = rw fields_step (same (fields (drop (at + n) bam)))
      where
        same : (o : Outcome (List Field)) → is_done (on_done (λ (fs : List Field). take n (drop at bam) ∷ fs) o) ≡ is_done o
        same (Err r) = refl
        same (Ok fs) = refl

    pub fields_of_step : is_done (fields (drop at bam)) ≡ true → fields_of (drop at bam) ≡ take n (drop at bam) ∷ fields_of (drop (at + n) bam)
    unfolding fields_of
    fields_of_step d = rw fields_step (told (fields (drop (at + n) bam)) (sym done_step ∙ d))
      where
        told : (o : Outcome (List Field)) → is_done o ≡ true
            → or_none (on_done (λ (fs : List Field). take n (drop at bam) ∷ fs) o) ≡ take n (drop at bam) ∷ or_none o
        told (Err r) t = let z : ◌≡◌ {A = ℕ} 0 1 = cc in absurd (omega arith)
        told (Ok fs) t = refl

-- where all fields parse, the one at a byte before the end does
pub done_some : (bam : List ℕ) (at : ℕ) → at < length bam → is_done (fields (drop at bam)) ≡ true → field_size (drop at bam) ≡ 0 → ⊥
done_some bam at h d z =
    let no : is_done (fields (drop at bam)) ≡ false = done_stop bam at (field_size (drop at bam)) h refl z in
    let e : ◌≡◌ {A = Bool} true false = sym d ∙ no in
    let f : ◌≡◌ {A = ℕ} 0 1 = cc in
    absurd (omega arith)

pub fields_of_end : (bam : List ℕ) (at : ℕ) → length bam ≤ at → fields_of (drop at bam) ≡ []
unfolding fields_of
fields_of_end bam at h = rw (fields_end bam at h)

-- ---- what parsing answers

pub fields_done : (bytes : List ℕ) → is_done (fields bytes) ≡ true → fields bytes ≡ Ok (fields_of bytes)
unfolding fields_of
fields_done bytes d = told (fields bytes) d
  where
    told : (o : Outcome (List Field)) → is_done o ≡ true → o ≡ Ok (or_none o)
    told (Err r) t = let z : ◌≡◌ {A = ℕ} 0 1 = cc in absurd (omega arith)
    told (Ok fs) t = refl

pub done_fields : (bytes : List ℕ) (fs : List Field) → fields bytes ≡ Ok fs → (is_done (fields bytes) ≡ true) × (fields_of bytes ≡ fs)
unfolding fields_of
done_fields bytes fs e = (ap is_done e, ap or_none e)

-- a refusal is 15
only_in : (k : ℕ) (bytes : List ℕ) → refuses_only (15 ∷ []) (fields_in k bytes) ≡ true
unfolding fields_in
only_in zero bytes = only_need (15 ∷ []) (is_empty bytes) 15 (Ok []) refl refl
only_in (suc k) [] = refl
only_in (suc k) (x ∷ xs) =
    let n = field_size (x ∷ xs) in
    only_need (15 ∷ []) (not (eqb n 0)) 15 (and_then (fields_in k (drop n (x ∷ xs))) (λ fs. Ok (take n (x ∷ xs) ∷ fs))) refl
    (only_and_then (15 ∷ []) (fields_in k (drop n (x ∷ xs))) (λ fs. Ok (take n (x ∷ xs) ∷ fs)) (only_in k (drop n (x ∷ xs))) (λ fs. refl))

pub only_15 : (bytes : List ℕ) → is_done (fields bytes) ≡ false → fields bytes ≡ refuse 15
unfolding fields
only_15 bytes d = told (fields bytes) d (only_in (length bytes) bytes)
  where
    told : (o : Outcome (List Field)) → is_done o ≡ false → refuses_only (15 ∷ []) o ≡ true → o ≡ refuse 15
    told (Err r) t s = let e : 15 ≡ number r = eqb-true 15 (number r) (sym (or-false (eqb 15 (number r))) ∙ s) in ap Err (sym (refusal_of_number r) ∙ ap refusal (sym e))
    told (Ok fs) t s = let z : ◌≡◌ {A = ℕ} 0 1 = cc in absurd (omega arith)

-- an array takes five bytes before its elements
pub size_array : (bytes : List ℕ) → (field_size bytes ≡ 0 → ⊥) → get_or bytes 2 0 ≡ 66 → 8 ≤ field_size bytes
unfolding value_size
size_array bytes h e =
    let s = size_is bytes h in
    let n = array_size (drop 3 bytes) in
    let is : value_size (get_or bytes 2 0) (drop 3 bytes) ≡ n = rw e in
    ⊎_elim
    (λ (l : 5 ≤ n). omega (arith, s.2))
    (λ (l : n < 5). absurd (s.0 (is ∙ array_least (drop 3 bytes) l)))
    (le_or_lt 5 n)
