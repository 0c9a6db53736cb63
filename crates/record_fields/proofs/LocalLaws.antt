-- The size of a field is found in the field's own bytes: what follows them does not matter.
-- Assumes nothing.
use mathlib.Core.Path.{◌≡◌, refl, sym, ap, ◌∙◌}
use mathlib.Core.Bool.{Bool, true, false, cond, not}
use Prim.Native.Nat.{ℕ, ◌+◌, ◌≤◌, ◌<◌}
use native.Mathlib.Omega.{arith}
use mathlib.Core.Logic.{⊎_elim}
use mathlib.Core.List.{List, [], ◌∷◌, ◌++◌}
use lib.Dec.{eqb}
use lib.ListN.{get_or-append, drop, get_or, length, length-append, length-drop, take, take-append-drop}
use lib.Seq.{drop-append-le, length-take-le}
use borrow.Author.Tests.{eq-eqb, eqb-false, eqb-true, le-leb, lt-leb, ne_eqb, not-true}
use Rattle.lent.proofs.Lists.{any_append}
use Rattle.lent.proofs.Numbers.{le_or_lt}
use Rattle.lent.proofs.Tests.{and_true_l, and_true_r, by-test}
use Rattle.lent.specs.Lists.{among}
use Rattle.samtags.specs.Bytes.{ascii}
use Rattle.samtags.specs.Text.{up_to}
use Rattle.record_fields.proofs.FieldsLaws.{size_fits, size_is}
use Rattle.record_fields.proofs.SizeLaws.{array_least, array_some, in_fits, size_in}
use Rattle.record_fields.specs.Fields.{array_size, field_size, fixed_size, is_field, text_size, value_size}

-- ---- a text

-- the NUL is in the front
text_in : (xs ys : List ℕ) → among xs 0 ≡ true → text_size (xs ++ ys) ≡ text_size xs
text_in [] ys h = let z : ◌≡◌ {A = ℕ} 0 1 = cc in absurd (omega arith)
text_in (x ∷ xs) ys h =
    by-test (eqb x 0)
    (λ e. rw e)
    (λ e.
    let h' : among xs 0 ≡ true = rw e at h in
    let both : among (xs ++ ys) 0 ≡ true = rw (any_append (λ m. eqb m 0) xs ys, h') in
    let rest : length (up_to 0 (xs ++ ys)) + 1 ≡ length (up_to 0 xs) + 1 = rw (both, h') at (text_in xs ys h') in
    rw (e, both, h') (omega arith))

-- the NUL, if there is one, is behind the front
text_out : (xs ys : List ℕ) → among xs 0 ≡ false → text_size (xs ++ ys) ≤ length xs → text_size (xs ++ ys) ≡ 0
text_out xs ys h l = by-test (among (xs ++ ys) 0) (λ e. absurd (let t : text_size (xs ++ ys) ≡ length (up_to 0 (xs ++ ys)) + 1 = rw e in omega (arith, far xs ys h))) (λ e. rw e)
  where
    far : (xs ys : List ℕ) → among xs 0 ≡ false → length xs ≤ length (up_to 0 (xs ++ ys))
    far [] ys h = omega arith
    far (x ∷ xs) ys h =
        by-test (eqb x 0)
        (λ e. let z : true ≡ false = rw e at h in let f : ◌≡◌ {A = ℕ} 0 1 = cc in absurd (omega arith))
        (λ e. let h' : among xs 0 ≡ false = rw e at h in rw e (omega (arith, far xs ys h')))

-- ---- an array

-- the head of the array is in the front
array_in : (xs ys : List ℕ) → 5 ≤ length xs → array_size (xs ++ ys) ≡ array_size xs
array_in xs ys h =
    rw (
      get_or-append xs ys 0 0 (omega arith),
      get_or-append xs ys 0 (1 + 0) (omega arith),
      get_or-append xs ys 0 (1 + 1) (omega arith),
      get_or-append xs ys 0 (1 + 2) (omega arith),
      get_or-append xs ys 0 (1 + 2 + 1) (omega arith),
      length-append xs ys,
      le-leb 5 (length xs) h,
      le-leb 5 (length xs + length ys) (omega arith),
    )

-- ---- a value

-- by its type: an array, a text, or a value of fixed size
module _ (P : (List ℕ → ℕ) → Type 0) (array : P array_size) (text : P text_size) (fixed : (n : ℕ) → P (λ xs. n)) where
  by_type : (t : ℕ) → P (value_size t)
  unfolding value_size
  by_type t = pick (eqb t 66) (among (ascii "ZH") t)
    where
      pick : (a z : Bool) → P (λ xs. cond a (array_size xs) (cond z (text_size xs) (fixed_size t)))
      pick true z = array
      pick false true = text
      pick false false = fixed (fixed_size t)

-- the value is in the front
value_in : (t : ℕ) (xs ys : List ℕ) → (value_size t xs ≡ 0 → ⊥) → value_size t (xs ++ ys) ≡ value_size t xs
value_in t xs ys =
    by_type (λ size. (size xs ≡ 0 → ⊥) → size (xs ++ ys) ≡ size xs)
    (λ h. array_in xs ys (array_some xs h))
    (λ h. by-test (among xs 0) (λ e. text_in xs ys e) (λ e. absurd (h (rw e))))
    (λ n h. refl)
    t

value_back : (t : ℕ) (xs ys : List ℕ) → value_size t (xs ++ ys) ≤ length xs → value_size t xs ≡ value_size t (xs ++ ys)
value_back t xs ys =
    by_type (λ size. size (xs ++ ys) ≤ length xs → size xs ≡ size (xs ++ ys))
    (λ h.
    ⊎_elim
    (λ (l : 5 ≤ length xs). sym (array_in xs ys l))
    (λ (l : length xs < 5). short l ∙ sym (array_least (xs ++ ys) (omega arith)))
    (le_or_lt 5 (length xs)))
    (λ h. by-test (among xs 0) (λ e. sym (text_in xs ys e)) (λ e. rw e (sym (text_out xs ys e h))))
    (λ n h. refl)
    t
  where
    short : length xs < 5 → array_size xs ≡ 0
    short l = rw (lt-leb 5 (length xs) l)

-- ---- a field

pub sized : (bytes : List ℕ) → field_size bytes ≡ size_in (length bytes) (value_size (get_or bytes 2 0) (drop 3 bytes))
unfolding field_size
sized bytes = refl

value_of : (f rest : List ℕ) → 3 ≤ length f
    → value_size (get_or (f ++ rest) 2 0) (drop 3 (f ++ rest)) ≡ value_size (get_or f 2 0) (drop 3 f ++ rest)
value_of f rest h = rw (get_or-append f rest 0 2 (omega arith), drop-append-le 3 f rest h)

-- what follows a field does not change its size
pub size_before : (f rest : List ℕ) → (field_size f ≡ 0 → ⊥) → field_size (f ++ rest) ≡ field_size f
size_before f rest h =
    let s = size_is f h in
    let n = value_size (get_or f 2 0) (drop 3 f) in
    let same : value_size (get_or (f ++ rest) 2 0) (drop 3 (f ++ rest)) ≡ n =
    value_of f rest (omega (arith, s.1)) ∙ value_in (get_or f 2 0) (drop 3 f) rest s.0 in
    sized (f ++ rest)
    ∙ rw same (in_fits (length (f ++ rest)) n s.0 (omega (arith, s.1, length-append f rest)))
    ∙ sym s.2

-- and a field's own bytes are all that it takes to find it
pub size_back : (f rest : List ℕ) → (field_size (f ++ rest) ≡ 0 → ⊥) → field_size (f ++ rest) ≤ length f → field_size f ≡ field_size (f ++ rest)
size_back f rest h l =
    let s = size_is (f ++ rest) h in
    let n = value_size (get_or f 2 0) (drop 3 f) in
    let m = value_size (get_or (f ++ rest) 2 0) (drop 3 (f ++ rest)) in
    let long : 3 + m ≤ length f = omega (arith, s.2) in
    let is : m ≡ value_size (get_or f 2 0) (drop 3 f ++ rest) = value_of f rest (omega arith) in
    let same : n ≡ m = value_back (get_or f 2 0) (drop 3 f) rest (omega (arith, length-drop 3 f)) ∙ sym is in
    sized f ∙ rw same (in_fits (length f) m s.0 long) ∙ sym s.2

-- ---- one field

pub is_field_size : (f : List ℕ) → is_field f ≡ true → (field_size f ≡ 0 → ⊥) × (field_size f ≡ length f)
unfolding is_field
is_field_size f h = (
  eqb-false (field_size f) 0 (not-true (eqb (field_size f) 0) (and_true_l (not (eqb (field_size f) 0)) (eqb (field_size f) (length f)) h)),
  eqb-true (field_size f) (length f) (and_true_r (not (eqb (field_size f) 0)) (eqb (field_size f) (length f)) h),
)

pub size_is_field : (f : List ℕ) → (field_size f ≡ 0 → ⊥) → field_size f ≡ length f → is_field f ≡ true
unfolding is_field
size_is_field f h e = rw (ne_eqb (field_size f) 0 h, eq-eqb (field_size f) (length f) e)

-- the first bytes of some bytes, as many as their field takes, are a field
pub front_is_field : (bytes : List ℕ) → (field_size bytes ≡ 0 → ⊥) → is_field (take (field_size bytes) bytes) ≡ true
front_is_field bytes h =
    let n = field_size bytes in
    let f = take n bytes in
    let fits = size_fits bytes h in
    let long : length f ≡ n = length-take-le n bytes fits.1 in
    let whole : f ++ drop n bytes ≡ bytes = take-append-drop n bytes in
    let size : field_size (f ++ drop n bytes) ≡ n = ap field_size whole in
    let same : field_size f ≡ n = size_back f (drop n bytes) (λ z. h (sym size ∙ z)) (omega arith) ∙ size in
    size_is_field f (λ z. h (sym same ∙ z)) (same ∙ sym long)
