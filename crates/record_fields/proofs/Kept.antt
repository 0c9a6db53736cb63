-- What a field's type says of its bytes, and fields that are made of the front of another field: a text, an array of bytes and a number of 32 bits.
-- Assumes nothing.
use mathlib.Core.Path.{◌≡◌, refl, sym, ap, ◌∙◌}
use mathlib.Core.Bool.{true, false}
use Prim.Native.Nat.{ℕ, suc, ◌+◌, ◌*◌, ◌-◌, ◌/◌, ◌%◌, ◌≤◌, ◌<◌}
use native.Mathlib.Nat.{div-div-eq-div-mul}
use native.Mathlib.Omega.{arith}
use mathlib.Core.List.{List, [], ◌∷◌, ◌++◌, append_assoc}
use lib.Dec.{eqb, leb}
use lib.ListN.{get_or-append, drop, get_or, length, length-append, length-drop, length-take, take, take-append-drop}
use lib.Seq.{drop_at, get_or-append_seam, get_or-take, length-take-le}
use borrow.Author.Tests.{eqb-true, le-leb}
use Rattle.lent.proofs.Lists.{any_append, empty_of_length, take_more}
use Rattle.lent.proofs.Tests.{by-test}
use Rattle.lent.specs.Lists.{among}
use Rattle.samtags.specs.Text.{up_to}
use Rattle.record_fields.proofs.FieldsLaws.{size_is}
use Rattle.record_fields.proofs.LocalLaws.{is_field_size, size_is_field, sized}
use Rattle.record_fields.proofs.SizeLaws.{array_sized, array_some, in_fits}
use Rattle.record_fields.specs.Bam.{word, word_bytes}
use Rattle.record_fields.specs.Fields.{array_size, element_size, field_size, is_field, name_of, text_size, value_size}

-- ---- a field by its type

-- three bytes and the value
pub field_length : (f : List ℕ) (t : ℕ) → is_field f ≡ true → get_or f 2 0 ≡ t → (value_size t (drop 3 f) ≡ 0 → ⊥) × (length f ≡ 3 + value_size t (drop 3 f))
field_length f t h e =
    let is = is_field_size f h in
    let s = size_is f is.0 in
    rw (← e) (s.0, sym is.1 ∙ s.2)

module _ (f : List ℕ) (h : is_field f ≡ true) where
  pub length_c : get_or f 2 0 ≡ 99 → length f ≡ 4
  unfolding value_size
  length_c e = (field_length f 99 h e).1

  pub length_C : get_or f 2 0 ≡ 67 → length f ≡ 4
  unfolding value_size
  length_C e = (field_length f 67 h e).1

  pub length_s : get_or f 2 0 ≡ 115 → length f ≡ 5
  unfolding value_size
  length_s e = (field_length f 115 h e).1

  pub length_S : get_or f 2 0 ≡ 83 → length f ≡ 5
  unfolding value_size
  length_S e = (field_length f 83 h e).1

  pub length_i : get_or f 2 0 ≡ 105 → length f ≡ 7
  unfolding value_size
  length_i e = (field_length f 105 h e).1

  pub length_I : get_or f 2 0 ≡ 73 → length f ≡ 7
  unfolding value_size
  length_I e = (field_length f 73 h e).1

-- bytes whose first NUL is their last byte
one_text : (xs : List ℕ) → among xs 0 ≡ true → length xs ≡ length (up_to 0 xs) + 1 → xs ≡ up_to 0 xs ++ 0 ∷ []
one_text [] h l = let z : ◌≡◌ {A = ℕ} 0 1 = cc in absurd (omega arith)
one_text (x ∷ xs) h l =
    by-test (eqb x 0)
    (λ e.
    let l' : length (x ∷ xs) ≡ 0 + 1 = rw e at l in
    let none : xs ≡ [] = empty_of_length xs (omega arith) in
    let z : x ≡ 0 = eqb-true x 0 e in
    rw (none, z))
    (λ e.
    let h' : among xs 0 ≡ true = rw e at h in
    let l' : length (x ∷ xs) ≡ length (x ∷ up_to 0 xs) + 1 = rw e at l in
    rw e (ap (λ (r : List ℕ). x ∷ r) (one_text xs h' (omega arith))))

-- a text: its bytes up to the NUL, which is its last byte
pub text_field : (f : List ℕ) → is_field f ≡ true → get_or f 2 0 ≡ 90
    → (4 ≤ length f) × (length f ≡ 4 + length (up_to 0 (drop 3 f))) × (f ≡ take 3 f ++ (up_to 0 (drop 3 f) ++ 0 ∷ []))
unfolding value_size
text_field f h e =
    let rest = drop 3 f in
    let size = field_length f 90 h e in
    by-test (among rest 0)
    (λ t.
    let is : text_size rest ≡ length (up_to 0 rest) + 1 = rw t in
    let long : length f ≡ 4 + length (up_to 0 rest) = omega (arith, size.1, is) in
    let left : length rest ≡ length (up_to 0 rest) + 1 = omega (arith, length-drop 3 f) in
    (omega arith, long, sym (take-append-drop 3 f) ∙ ap (λ (r : List ℕ). take 3 f ++ r) (one_text rest t left)))
    (λ t. absurd (size.0 (rw t)))

pub text_last : (f : List ℕ) → is_field f ≡ true → get_or f 2 0 ≡ 90 → get_or f (length f - 1) 0 ≡ 0
text_last f h e =
    let is = text_field f h e in
    let text = up_to 0 (drop 3 f) in
    let front = take 3 f ++ text in
    let long : length front ≡ length f - 1 = omega (arith, is.1, length-append (take 3 f) text, length-take-le 3 f (omega (arith, is.0))) in
    let whole : f ≡ front ++ 0 ∷ [] = is.2 ∙ sym (append_assoc (take 3 f) text (0 ∷ [])) in
    ap (λ (i : ℕ). get_or f i 0) (sym long) ∙ ap (λ (l : List ℕ). get_or l (length front) 0) whole ∙ get_or-append_seam front 0 [] 0

-- an array of bytes: its count is how many follow its first eight bytes
pub bytes_field : (f : List ℕ) → is_field f ≡ true → get_or f 2 0 ≡ 66 → get_or f 3 0 ≡ 67 → (8 ≤ length f) × (word f 4 ≡ length f - 8)
unfolding value_size
bytes_field f h e u =
    let size = field_length f 66 h e in
    let long = array_some (drop 3 f) size.0 in
    let one : element_size (get_or f 3 0) ≡ 1 = ap element_size u in
    let is : array_size (drop 3 f) ≡ 5 + word f 4 * element_size (get_or f 3 0) =
    array_sized f 3 (omega (arith, length-drop 3 f)) (λ z. omega arith) in
    let is' : array_size (drop 3 f) ≡ 5 + word f 4 * 1 = rw one at is in
    (omega (arith, length-drop 3 f), omega (arith, size.1))

-- ---- fields that are made

-- three bytes, and a value that takes all that follows
made : (front value : List ℕ) → length front ≡ 3 → value_size (get_or front 2 0) value ≡ length value → (length value ≡ 0 → ⊥) → is_field (front ++ value) ≡ true
made front value h v some =
    let n = length value in
    let all : length (front ++ value) ≡ 3 + n = rw (length-append front value, h) in
    let is : value_size (get_or (front ++ value) 2 0) (drop 3 (front ++ value)) ≡ n =
    rw (get_or-append front value 0 2 (omega arith), drop_at front value 3 h) v in
    let size : field_size (front ++ value) ≡ 3 + n = sized (front ++ value) ∙ rw is (in_fits (length (front ++ value)) n some (omega arith)) in
    size_is_field (front ++ value) (λ z. omega arith) (size ∙ sym all)

type_kept : (f : List ℕ) → 3 ≤ length f → (length (take 3 f) ≡ 3) × (get_or (take 3 f) 2 0 ≡ get_or f 2 0)
type_kept f h = (length-take-le 3 f h, get_or-take 3 f 2 0 (omega arith))

up_to_nul : (text : List ℕ) → among text 0 ≡ false → text_size (text ++ 0 ∷ []) ≡ length text + 1
up_to_nul text h =
    let seen : among (text ++ 0 ∷ []) 0 ≡ true = rw (any_append (λ m. eqb m 0) text (0 ∷ []), h) in
    rw (seen, front text h)
  where
    front : (xs : List ℕ) → among xs 0 ≡ false → up_to 0 (xs ++ 0 ∷ []) ≡ xs
    front [] q = refl
    front (x ∷ xs) q =
        by-test (eqb x 0)
        (λ e. let z : true ≡ false = rw e at q in let w : ◌≡◌ {A = ℕ} 0 1 = cc in absurd (omega arith))
        (λ e. let q' : among xs 0 ≡ false = rw e at q in rw e (ap (λ (r : List ℕ). x ∷ r) (front xs q')))

-- a text behind the front of a text
pub text_made : (f text : List ℕ) → 3 ≤ length f → get_or f 2 0 ≡ 90 → among text 0 ≡ false → is_field (take 3 f ++ text ++ 0 ∷ []) ≡ true
unfolding value_size
text_made f text h e q =
    let kept = type_kept f h in
    let long : length (text ++ 0 ∷ []) ≡ length text + 1 = length-append text (0 ∷ []) in
    rw (append_assoc (take 3 f) text (0 ∷ []))
    (made (take 3 f) (text ++ 0 ∷ []) kept.0 (rw (kept.1, e) (up_to_nul text q ∙ sym long)) (λ z. omega arith))

-- a word of four bytes
pub word_of_bytes : (n : ℕ) → n < 4294967296 → n % 256 + 256 * (n / 256 % 256) + 65536 * (n / 65536 % 256 + 256 * (n / 16777216 % 256)) ≡ n
word_of_bytes n h =
    let two : n / 256 / 256 ≡ n / 65536 = div-div-eq-div-mul n 256 256 in
    let three : n / 65536 / 256 ≡ n / 16777216 = div-div-eq-div-mul n 65536 256 in
    rw (← three, ← two) (four_digits n (n / 256) (n / 256 / 256) refl refl h)
  where
    four_digits : (a b c : ℕ) → b ≡ a / 256 → c ≡ b / 256 → a < 4294967296 → a % 256 + 256 * (b % 256) + 65536 * (c % 256 + 256 * (c / 256 % 256)) ≡ a
    four_digits a b c p q l = omega arith

-- bytes behind the front of an array of bytes
pub bytes_made : (f vs : List ℕ) → 4 ≤ length f → get_or f 2 0 ≡ 66 → get_or f 3 0 ≡ 67 → length vs < 4294967296
    → is_field (take 4 f ++ word_bytes (length vs) ++ vs) ≡ true
unfolding value_size
bytes_made f vs h e u l =
    let kept = type_kept f (omega arith) in
    let n = length vs in
    let value = get_or f 3 0 ∷ (word_bytes n ++ vs) in
    let four : take 4 f ≡ take 3 f ++ get_or f 3 0 ∷ [] = take_more f 3 0 (omega arith) in
    let long = suc (suc (suc (suc (suc n)))) in
    let five : 5 + n * 1 ≡ long = omega arith in
    let all : leb 5 long ≡ true = le-leb 5 long (omega arith) in
    let size : array_size (67 ∷ (word_bytes n ++ vs)) ≡ long = rw all (ap (λ (k : ℕ). 5 + k * 1) (word_of_bytes n l) ∙ five) in
    let whole : take 4 f ++ word_bytes n ++ vs ≡ take 3 f ++ value =
    append_assoc (take 4 f) (word_bytes n) vs ∙ ap (λ (r : List ℕ). r ++ (word_bytes n ++ vs)) four ∙ append_assoc (take 3 f) (get_or f 3 0 ∷ []) (word_bytes n ++ vs) in
    rw whole (made (take 3 f) value kept.0 (rw (kept.1, e, u) size) (λ z. omega arith))

-- a number of 32 bits behind a name
pub number_made : (f : List ℕ) (n : ℕ) → 2 ≤ length f → is_field (take 2 f ++ 105 ∷ word_bytes n) ≡ true
unfolding value_size
number_made f n h =
    let two : length (take 2 f) ≡ 2 = length-take-le 2 f h in
    let front = take 2 f ++ 105 ∷ [] in
    let three : length front ≡ 3 = length-append (take 2 f) (105 ∷ []) ∙ ap (λ (k : ℕ). k + 1) two in
    let kind : get_or front 2 0 ≡ 105 = ap (λ (i : ℕ). get_or front i 0) (sym two) ∙ get_or-append_seam (take 2 f) 105 [] 0 in
    rw (← append_assoc (take 2 f) (105 ∷ []) (word_bytes n))
    (made front (word_bytes n) three (rw kind) (λ z. omega arith))

-- ---- the name stays

pub name_kept : (f rest : List ℕ) (n : ℕ) → 2 ≤ n → 2 ≤ length f → name_of (take n f ++ rest) ≡ name_of f
unfolding name_of
name_kept f rest n h l =
    let long = length-take n f in
    rw (
      get_or-append (take n f) rest 0 0 (omega arith),
      get_or-append (take n f) rest 0 1 (omega arith),
      get_or-take n f 0 0 (omega arith),
      get_or-take n f 1 0 (omega arith),
    )
