-- A text that was made of headers and fields falls into the same headers and fields. What holds of each byte of a text holds of each byte of its pieces.
-- Assumes nothing.
use mathlib.Core.Path.{◌≡◌, refl, sym, ap, ◌∙◌}
use Prim.Native.Nat.{ℕ, ◌≤◌, ◌<◌}
use native.Mathlib.Omega.{arith}
use mathlib.Core.Bool.{Bool, true, false, not}
use mathlib.Core.List.{List, [], ◌∷◌, ◌++◌, map, append-nil, append_assoc}
use mathlib.Core.Logic.{◌⊎◌, inl, inr, ⊎_elim}
use lib.Dec.{leb, eqb, lit<}
use borrow.Author.Tests.{eqb-true, le-leb, leb-true, ne_eqb, not-true}
use Rattle.lent.specs.Lists.{among, every, is_empty, last_or}
use Rattle.lent.proofs.Tests.{by-test, and_true, and_true_l, and_true_r}
use Rattle.lent.proofs.Lists.{every_append, every_imp}
use Rattle.samtags.specs.Bytes.{comma, semicolon, is_digit, is_ascii}
use Rattle.samtags.specs.Decimal.{is_number, digits}
use Rattle.samtags.specs.Text.{up_to, led_by, closed_by, push}
use Rattle.samtags.specs.Writing.{entries_text}
use Rattle.samtags.specs.Samtags.{led_by_commas}
use Rattle.samtags.proofs.Decimal.{digits_number}

-- no byte of xs is c
abbrev pub lacks : ℕ → List ℕ → Bool
lacks c xs = every (λ x. not (eqb x c)) xs

pub head_lacks : (c x : ℕ) (xs : List ℕ) → lacks c (x ∷ xs) ≡ true → eqb x c ≡ false
head_lacks c x xs e = not-true (eqb x c) (and_true_l (not (eqb x c)) (lacks c xs) e)

pub tail_lacks : (c x : ℕ) (xs : List ℕ) → lacks c (x ∷ xs) ≡ true → lacks c xs ≡ true
tail_lacks c x xs e = and_true_r (not (eqb x c)) (lacks c xs) e

-- ---- behind bytes that are no c

pub up_to_append : (c : ℕ) (xs ys : List ℕ) → lacks c xs ≡ true → up_to c (xs ++ ys) ≡ xs ++ up_to c ys
up_to_append c [] ys h = refl
up_to_append c (x ∷ xs) ys h = rw (head_lacks c x xs h) (ap (λ (r : List ℕ). x ∷ r) (up_to_append c xs ys (tail_lacks c x xs h)))

pub led_by_append : (c : ℕ) (xs ys : List ℕ) → lacks c xs ≡ true → led_by c (xs ++ ys) ≡ led_by c ys
led_by_append c [] ys h = refl
led_by_append c (x ∷ xs) ys h = rw (head_lacks c x xs h) (led_by_append c xs ys (tail_lacks c x xs h))

pub closed_by_append : (xs ys : List ℕ) → lacks semicolon xs ≡ true → closed_by semicolon (xs ++ semicolon ∷ ys) ≡ xs ∷ closed_by semicolon ys
closed_by_append [] ys h = refl
closed_by_append (x ∷ xs) ys h = rw (head_lacks semicolon x xs h, closed_by_append xs ys (tail_lacks semicolon x xs h))

-- ---- a number's bytes are neither ',' nor ';', and are ASCII

digit_not : (c x : ℕ) → (c < 48) ⊎ (57 < c) → is_digit x ≡ true → not (eqb x c) ≡ true
unfolding is_digit
digit_not c x o e =
    let lo : 48 ≤ x = leb-true 48 x (and_true_l (leb 48 x) (leb x 57) e) in
    let hi : x ≤ 57 = leb-true x 57 (and_true_r (leb 48 x) (leb x 57) e) in
    rw (ne_eqb x c (λ q. ⊎_elim (λ l. omega arith) (λ l. omega arith) o))

number_digits : (f : List ℕ) → is_number f ≡ true → every is_digit f ≡ true
unfolding is_number
number_digits f h = and_true_r (not (is_empty f)) (every is_digit f) h

number_lacks : (c : ℕ) (f : List ℕ) → (c < 48) ⊎ (57 < c) → is_number f ≡ true → lacks c f ≡ true
number_lacks c f o h = every_imp is_digit (λ x. not (eqb x c)) (λ x e. digit_not c x o e) f (number_digits f h)

number_lacks_comma : (f : List ℕ) → is_number f ≡ true → lacks comma f ≡ true
number_lacks_comma f = number_lacks comma f (inl (lit< tt))

number_lacks_semi : (f : List ℕ) → is_number f ≡ true → lacks semicolon f ≡ true
number_lacks_semi f = number_lacks semicolon f (inr (lit< tt))

digit_ascii : (x : ℕ) → is_digit x ≡ true → is_ascii x ≡ true
unfolding is_digit
digit_ascii x e = let hi : x ≤ 57 = leb-true x 57 (and_true_r (leb 48 x) (leb x 57) e) in le-leb x 127 (omega arith)

-- ---- a header and its fields, each led by a comma

up_to_fields : (fs : List (List ℕ)) → up_to comma (led_by_commas fs) ≡ []
up_to_fields [] = refl
up_to_fields (f ∷ fs) = refl

led_by_fields : (fs : List (List ℕ)) → every is_number fs ≡ true → led_by comma (led_by_commas fs) ≡ fs
led_by_fields [] n = refl
led_by_fields (f ∷ fs) n =
    let one = number_lacks_comma f (and_true_l (is_number f) (every is_number fs) n) in
    rw (up_to_append comma f (led_by_commas fs) one, led_by_append comma f (led_by_commas fs) one, up_to_fields fs, append-nil f, led_by_fields fs (and_true_r (is_number f) (every is_number fs) n))

fields_lack_semi : (fs : List (List ℕ)) → every is_number fs ≡ true → lacks semicolon (led_by_commas fs) ≡ true
fields_lack_semi [] n = refl
fields_lack_semi (f ∷ fs) n =
    rw (every_append (λ x. not (eqb x semicolon)) f (led_by_commas fs), number_lacks_semi f (and_true_l (is_number f) (every is_number fs) n), fields_lack_semi fs (and_true_r (is_number f) (every is_number fs) n))

pub fields_ascii : (fs : List (List ℕ)) → every is_number fs ≡ true → every is_ascii (led_by_commas fs) ≡ true
fields_ascii [] n = refl
fields_ascii (f ∷ fs) n =
    rw (
      every_append is_ascii f (led_by_commas fs),
      every_imp is_digit is_ascii digit_ascii f (number_digits f (and_true_l (is_number f) (every is_number fs) n)),
      fields_ascii fs (and_true_r (is_number f) (every is_number fs) n),
    )

module _ (h : List ℕ) (fs : List (List ℕ)) (numbers : every is_number fs ≡ true) where
  pub header_of : lacks comma h ≡ true → up_to comma (h ++ led_by_commas fs) ≡ h
  header_of l = rw (up_to_append comma h (led_by_commas fs) l, up_to_fields fs, append-nil h)

  pub fields_of : lacks comma h ≡ true → led_by comma (h ++ led_by_commas fs) ≡ fs
  fields_of l = rw (led_by_append comma h (led_by_commas fs) l) (led_by_fields fs numbers)

  pub group_of : (rest : List ℕ) → lacks semicolon h ≡ true
      → closed_by semicolon (h ++ led_by_commas fs ++ semicolon ∷ [] ++ rest) ≡ (h ++ led_by_commas fs) ∷ closed_by semicolon rest
  group_of rest l =
      rw (append_assoc (h ++ led_by_commas fs) (semicolon ∷ []) rest)
      (closed_by_append (h ++ led_by_commas fs) rest
      (rw (every_append (λ x. not (eqb x semicolon)) h (led_by_commas fs), l) (fields_lack_semi fs numbers)))

  pub group_ascii : every is_ascii h ≡ true → every is_ascii (h ++ led_by_commas fs ++ semicolon ∷ []) ≡ true
  group_ascii a =
      rw (every_append is_ascii (h ++ led_by_commas fs) (semicolon ∷ []), every_append is_ascii h (led_by_commas fs), a, fields_ascii fs numbers)

-- ---- what is written is such a text

pub entries_fields : (ns : List ℕ) → entries_text ns ≡ led_by_commas (map digits ns)
entries_fields [] = refl
entries_fields (n ∷ ns) = ap (λ (r : List ℕ). comma ∷ digits n ++ r) (entries_fields ns)

pub digits_numbers : (ns : List ℕ) → every is_number (map digits ns) ≡ true
digits_numbers [] = refl
digits_numbers (n ∷ ns) = rw (digits_number n) (digits_numbers ns)

-- ---- what holds of each byte of a text holds of each byte of its pieces, and of a byte in it

pub among_every : (t : ℕ → Bool) (xs : List ℕ) (b : ℕ) → every t xs ≡ true → among xs b ≡ true → t b ≡ true
among_every t [] b h e = cc
among_every t (x ∷ xs) b h e =
    by-test (eqb x b)
    (λ s. ap t (sym (eqb-true x b s)) ∙ and_true_l (t x) (every t xs) h)
    (λ s. among_every t xs b (and_true_r (t x) (every t xs) h) (rw s at e))

pub up_to_every : (t : ℕ → Bool) (c : ℕ) (xs : List ℕ) → every t xs ≡ true → every t (up_to c xs) ≡ true
up_to_every t c [] h = refl
up_to_every t c (x ∷ xs) h =
    by-test (eqb x c)
    (λ e. rw e)
    (λ e. rw e (and_true (t x) (every t (up_to c xs)) (and_true_l (t x) (every t xs) h) (up_to_every t c xs (and_true_r (t x) (every t xs) h))))

pub up_to_lacks : (c : ℕ) (xs : List ℕ) → lacks c (up_to c xs) ≡ true
up_to_lacks c [] = refl
up_to_lacks c (x ∷ xs) = by-test (eqb x c) (λ e. rw e) (λ e. rw (e, e, up_to_lacks c xs))

push_every : (t : ℕ → Bool) (x : ℕ) (ps : List (List ℕ)) → t x ≡ true → every (every t) ps ≡ true → every (every t) (push x ps) ≡ true
push_every t x [] h k = refl
push_every t x (p ∷ ps) h k = rw h k

pub closed_by_every : (t : ℕ → Bool) (c : ℕ) (xs : List ℕ) → every t xs ≡ true → every (every t) (closed_by c xs) ≡ true
closed_by_every t c [] h = refl
closed_by_every t c (x ∷ xs) h =
    let r = closed_by_every t c xs (and_true_r (t x) (every t xs) h) in
    by-test (eqb x c) (λ e. rw e r) (λ e. rw e (push_every t x (closed_by c xs) (and_true_l (t x) (every t xs) h) r))

pub closed_by_lacks : (c : ℕ) (xs : List ℕ) → every (lacks c) (closed_by c xs) ≡ true
closed_by_lacks c [] = refl
closed_by_lacks c (x ∷ xs) =
    by-test (eqb x c)
    (λ e. rw e (closed_by_lacks c xs))
    (λ e. rw e (push_every (λ y. not (eqb y c)) x (closed_by c xs) (rw e) (closed_by_lacks c xs)))

push_some : (x : ℕ) (ps : List (List ℕ)) → is_empty (push x ps) ≡ is_empty ps
push_some x [] = refl
push_some x (p ∷ ps) = refl

closed_by_last : (c d : ℕ) (xs : List ℕ) → eqb (last_or d xs) c ≡ true → eqb d c ≡ false → is_empty (closed_by c xs) ≡ false
closed_by_last c d [] h k = cc
closed_by_last c d (x ∷ xs) h k = by-test (eqb x c) (λ e. rw e) (λ e. rw (e, push_some) (closed_by_last c x xs h e))

-- a text that ends in ';' has a group
pub closed_by_some : (xs : List ℕ) → eqb (last_or 0 xs) semicolon ≡ true → is_empty (closed_by semicolon xs) ≡ false
closed_by_some xs h = closed_by_last semicolon 0 xs h refl
