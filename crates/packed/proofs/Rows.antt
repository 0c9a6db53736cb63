-- Packed and unpacked SEQ place by place, for the walks: what is at an index of each, and a row that gets one entry or two more.
-- Assumes nothing.
use mathlib.Core.Path.{◌≡◌, refl, sym, ap, ◌∙◌}
use Prim.Native.Nat.{ℕ, zero, suc, ◌+◌, ◌-◌, ◌*◌, ◌/◌, ◌%◌, ◌≤◌, ◌<◌}
use native.Mathlib.Omega.{arith}
use mathlib.Core.Bool.{true}
use mathlib.Core.List.{List, [], ◌∷◌, map}
use lib.ListN.{length, get_or, set, length-map, length-reverse}
use lib.Seq.{ext_get_or}
use lib.Dec.{eqb, ltb}
use borrow.Author.Tests.{eq-eqb, ne_eqb, lt-ltb, le-ltb, ltb-true}
use Rattle.lent.specs.Filled.{over}
use Rattle.lent.specs.Lists.{every, tabulate}
use Rattle.lent.proofs.Reversed.{get_d_reverse}
use Rattle.lent.proofs.Tabulate.{get_d_tabulate, length_tabulate, over_tabulate_more, tabulate_ext}
use Rattle.packed.proofs.Codes.{agree_below, code_of_complement, code_of_letter, code_small, half_reversed, pair_halves}
use Rattle.lent.proofs.Tests.{and_true_l, and_true_r, by-test}
use Rattle.packed.specs.Packed.{bits_reversed, bytes_for, code_at, code_of, complement, half_at, pack, reverse_complement, turn, unpack}
use Rattle.packed.specs.Walks.{letter_at, pair_at, turned_at}

-- ---- a row that is filled from the left

module _ (f : ℕ → ℕ) (out : List ℕ) where
  pub one_more : (row : List ℕ) (k v : ℕ) → row ≡ over (tabulate k f) out → k < length out → v ≡ f k → set row k v ≡ over (tabulate (k + 1) f) out
  one_more row k v e l p = (λ j. set (e j) k (p j)) ∙ over_tabulate_more k f out l

  pub two_more : (row : List ℕ) (k v w : ℕ) → row ≡ over (tabulate k f) out → k + 1 < length out → v ≡ f k → w ≡ f (k + 1)
      → set (set row k v) (k + 1) w ≡ over (tabulate (k + 2) f) out
  two_more row k v w e l p q =
      let sum : k + 1 + 1 ≡ k + 2 = omega arith in
      one_more (set row k v) (k + 1) w (one_more row k v e (omega arith) p) l q ∙ ap (λ (n : ℕ). over (tabulate n f) out) sum

-- ---- the code at a place

pub code_high : (packed : List ℕ) (p k : ℕ) → p ≡ 2 * k → code_at packed p ≡ get_or packed k 0 / 16
code_high packed p k e =
    let half : p / 2 ≡ k = omega (arith, e) in
    rw (eq-eqb (p % 2) 0 (omega (arith, e)), half)

pub code_low : (packed : List ℕ) (p k : ℕ) → p ≡ 2 * k + 1 → code_at packed p ≡ get_or packed k 0 % 16
code_low packed p k e =
    let half : p / 2 ≡ k = omega (arith, e) in
    rw (ne_eqb (p % 2) 0 (λ z. omega (arith, e, z)), half)

-- ---- the reverse complement, place by place

get_d_map : (f : ℕ → ℕ) (xs : List ℕ) (i : ℕ) → i < length xs → get_or (map f xs) i 0 ≡ f (get_or xs i 0)
get_d_map f [] i l = absurd (omega arith)
get_d_map f (x ∷ xs) zero l = refl
get_d_map f (x ∷ xs) (suc i) l = get_d_map f xs i (omega arith)

pub length_turned : (seq : List ℕ) → length (reverse_complement seq) ≡ length seq
unfolding reverse_complement
length_turned seq = length-reverse (map complement seq) ∙ length-map seq complement

pub turned_at_lem : (seq : List ℕ) (i : ℕ) → i < length seq → get_or (reverse_complement seq) i 0 ≡ complement (get_or seq (length seq - 1 - i) 0)
unfolding reverse_complement
turned_at_lem seq i l =
    let n = length-map seq complement in
    let same : length (map complement seq) - i - 1 ≡ length seq - 1 - i = omega (arith, n) in
    get_d_reverse (map complement seq) i 0 (omega (arith, n))
    ∙ ap (λ (k : ℕ). get_or (map complement seq) k 0) same
    ∙ get_d_map complement seq (length seq - 1 - i) (omega arith)

pub turned_list : (seq : List ℕ) → reverse_complement seq ≡ tabulate (length seq) (λ i. complement (get_or seq (length seq - 1 - i) 0))
turned_list seq =
    let f : ℕ → ℕ = λ i. complement (get_or seq (length seq - 1 - i) 0) in
    let long = length_turned seq in
    ext_get_or 0 (reverse_complement seq) (tabulate (length seq) f) (long ∙ sym (length_tabulate (length seq) f))
    (λ (i : ℕ) (l : i < length (reverse_complement seq)).
    let k : i < length seq = omega (arith, l, long) in
    turned_at_lem seq i k ∙ sym (get_d_tabulate (length seq) i f 0 k))

-- ---- unpacked SEQ

pub length_unpack : (n : ℕ) (packed : List ℕ) → length (unpack n packed) ≡ n
unfolding unpack
length_unpack n packed = length_tabulate n (letter_at packed)

pub unpack_at : (n : ℕ) (packed : List ℕ) (i : ℕ) → i < n → get_or (unpack n packed) i 0 ≡ letter_at packed i
unfolding unpack
unpack_at n packed i l = get_d_tabulate n i (letter_at packed) 0 l

pub unpack_turned : (n : ℕ) (packed : List ℕ) → reverse_complement (unpack n packed) ≡ tabulate n (turned_at n packed)
unpack_turned n packed =
    let long = length_unpack n packed in
    let here : ℕ → ℕ = λ i. complement (get_or (unpack n packed) (n - 1 - i) 0) in
    turned_list (unpack n packed)
    ∙ ap (λ (k : ℕ). tabulate k (λ i. complement (get_or (unpack n packed) (k - 1 - i) 0))) long
    ∙ tabulate_ext n here (turned_at n packed)
    (λ (i : ℕ) (l : i < n). ap complement (unpack_at n packed (n - 1 - i) (omega arith)))

-- ---- packed SEQ

-- the half byte of a base, and past the last base
pub half_in : (seq : List ℕ) (p : ℕ) → p < length seq → half_at seq p ≡ code_of (get_or seq p 0)
unfolding half_at
half_in seq p l = rw (lt-ltb p (length seq) l)

pub half_past : (seq : List ℕ) (p : ℕ) → length seq ≤ p → half_at seq p ≡ 0
unfolding half_at
half_past seq p l = rw (le-ltb p (length seq) l)

-- the half byte of a base that is reverse-complemented
pub half_turned : (seq : List ℕ) (p : ℕ) → p < length seq → half_at (reverse_complement seq) p ≡ half_reversed (code_of (get_or seq (length seq - 1 - p) 0))
half_turned seq p l =
    half_in (reverse_complement seq) p (omega (arith, l, length_turned seq))
    ∙ ap code_of (turned_at_lem seq p l) ∙ code_of_complement (get_or seq (length seq - 1 - p) 0)

-- bytes that are bytes
abbrev pub Bytes : List ℕ → Type 0
Bytes packed = (p : ℕ) → get_or packed p 0 < 256

-- by a test of each entry
pub bytes_by_test : (packed : List ℕ) → every (λ b. ltb b 256) packed ≡ true → Bytes packed
bytes_by_test [] e p = omega arith
bytes_by_test (x ∷ xs) e zero = ltb-true x 256 (and_true_l (ltb x 256) (every (λ b. ltb b 256) xs) e)
bytes_by_test (x ∷ xs) e (suc p) = bytes_by_test xs (and_true_r (ltb x 256) (every (λ b. ltb b 256) xs) e) p

pub code_at_small : (packed : List ℕ) → Bytes packed → (p : ℕ) → code_at packed p < 16
code_at_small packed small p =
    by-test (eqb (p % 2) 0)
    (λ e. rw e (omega (arith, small (p / 2))))
    (λ e. rw e (omega arith))

-- the half byte of a packed base that is turned
pub half_of_turned : (n : ℕ) (packed : List ℕ) → Bytes packed → (p : ℕ) → p < n
    → half_at (reverse_complement (unpack n packed)) p ≡ half_reversed (code_at packed (n - 1 - p))
half_of_turned n packed small p l =
    let long = length_unpack n packed in
    half_turned (unpack n packed) p (omega (arith, l, long))
    ∙ ap (λ (k : ℕ). half_reversed (code_of (get_or (unpack n packed) (k - 1 - p) 0))) long
    ∙ ap (λ (x : ℕ). half_reversed (code_of x)) (unpack_at n packed (n - 1 - p) (omega arith))
    ∙ ap half_reversed (code_of_letter (code_at packed (n - 1 - p)) (code_at_small packed small (n - 1 - p)))

-- two codes as a pair that is turned
pub turned_codes : (a b : ℕ) → a < 16 → b < 16 → bits_reversed (16 * a + b) ≡ 16 * half_reversed b + half_reversed a
turned_codes a b p q =
    let low : (16 * a + b) % 16 ≡ b = omega (arith, p, q) in
    let high : (16 * a + b) / 16 ≡ a = omega (arith, p, q) in
    pair_halves (16 * a + b) (omega (arith, p, q)) ∙ (λ j. 16 * half_reversed (low j) + half_reversed (high j))

pub turned_code : (a : ℕ) → a < 16 → bits_reversed a ≡ 16 * half_reversed a + 0
turned_code a p =
    let e : 16 * 0 + a ≡ a = omega arith in
    ap bits_reversed (sym e) ∙ turned_codes 0 a (omega arith) p

-- a packed row, as far as it is written
pub packs_as : (seq : List ℕ) (n : ℕ) → length seq ≡ n → pack seq ≡ tabulate (bytes_for n) (pair_at seq)
unfolding pack
packs_as seq n e = ap (λ (k : ℕ). tabulate (bytes_for k) (pair_at seq)) e

pub turns_as : (n : ℕ) (packed : List ℕ) → turn n packed ≡ tabulate (bytes_for n) (pair_at (reverse_complement (unpack n packed)))
unfolding turn
turns_as n packed = packs_as (reverse_complement (unpack n packed)) n (length_turned (unpack n packed) ∙ length_unpack n packed)

-- ---- one packed byte, as each walk makes it

pub pair_forward : (seq : List ℕ) (i : ℕ) → 2 * i + 1 < length seq → 16 * code_of (get_or seq (2 * i) 0) + code_of (get_or seq (2 * i + 1) 0) ≡ pair_at seq i
pair_forward seq i l =
    let a = half_in seq (2 * i) (omega arith) in
    let b = half_in seq (2 * i + 1) l in
    λ j. 16 * sym a j + sym b j

pub last_forward : (seq : List ℕ) (i k : ℕ) → length seq ≡ 2 * i + 1 → k ≡ 2 * i → code_of (get_or seq k 0) * 16 ≡ pair_at seq i
last_forward seq i k l e =
    let a = half_in seq (2 * i) (omega (arith, l)) in
    let b = half_past seq (2 * i + 1) (omega (arith, l)) in
    ap (λ (p : ℕ). code_of (get_or seq p 0) * 16) e ∙ omega (arith, a, b)

pub pair_backward : (seq : List ℕ) (i k : ℕ) → 2 * i + 1 < length seq → k ≡ length seq - 1 - 2 * i
    → bits_reversed (16 * code_of (get_or seq (k - 1) 0) + code_of (get_or seq k 0)) ≡ pair_at (reverse_complement seq) i
pair_backward seq i k l e =
    let a = half_turned seq (2 * i) (omega arith) in
    let b = half_turned seq (2 * i + 1) l in
    let before : k - 1 ≡ length seq - 1 - (2 * i + 1) = omega (arith, e) in
    turned_codes (code_of (get_or seq (k - 1) 0)) (code_of (get_or seq k 0)) (code_small (get_or seq (k - 1) 0)) (code_small (get_or seq k 0))
    ∙ (λ j. 16 * half_reversed (code_of (get_or seq (e j) 0)) + half_reversed (code_of (get_or seq (before j) 0)))
    ∙ (λ j. 16 * sym a j + sym b j)

pub last_backward : (seq : List ℕ) (i : ℕ) → length seq ≡ 2 * i + 1 → bits_reversed (code_of (get_or seq 0 0)) ≡ pair_at (reverse_complement seq) i
last_backward seq i l =
    let a = half_turned seq (2 * i) (omega (arith, l)) in
    let b = half_past (reverse_complement seq) (2 * i + 1) (omega (arith, l, length_turned seq)) in
    let first : 0 ≡ length seq - 1 - 2 * i = omega (arith, l) in
    turned_code (code_of (get_or seq 0 0)) (code_small (get_or seq 0 0))
    ∙ (λ j. 16 * half_reversed (code_of (get_or seq (first j) 0)) + sym b j)
    ∙ (λ j. 16 * sym a j + half_at (reverse_complement seq) (2 * i + 1))

-- the two halves of a turned pair, over all 256 pairs
high_turned : (b : ℕ) → b < 256 → bits_reversed b / 16 ≡ half_reversed (b % 16)
high_turned b l = agree_below 256 (λ k. bits_reversed k / 16) (λ k. half_reversed (k % 16)) refl b l

low_turned : (b : ℕ) → b < 256 → bits_reversed b % 16 ≡ half_reversed (b / 16)
low_turned b l = agree_below 256 (λ k. bits_reversed k % 16) (λ k. half_reversed (k / 16)) refl b l

module _ (n : ℕ) (packed : List ℕ) (small : Bytes packed) where
  -- byte i of the turned SEQ, from the two codes that it has
  turned_byte : (i a b : ℕ) → 2 * i + 1 < n → code_at packed (n - 1 - 2 * i) ≡ b → code_at packed (n - 1 - (2 * i + 1)) ≡ a
      → bits_reversed (16 * a + b) ≡ pair_at (reverse_complement (unpack n packed)) i
  turned_byte i a b l p q =
      let high = half_of_turned n packed small (2 * i) (omega arith) in
      let low = half_of_turned n packed small (2 * i + 1) l in
      let few-a : a < 16 = omega (arith, code_at_small packed small (n - 1 - (2 * i + 1)), q) in
      let few-b : b < 16 = omega (arith, code_at_small packed small (n - 1 - 2 * i), p) in
      turned_codes a b few-a few-b
      ∙ (λ j. 16 * half_reversed (sym p j) + half_reversed (sym q j))
      ∙ (λ j. 16 * sym high j + sym low j)

  pub turned_even : (i k : ℕ) → 2 * i + 1 < n → n - 1 - 2 * i ≡ 2 * k + 1 → bits_reversed (get_or packed k 0) ≡ pair_at (reverse_complement (unpack n packed)) i
  turned_even i k l e =
      let b = get_or packed k 0 in
      let whole : b ≡ 16 * (b / 16) + b % 16 = omega arith in
      ap bits_reversed whole
      ∙ turned_byte i (b / 16) (b % 16) l (code_low packed (n - 1 - 2 * i) k e) (code_high packed (n - 1 - (2 * i + 1)) k (omega (arith, e)))

  pub turned_odd : (i k : ℕ) → 2 * i + 1 < n → n - 1 - 2 * i ≡ 2 * (k + 1)
      → bits_reversed (get_or packed (k + 1) 0) % 16 * 16 + bits_reversed (get_or packed k 0) / 16 ≡ pair_at (reverse_complement (unpack n packed)) i
  turned_odd i k l e =
      let high = half_of_turned n packed small (2 * i) (omega arith) in
      let low = half_of_turned n packed small (2 * i + 1) l in
      let first : code_at packed (n - 1 - 2 * i) ≡ get_or packed (k + 1) 0 / 16 = code_high packed (n - 1 - 2 * i) (k + 1) e in
      let second : code_at packed (n - 1 - (2 * i + 1)) ≡ get_or packed k 0 % 16 = code_low packed (n - 1 - (2 * i + 1)) k (omega (arith, e)) in
      let swap : half_reversed (get_or packed (k + 1) 0 / 16) * 16 + half_reversed (get_or packed k 0 % 16)
      ≡ 16 * half_reversed (get_or packed (k + 1) 0 / 16) + half_reversed (get_or packed k 0 % 16) = omega arith in
      (λ j. low_turned (get_or packed (k + 1) 0) (small (k + 1)) j * 16 + high_turned (get_or packed k 0) (small k) j)
      ∙ swap
      ∙ (λ j. 16 * half_reversed (sym first j) + half_reversed (sym second j))
      ∙ (λ j. 16 * sym high j + sym low j)

  pub turned_last : (i : ℕ) → n ≡ 2 * i + 1 → bits_reversed (get_or packed 0 0) % 16 * 16 ≡ pair_at (reverse_complement (unpack n packed)) i
  turned_last i e =
      let high = half_of_turned n packed small (2 * i) (omega (arith, e)) in
      let long : length (reverse_complement (unpack n packed)) ≡ n = length_turned (unpack n packed) ∙ length_unpack n packed in
      let low = half_past (reverse_complement (unpack n packed)) (2 * i + 1) (omega (arith, e, long)) in
      let first : code_at packed (n - 1 - 2 * i) ≡ get_or packed 0 0 / 16 = code_high packed (n - 1 - 2 * i) 0 (omega (arith, e)) in
      let swap : half_reversed (get_or packed 0 0 / 16) * 16 ≡ 16 * half_reversed (get_or packed 0 0 / 16) + 0 = omega arith in
      (λ j. low_turned (get_or packed 0 0) (small 0) j * 16)
      ∙ swap
      ∙ (λ j. 16 * half_reversed (sym first j) + sym low j)
      ∙ (λ j. 16 * sym high j + half_at (reverse_complement (unpack n packed)) (2 * i + 1))
