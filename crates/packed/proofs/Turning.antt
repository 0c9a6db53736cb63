-- Packed SEQ in both directions: packing gives back what unpacking read, turning twice gives back the bases, and a stored read gives back what was stored.
-- Assumes nothing.
use mathlib.Core.Path.{◌≡◌, refl, sym, ap, ◌∙◌}
use Prim.Native.Nat.{ℕ, zero, suc, ◌+◌, ◌-◌, ◌*◌, ◌/◌, ◌%◌, ◌≤◌, ◌<◌}
use native.Mathlib.Omega.{arith}
use mathlib.Core.Bool.{Bool, true, false}
use mathlib.Core.List.{List, [], ◌∷◌, ◌++◌, append-nil}
use mathlib.Core.Logic.{⊎_elim}
use lib.ListN.{length, get_or, take, drop, length-append, get_or-append}
use lib.Seq.{drop-nil, ext_get_or, get_or_at, get_or-take, length-take-le}
use lib.Dec.{eqb}
use borrow.Author.Tests.{eqb-true}
use Rattle.lent.specs.Filled.{over}
use Rattle.lent.specs.Lists.{among, every, tabulate}
use Rattle.lent.proofs.Filled.{over_front, over_past}
use Rattle.lent.proofs.Numbers.{le_or_lt}
use Rattle.lent.proofs.Tabulate.{get_d_tabulate, length_tabulate, tabulate_ext, tabulate_get_d}
use Rattle.lent.proofs.Tests.{and_true, and_true_l, and_true_r, by-test}
use Rattle.samtags.proofs.Text.{among_every}
use Rattle.samtags.specs.Bytes.{letter_n}
use Rattle.samtags.specs.Session.{mask_from, masked, window}
use Rattle.packed.proofs.Codes.{code_of_letter, code_small}
use Rattle.packed.proofs.Rows.{Bytes, code_at_small, code_high, code_low, half_in, half_past, length_turned, length_unpack, turned_at_lem, unpack_at}
use Rattle.packed.specs.Packed.{bytes_for, code_at, code_of, complement, complements, half_at, letter_of, letters, pack, reverse_complement, turn, unpack}
use Rattle.packed.specs.Stored.{as_stored, in_read}
use Rattle.packed.specs.Walks.{letter_at, pair_at}

-- ---- tests at each place of a list

pub every_get_d : (t : ℕ → Bool) (xs : List ℕ) → ((i : ℕ) → i < length xs → t (get_or xs i 0) ≡ true) → every t xs ≡ true
every_get_d t [] h = refl
every_get_d t (x ∷ xs) h =
    and_true (t x) (every t xs) (h 0 (omega arith)) (every_get_d t xs (λ (i : ℕ) (l : i < length xs). h (suc i) (omega (arith, l))))

pub every_at : (t : ℕ → Bool) (xs : List ℕ) → every t xs ≡ true → (i : ℕ) → i < length xs → t (get_or xs i 0) ≡ true
every_at t [] h i l = absurd (omega arith)
every_at t (x ∷ xs) h zero l = and_true_l (t x) (every t xs) h
every_at t (x ∷ xs) h (suc i) l = every_at t xs (and_true_r (t x) (every t xs) h) i (omega arith)

-- a test that each number below n passes
passes_below : (n : ℕ) (t : ℕ → Bool) → tabulate n t ≡ tabulate n (λ k. true) → (k : ℕ) → k < n → t k ≡ true
passes_below n t e k l =
    sym (get_d_tabulate n k t false l) ∙ ap (λ (xs : List Bool). get_or xs k false) e ∙ get_d_tabulate n k (λ k. true) false l

-- ---- the sixteen letters

-- each base is one of the sixteen letters
abbrev pub Letters : List ℕ → Type 0
Letters seq = every (among letters) seq ≡ true

pub letter_among : (c : ℕ) → c < 16 → among letters (letter_of c) ≡ true
letter_among c l = passes_below 16 (λ k. among letters (letter_of k)) refl c l

-- the complement of any byte is a letter
pub complement_among : (x : ℕ) → among letters (complement x) ≡ true
unfolding complement
complement_among x = passes_below 16 (λ k. among letters (get_or complements k 0)) refl (code_of x) (code_small x)

pub letter_of_code : (x : ℕ) → among letters x ≡ true → letter_of (code_of x) ≡ x
unfolding code_of
letter_of_code x e = eqb-true (letter_of (code_of x)) x (among_every (λ y. eqb (letter_of (code_of y)) y) letters x refl e)

pub complement_twice : (x : ℕ) → among letters x ≡ true → complement (complement x) ≡ x
unfolding complement code_of
complement_twice x e = eqb-true (complement (complement x)) x (among_every (λ y. eqb (complement (complement y)) y) letters x refl e)

pub unpacked_letters : (n : ℕ) (packed : List ℕ) → Bytes packed → Letters (unpack n packed)
unpacked_letters n packed small =
    every_get_d (among letters) (unpack n packed) (λ (i : ℕ) (l : i < length (unpack n packed)).
    let k : i < n = omega (arith, l, length_unpack n packed) in
    ap (among letters) (unpack_at n packed i k) ∙ letter_among (code_at packed i) (code_at_small packed small i))

-- whatever the bases were
pub turned_letters : (seq : List ℕ) → Letters (reverse_complement seq)
turned_letters seq =
    every_get_d (among letters) (reverse_complement seq) (λ (i : ℕ) (l : i < length (reverse_complement seq)).
    let k : i < length seq = omega (arith, l, length_turned seq) in
    ap (among letters) (turned_at_lem seq i k) ∙ complement_among (get_or seq (length seq - 1 - i) 0))

pub in_read_letters : (reverse : Bool) (n : ℕ) (packed : List ℕ) → Bytes packed → Letters (in_read reverse n packed)
unfolding in_read
in_read_letters true n packed small = turned_letters (unpack n packed)
in_read_letters false n packed small = unpacked_letters n packed small

-- N is a letter: writing it keeps the bases letters
pub mask_letters : (i : ℕ) (t : ℕ → Bool) (seq : List ℕ) → Letters seq → Letters (mask_from i t seq)
mask_letters i t [] h = refl
mask_letters i t (x ∷ xs) h =
    let rest = mask_letters (suc i) t xs (and_true_r (among letters x) (every (among letters) xs) h) in
    by-test (t i)
    (λ e. rw e (and_true (among letters letter_n) (every (among letters) (mask_from (suc i) t xs)) refl rest))
    (λ e. rw e (and_true (among letters x) (every (among letters) (mask_from (suc i) t xs)) (and_true_l (among letters x) (every (among letters) xs) h) rest))

pub masked_letters : (t : ℕ → Bool) (seq : List ℕ) → Letters seq → Letters (masked t seq)
masked_letters t seq h = mask_letters 0 t seq h

take_letters : (n : ℕ) (seq : List ℕ) → Letters seq → Letters (take n seq)
take_letters zero seq h = refl
take_letters (suc n) [] h = refl
take_letters (suc n) (x ∷ xs) h =
    and_true (among letters x) (every (among letters) (take n xs)) (and_true_l (among letters x) (every (among letters) xs) h)
    (take_letters n xs (and_true_r (among letters x) (every (among letters) xs) h))

drop_letters : (n : ℕ) (seq : List ℕ) → Letters seq → Letters (drop n seq)
drop_letters zero seq h = h
drop_letters (suc n) [] h = refl
drop_letters (suc n) (x ∷ xs) h = drop_letters n xs (and_true_r (among letters x) (every (among letters) xs) h)

pub window_letters : (a n : ℕ) (seq : List ℕ) → Letters seq → Letters (window a n seq)
window_letters a n seq h = take_letters n (drop a seq) (drop_letters a seq h)

-- ---- lengths

pub length_pack : (seq : List ℕ) → length (pack seq) ≡ bytes_for (length seq)
unfolding pack
length_pack seq = length_tabulate (bytes_for (length seq)) (pair_at seq)

pub length_in_read : (reverse : Bool) (n : ℕ) (packed : List ℕ) → length (in_read reverse n packed) ≡ n
unfolding in_read
length_in_read true n packed = length_turned (unpack n packed) ∙ length_unpack n packed
length_in_read false n packed = length_unpack n packed

pub length_as_stored : (reverse : Bool) (seq : List ℕ) → length (as_stored reverse seq) ≡ bytes_for (length seq)
unfolding as_stored
length_as_stored true seq = length_pack (reverse_complement seq) ∙ ap bytes_for (length_turned seq)
length_as_stored false seq = length_pack seq

pub length_turn : (n : ℕ) (packed : List ℕ) → length (turn n packed) ≡ bytes_for n
unfolding turn
length_turn n packed =
    length_pack (reverse_complement (unpack n packed)) ∙ ap bytes_for (length_turned (unpack n packed) ∙ length_unpack n packed)

-- ---- packed bytes

pub half_small : (seq : List ℕ) (p : ℕ) → half_at seq p < 16
half_small seq p =
    ⊎_elim
    (λ (l : length seq ≤ p). let e = half_past seq p l in omega (arith, e))
    (λ (l : p < length seq). let e = half_in seq p l in omega (arith, e, code_small (get_or seq p 0)))
    (le_or_lt (length seq) p)

pub pack_at : (seq : List ℕ) (k : ℕ) → k < bytes_for (length seq) → get_or (pack seq) k 0 ≡ pair_at seq k
unfolding pack
pack_at seq k l = get_d_tabulate (bytes_for (length seq)) k (pair_at seq) 0 l

-- a packed SEQ at the front of its row
pub packed_at : (seq row : List ℕ) (k : ℕ) → k < bytes_for (length seq) → get_or (over (pack seq) row) k 0 ≡ pair_at seq k
unfolding over
packed_at seq row k l =
    get_or-append (pack seq) (drop (length (pack seq)) row) 0 k (omega (arith, l, length_pack seq)) ∙ pack_at seq k l

-- the code at a place is that of the base
pub packed_code : (seq row : List ℕ) (p : ℕ) → p < length seq → code_at (over (pack seq) row) p ≡ code_of (get_or seq p 0)
packed_code seq row p l =
    let k = p / 2 in
    let b = packed_at seq row k (omega (arith, l)) in
    let small = half_small seq (2 * k + 1) in
    ⊎_elim
    (λ (z : p % 2 ≤ 0).
    let e : p ≡ 2 * k = omega (arith, z) in
    let high : (16 * half_at seq (2 * k) + half_at seq (2 * k + 1)) / 16 ≡ half_at seq (2 * k) = omega (arith, small) in
    code_high (over (pack seq) row) p k e ∙ ap (λ (x : ℕ). x / 16) b ∙ high ∙ ap (half_at seq) (sym e) ∙ half_in seq p l)
    (λ (z : 0 < p % 2).
    let e : p ≡ 2 * k + 1 = omega (arith, z) in
    let low : (16 * half_at seq (2 * k) + half_at seq (2 * k + 1)) % 16 ≡ half_at seq (2 * k + 1) = omega (arith, small) in
    code_low (over (pack seq) row) p k e ∙ ap (λ (x : ℕ). x % 16) b ∙ low ∙ ap (half_at seq) (sym e) ∙ half_in seq p l)
    (le_or_lt (p % 2) 0)

-- ---- packed and read again

-- Unpacking gives back the bases that were packed, whatever is past them in the row.
pub unpack_pack : (seq row : List ℕ) → Letters seq → unpack (length seq) (over (pack seq) row) ≡ seq
unfolding unpack
unpack_pack seq row h =
    tabulate_ext (length seq) (letter_at (over (pack seq) row)) (λ i. get_or seq i 0) (λ (i : ℕ) (l : i < length seq).
    ap letter_of (packed_code seq row i l) ∙ letter_of_code (get_or seq i 0) (every_at (among letters) seq h i l))
    ∙ tabulate_get_d seq 0

over_nothing : (xs : List ℕ) → over xs [] ≡ xs
unfolding over
over_nothing xs = ap (λ (r : List ℕ). xs ++ r) (drop-nil (length xs)) ∙ append-nil xs

-- ---- turned twice

pub turned_twice : (seq : List ℕ) → Letters seq → reverse_complement (reverse_complement seq) ≡ seq
turned_twice seq h =
    let there = reverse_complement seq in
    let long = length_turned seq in
    let back = length_turned there in
    ext_get_or 0 (reverse_complement there) seq (back ∙ long) (λ (i : ℕ) (l : i < length (reverse_complement there)).
    let k : i < length seq = omega (arith, l, back, long) in
    let j : length there - 1 - i ≡ length seq - 1 - i = omega (arith, long) in
    let e : length seq - 1 - (length seq - 1 - i) ≡ i = omega (arith, k) in
    turned_at_lem there i (omega (arith, l, back))
    ∙ ap (λ (q : ℕ). complement (get_or there q 0)) j
    ∙ ap complement (turned_at_lem seq (length seq - 1 - i) (omega (arith, k)))
    ∙ ap (λ (q : ℕ). complement (complement (get_or seq q 0))) e
    ∙ complement_twice (get_or seq i 0) (every_at (among letters) seq h i k))

-- A read gives back, in read orientation, the bases that were stored.
pub in_read_stored : (reverse : Bool) (seq row : List ℕ) → Letters seq → in_read reverse (length seq) (over (as_stored reverse seq) row) ≡ seq
unfolding in_read as_stored
in_read_stored true seq row h =
    ap reverse_complement
    (ap (λ (n : ℕ). unpack n (over (pack (reverse_complement seq)) row)) (sym (length_turned seq))
    ∙ unpack_pack (reverse_complement seq) row (turned_letters seq))
    ∙ turned_twice seq h
in_read_stored false seq row h = unpack_pack seq row h

-- Turning packed bases is the reverse complement of the bases.
pub unpack_turn : (n : ℕ) (packed : List ℕ) → unpack n (turn n packed) ≡ reverse_complement (unpack n packed)
unfolding turn
unpack_turn n packed =
    let there = reverse_complement (unpack n packed) in
    let long : n ≡ length there = sym (length_turned (unpack n packed) ∙ length_unpack n packed) in
    (λ j. unpack (long j) (sym (over_nothing (pack there)) j))
    ∙ unpack_pack there [] (turned_letters (unpack n packed))

-- ---- what is packed again

-- the half byte at a place of bases that were unpacked
half_again : (n : ℕ) (packed : List ℕ) → Bytes packed → (p : ℕ) → p < n → half_at (unpack n packed) p ≡ code_at packed p
half_again n packed small p l =
    half_in (unpack n packed) p (omega (arith, l, length_unpack n packed))
    ∙ ap code_of (unpack_at n packed p l)
    ∙ code_of_letter (code_at packed p) (code_at_small packed small p)

-- a byte that holds two bases is that byte
pub again_full : (n : ℕ) (packed : List ℕ) → Bytes packed → (k : ℕ) → 2 * k + 1 < n → get_or (pack (unpack n packed)) k 0 ≡ get_or packed k 0
again_full n packed small k l =
    let high = half_again n packed small (2 * k) (omega (arith, l)) ∙ code_high packed (2 * k) k refl in
    let low = half_again n packed small (2 * k + 1) l ∙ code_low packed (2 * k + 1) k refl in
    let both : 16 * (get_or packed k 0 / 16) + get_or packed k 0 % 16 ≡ get_or packed k 0 = omega arith in
    pack_at (unpack n packed) k (omega (arith, l, length_unpack n packed)) ∙ (λ j. 16 * high j + low j) ∙ both

-- a byte that holds one base has its low half made 0
pub again_half : (n : ℕ) (packed : List ℕ) → Bytes packed → (k : ℕ) → n ≡ 2 * k + 1 → get_or (pack (unpack n packed)) k 0 ≡ get_or packed k 0 / 16 * 16
again_half n packed small k e =
    let long = length_unpack n packed in
    let high = half_again n packed small (2 * k) (omega (arith, e)) ∙ code_high packed (2 * k) k refl in
    let low = half_past (unpack n packed) (2 * k + 1) (omega (arith, e, long)) in
    let both : 16 * (get_or packed k 0 / 16) + 0 ≡ get_or packed k 0 / 16 * 16 = omega arith in
    pack_at (unpack n packed) k (omega (arith, e, long)) ∙ (λ j. 16 * high j + low j) ∙ both

-- an even number of bases: the bytes that they take
pub pack_unpack_even : (n : ℕ) (packed : List ℕ) → Bytes packed → n % 2 ≡ 0 → bytes_for n ≤ length packed → pack (unpack n packed) ≡ take (n / 2) packed
pack_unpack_even n packed small even room =
    let long : length (pack (unpack n packed)) ≡ n / 2 = omega (arith, even, length_pack (unpack n packed), length_unpack n packed) in
    let front : length (take (n / 2) packed) ≡ n / 2 = length-take-le (n / 2) packed (omega (arith, even, room)) in
    ext_get_or 0 (pack (unpack n packed)) (take (n / 2) packed) (long ∙ sym front) (λ (i : ℕ) (l : i < length (pack (unpack n packed))).
    let k : i < n / 2 = omega (arith, l, long) in
    again_full n packed small i (omega (arith, k)) ∙ sym (get_or-take (n / 2) packed i 0 k))

-- an odd number: the bytes that hold two bases, and the last with its low half 0
pub pack_unpack_odd : (n : ℕ) (packed : List ℕ) → Bytes packed → n % 2 ≡ 1 → bytes_for n ≤ length packed
    → pack (unpack n packed) ≡ take (n / 2) packed ++ get_or packed (n / 2) 0 / 16 * 16 ∷ []
pack_unpack_odd n packed small odd room =
    let last = get_or packed (n / 2) 0 / 16 * 16 in
    let long : length (pack (unpack n packed)) ≡ n / 2 + 1 = omega (arith, odd, length_pack (unpack n packed), length_unpack n packed) in
    let front : length (take (n / 2) packed) ≡ n / 2 = length-take-le (n / 2) packed (omega (arith, odd, room)) in
    let whole : length (take (n / 2) packed ++ last ∷ []) ≡ n / 2 + 1 = length-append (take (n / 2) packed) (last ∷ []) ∙ ap (λ (k : ℕ). k + 1) front in
    ext_get_or 0 (pack (unpack n packed)) (take (n / 2) packed ++ last ∷ []) (long ∙ sym whole) (λ (i : ℕ) (l : i < length (pack (unpack n packed))).
    ⊎_elim
    (λ (k : n / 2 ≤ i).
    let e : i ≡ n / 2 = omega (arith, k, l, long) in
    ap (λ (q : ℕ). get_or (pack (unpack n packed)) q 0) e
    ∙ again_half n packed small (n / 2) (omega (arith, odd))
    ∙ sym (get_or_at (take (n / 2) packed) last [] 0 i (front ∙ sym e)))
    (λ (k : i < n / 2).
    again_full n packed small i (omega (arith, k))
    ∙ sym (get_or-append (take (n / 2) packed) (last ∷ []) 0 i (omega (arith, k, front)) ∙ get_or-take (n / 2) packed i 0 k))
    (le_or_lt (n / 2) i))

-- Turning twice gives back the packed bases, with the spare half 0.
pub turn_twice : (n : ℕ) (packed : List ℕ) → Bytes packed → turn n (turn n packed) ≡ pack (unpack n packed)
unfolding turn
turn_twice n packed small =
    ap (λ (s : List ℕ). pack (reverse_complement s)) (unpack_turn n packed)
    ∙ ap pack (turned_twice (unpack n packed) (unpacked_letters n packed small))

-- ---- bytes stay bytes

pub pack_bytes : (seq row : List ℕ) → Bytes row → Bytes (over (pack seq) row)
pack_bytes seq row small p =
    ⊎_elim
    (λ (l : length (pack seq) ≤ p). let e = over_past (pack seq) row p 0 l in omega (arith, e, small p))
    (λ (l : p < length (pack seq)).
    let e = packed_at seq row p (omega (arith, l, length_pack seq)) in
    omega (arith, e, half_small seq (2 * p), half_small seq (2 * p + 1)))
    (le_or_lt (length (pack seq)) p)

pub as_stored_bytes : (reverse : Bool) (seq row : List ℕ) → Bytes row → Bytes (over (as_stored reverse seq) row)
unfolding as_stored
as_stored_bytes true seq row small = pack_bytes (reverse_complement seq) row small
as_stored_bytes false seq row small = pack_bytes seq row small

-- the front of a row to which a stored read was unpacked
pub read_front : (reverse : Bool) (n : ℕ) (packed row row₀ : List ℕ) (k : ℕ) → k ≡ n → row ≡ over (in_read reverse n packed) row₀
    → take k row ≡ in_read reverse n packed
read_front reverse n packed row row₀ k e f =
    let long : k ≡ length (in_read reverse n packed) = e ∙ sym (length_in_read reverse n packed) in
    ap (take k) f ∙ ap (λ (i : ℕ). take i (over (in_read reverse n packed) row₀)) long ∙ over_front (in_read reverse n packed) row₀
