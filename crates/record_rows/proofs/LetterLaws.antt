-- Laws of letters that are turned: their number, place by place, and that they agree with the letters of packed SEQ.
-- Assumes nothing.
use mathlib.Core.Path.{◌≡◌, refl, sym, ap, ◌∙◌}
use Prim.Native.Nat.{ℕ, zero, suc, ◌-◌, ◌<◌}
use native.Mathlib.Omega.{arith}
use mathlib.Core.Bool.{Bool, true, false}
use mathlib.Core.List.{List, [], ◌∷◌, map, reverse}
use lib.ListN.{length, get_or, length-map, length-reverse}
use lib.Seq.{ext_get_or}
use Rattle.lent.specs.Lists.{tabulate}
use Rattle.lent.proofs.Reversed.{get_d_reverse}
use Rattle.lent.proofs.Tabulate.{get_d_tabulate, length_tabulate, map_tabulate, tabulate_ext, tabulate_get_d}
use Rattle.packed.proofs.Codes.{agree_below}
use Rattle.packed.proofs.Rows.{Bytes, code_at_small}
use Rattle.packed.specs.Packed.{code_at, complement, letter_of, unpack}
use Rattle.packed.specs.Stored.{in_read}
use Rattle.packed.specs.Walks.{letter_at}
use Rattle.record_rows.specs.Letters.{complement_of, turned_letters}

pub length_turned : (reversed : Bool) (l : List ℕ) → length (turned_letters reversed l) ≡ length l
unfolding turned_letters
length_turned true l = length-reverse (map complement_of l) ∙ length-map l complement_of
length_turned false l = refl

-- the letter at place i of n letters that are reverse-complemented
abbrev pub turned_at : List ℕ → ℕ → ℕ
turned_at l i = complement_of (get_or l (length l - 1 - i) 0)

get_d_map : (f : ℕ → ℕ) (xs : List ℕ) (i : ℕ) → i < length xs → get_or (map f xs) i 0 ≡ f (get_or xs i 0)
get_d_map f [] i l = absurd (omega arith)
get_d_map f (x ∷ xs) zero l = refl
get_d_map f (x ∷ xs) (suc i) l = get_d_map f xs i (omega arith)

pub turned_at_lem : (l : List ℕ) (i : ℕ) → i < length l → get_or (turned_letters true l) i 0 ≡ turned_at l i
unfolding turned_letters
turned_at_lem l i h =
    let n = length-map l complement_of in
    let same : length (map complement_of l) - i - 1 ≡ length l - 1 - i = omega (arith, n) in
    get_d_reverse (map complement_of l) i 0 (omega (arith, n))
    ∙ ap (λ (k : ℕ). get_or (map complement_of l) k 0) same
    ∙ get_d_map complement_of l (length l - 1 - i) (omega arith)

-- reversed, place by place
pub turned_list : (l : List ℕ) → turned_letters true l ≡ tabulate (length l) (turned_at l)
turned_list l =
    let long = length_turned true l in
    ext_get_or 0 (turned_letters true l) (tabulate (length l) (turned_at l)) (long ∙ sym (length_tabulate (length l) (turned_at l)))
    (λ (i : ℕ) (h : i < length (turned_letters true l)).
    let k : i < length l = omega (arith, h, long) in
    turned_at_lem l i k ∙ sym (get_d_tabulate (length l) i (turned_at l) 0 k))

-- as they are, place by place
pub kept_list : (l : List ℕ) → turned_letters false l ≡ tabulate (length l) (λ i. get_or l i 0)
unfolding turned_letters
kept_list l = sym (tabulate_get_d l 0)

-- a complement at place k is the letter at place i of the turned letters, if k is i from the other end
pub from_the_end : (l : List ℕ) (k i v : ℕ) → v ≡ complement_of (get_or l k 0) → k ≡ length l - 1 - i → v ≡ turned_at l i
from_the_end l k i v e h = e ∙ ap (λ (p : ℕ). complement_of (get_or l p 0)) h

-- ---- letters of packed SEQ

-- on the sixteen letters of packed SEQ the two complements are the same
pub complements_agree : (c : ℕ) → c < 16 → complement_of (letter_of c) ≡ complement (letter_of c)
unfolding complement_of complement
complements_agree c h = agree_below 16 (λ k. complement_of (letter_of k)) (λ k. complement (letter_of k)) refl c h

same_complements : (n : ℕ) (packed : List ℕ) → Bytes packed → map complement_of (unpack n packed) ≡ map complement (unpack n packed)
unfolding unpack
same_complements n packed small =
    map_tabulate complement_of n (letter_at packed)
    ∙ tabulate_ext n (λ i. complement_of (letter_at packed i)) (λ i. complement (letter_at packed i))
    (λ (i : ℕ) (h : i < n). complements_agree (code_at packed i) (code_at_small packed small i))
    ∙ sym (map_tabulate complement n (letter_at packed))

-- so SEQ that is unpacked and then turned is SEQ in read orientation
pub turned_unpacked : (reversed : Bool) (n : ℕ) (packed : List ℕ) → Bytes packed → turned_letters reversed (unpack n packed) ≡ in_read reversed n packed
unfolding turned_letters in_read
turned_unpacked false n packed small = refl
turned_unpacked true n packed small = ap reverse (same_complements n packed small)
