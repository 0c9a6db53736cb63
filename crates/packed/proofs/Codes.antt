-- The sixteen codes and their letters: a letter's code and back, complements, and the reverse complement of a packed pair.
-- Assumes nothing.
use mathlib.Core.Path.{◌≡◌, refl, sym, ap, ◌∙◌}
use Prim.Native.Nat.{ℕ, suc, ◌+◌, ◌*◌, ◌/◌, ◌%◌, ◌≤◌, ◌<◌}
use native.Mathlib.Omega.{arith}
use mathlib.Core.List.{List, [], ◌∷◌}
use lib.ListN.{length, get_or}
use lib.Dec.{eqb}
use Rattle.lent.specs.Lists.{tabulate}
use Rattle.lent.proofs.Tabulate.{get_d_tabulate}
use Rattle.lent.proofs.Tests.{by-test}
use Rattle.packed.specs.Walks.{TableOf}
use Rattle.packed.specs.Packed.{bits_reversed, code_of, complement, complements, letter_of, letters, pack, place_in, reverse_complement, unpack}

-- two functions that agree at each of the numbers below n agree at any of them
pub agree_below : (n : ℕ) (f g : ℕ → ℕ) → tabulate n f ≡ tabulate n g → (k : ℕ) → k < n → f k ≡ g k
agree_below n f g e k l = sym (get_d_tabulate n k f 0 l) ∙ ap (λ (xs : List ℕ). get_or xs k 0) e ∙ get_d_tabulate n k g 0 l

-- what a table has at an index
pub entry_is : (rule : ℕ → ℕ) (table : List ℕ) → TableOf rule table → (k : ℕ) → k < 256 → get_or table k 0 ≡ rule k
entry_is rule table e k l = ap (λ (t : List ℕ). get_or t k 0) e ∙ get_d_tabulate 256 k rule 0 l

-- the four bits of a code, in reverse order: the code of the complement
abbrev pub half_reversed : ℕ → ℕ
half_reversed c = 8 * (c % 2) + 4 * (c / 2 % 2) + 2 * (c / 4 % 2) + c / 8 % 2

-- ---- over the sixteen codes

pub code_of_letter : (c : ℕ) → c < 16 → code_of (letter_of c) ≡ c
unfolding code_of
code_of_letter c l = agree_below 16 (λ k. code_of (letter_of k)) (λ k. k) refl c l

pub complement_of_letter : (c : ℕ) → c < 16 → complement (letter_of c) ≡ letter_of (half_reversed c)
unfolding complement
complement_of_letter c l = agree_below 16 (λ k. complement (letter_of k)) (λ k. letter_of (half_reversed k)) refl c l

pub half_reversed_twice : (c : ℕ) → c < 16 → half_reversed (half_reversed c) ≡ c
half_reversed_twice c l = agree_below 16 (λ k. half_reversed (half_reversed k)) (λ k. k) refl c l

-- ---- over the 256 pairs

-- the eight bits reversed: each half reversed, and the two exchanged
pub pair_halves : (b : ℕ) → b < 256 → bits_reversed b ≡ 16 * half_reversed (b % 16) + half_reversed (b / 16)
pair_halves b l = agree_below 256 bits_reversed (λ k. 16 * half_reversed (k % 16) + half_reversed (k / 16)) refl b l

pub reversed_small : (b : ℕ) → bits_reversed b < 256
reversed_small b = omega arith

-- In letters: the entry of a pair is its two letters complemented and exchanged. One statement for all 256 entries.
pub pair_in_letters : tabulate 256 (λ b. bits_reversed b ∷ []) ≡ tabulate 256 (λ b. pack (reverse_complement (unpack 2 (b ∷ []))))
unfolding pack reverse_complement unpack
pair_in_letters = refl

pub exchanged_letters : tabulate 256 (λ b. unpack 2 (bits_reversed b ∷ []))
    ≡ tabulate 256 (λ b. complement (letter_of (b % 16)) ∷ complement (letter_of (b / 16)) ∷ [])
unfolding complement unpack
exchanged_letters = refl

-- ---- any byte

place_small : (i x : ℕ) (xs : List ℕ) → i + length xs ≤ 16 → place_in i x xs < 16
place_small i x [] h = omega arith
place_small i x (y ∷ ys) h =
    by-test (eqb x y)
    (λ e. rw e (omega arith))
    (λ e. rw e (place_small (suc i) x ys (omega arith)))

pub code_small : (x : ℕ) → code_of x < 16
unfolding code_of
code_small x = place_small 0 x letters (omega arith)

-- the code of a complement, whatever the byte
pub code_of_complement : (x : ℕ) → code_of (complement x) ≡ half_reversed (code_of x)
unfolding code_of complement
code_of_complement x = agree_below 16 (λ k. code_of (get_or complements k 0)) half_reversed refl (code_of x) (code_small x)
