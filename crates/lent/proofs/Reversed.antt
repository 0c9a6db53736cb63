-- The element at a place of a reversed list.
-- Assumes nothing.
use mathlib.Core.Path.{◌≡◌, ◌∙◌}
use mathlib.Core.Logic.{⊎_elim}
use mathlib.Core.List.{List, [], ◌∷◌, ◌++◌, reverse, reverse-cons}
use Prim.Native.Nat.{ℕ, suc, ◌-◌, ◌≤◌, ◌<◌}
use native.Mathlib.Nat.{not-suc-le-zero}
use native.Mathlib.Omega.{arith}
use lib.ListN.{length, get_or, length-reverse, get_or-append}
use lib.Seq.{get_or_at}
use Rattle.lent.proofs.Numbers.{le_or_lt}

pub get_d_reverse : {A : Type 0} (l : List A) (i : ℕ) (d : A) → i < length l → get_or (reverse l) i d ≡ get_or l (length l - i - 1) d
get_d_reverse [] i d h = absurd (not-suc-le-zero h)
get_d_reverse {A} (x ∷ xs) i d h =
    rw (reverse-cons x xs) (⊎_elim last (λ lt. before lt (get_d_reverse xs i d lt)) (le_or_lt (length xs) i))
  where
    last : length xs ≤ i → get_or (reverse xs ++ (x ∷ [])) i d ≡ get_or (x ∷ xs) (suc (length xs) - i - 1) d
    last le =
        let e : length (reverse xs) ≡ i = omega (arith, length-reverse xs) in
        let z : suc (length xs) - i - 1 ≡ 0 = omega arith in
        rw z (get_or_at (reverse xs) x [] d i e)

    before : i < length xs → get_or (reverse xs) i d ≡ get_or xs (length xs - i - 1) d
        → get_or (reverse xs ++ (x ∷ [])) i d ≡ get_or (x ∷ xs) (suc (length xs) - i - 1) d
    before lt rest =
        let s : suc (length xs) - i - 1 ≡ suc (length xs - i - 1) = omega arith in
        let n : i < length (reverse xs) = omega (arith, length-reverse xs) in
        rw s (get_or-append (reverse xs) (x ∷ []) d i n ∙ rest)
