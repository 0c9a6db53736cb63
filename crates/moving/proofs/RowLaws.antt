-- A row that is written from the left while it is read further right: what is still to be read is unchanged.
-- Assumes nothing.
use mathlib.Core.Path.{◌≡◌, refl, sym, ap, ◌∙◌}
use Prim.Native.Nat.{ℕ, suc, ◌+◌, ◌-◌, ◌≤◌, ◌<◌}
use native.Mathlib.Omega.{arith}
use mathlib.Core.List.{List, [], ◌∷◌, ◌++◌}
use lib.ListN.{length, get_or, take, drop, set, length-drop}
use lib.Seq.{sets, drop_at, drop-drop, drop-set-lt, get_or-drop, get_or-take, length-take-le}
use borrow.Rule.Slice.PartMut.{put_mid}
use Rattle.lent.proofs.Stores.{part_back, sets_on}

module _ {A : Type 0} where
  -- two rows that are the same from n on are so from any later place on
  pub same_later : (l m : List A) (n i : ℕ) → n ≤ i → drop n l ≡ drop n m → drop i l ≡ drop i m
  same_later l m n i h e =
      let q : n + (i - n) ≡ i = omega arith in
      let later : drop (n + (i - n)) l ≡ drop (n + (i - n)) m = sym (drop-drop (i - n) n l) ∙ ap (drop (i - n)) e ∙ drop-drop (i - n) n m in
      rw q at later

  -- a byte at a place from which two rows are the same
  pub same_at : (l m : List A) (n i : ℕ) (d : A) → n ≤ i → drop n l ≡ drop n m → get_or l i d ≡ get_or m i d
  same_at l m n i d h e =
      let q : n + (i - n) ≡ i = omega arith in
      let there : get_or l (n + (i - n)) d ≡ get_or m (n + (i - n)) d =
      sym (get_or-drop n l (i - n) d) ∙ ap (λ (x : List A). get_or x (i - n) d) e ∙ get_or-drop n m (i - n) d in
      rw q at there

  -- from where a stored run ends the row is as it was
  pub drop_stored : (l : List A) (n : ℕ) (xs : List A) (i : ℕ) → n + length xs ≤ i → drop i (sets l n xs) ≡ drop i l
  drop_stored l n [] i h = refl
  drop_stored l n (x ∷ xs) i h = drop_stored (set l n x) (suc n) xs i (omega arith) ∙ drop-set-lt i l n x (omega arith)

  -- what is still to be read, in the part of the row that begins where the written part ends
  pub ahead_of : (l m : List A) (e i : ℕ) → e ≤ i → drop i l ≡ drop i m → drop (i - e) (drop e l) ≡ drop i m
  ahead_of l m e i h q =
      let z : e + (i - e) ≡ i = omega arith in
      drop-drop (i - e) e l ∙ ap (λ (k : ℕ). drop k l) z ∙ q

  -- and as that part comes back, the same from i on
  pub part_ahead : (l m : List A) (e i : ℕ) (ys : List A) → e ≤ length l → drop i ys ≡ drop i (drop e l) → drop (e + i) l ≡ drop (e + i) m
      → drop (e + i) (put_mid e (length l - e) l ys) ≡ drop (e + i) m
  part_ahead l m e i ys h q same =
      let front : length (take e l) ≡ e = length-take-le e l h in
      ap (drop (e + i)) (part_back l e ys) ∙ sym (drop-drop i e (take e l ++ ys)) ∙ ap (drop i) (drop_at (take e l) ys e front) ∙ q ∙ drop-drop i e l
      ∙ same

  -- a run moves left: byte i of it, which is unchanged in the row, is stored
  module _ (row₀ row : List A) (from to n i : ℕ) (d : A) (low : i < n) (fits : from + n ≤ length row₀)
      (ahead : drop (from + i) row ≡ drop (from + i) row₀) where
    pub move_turn : sets row (to + i) (drop i (take n (drop from row₀)))
        ≡ sets (set row (to + i) (get_or row (from + i) d)) (to + (i + 1)) (drop (i + 1) (take n (drop from row₀)))
    move_turn =
        let size : length (take n (drop from row₀)) ≡ n = length-take-le n (drop from row₀) (omega (arith, length-drop from row₀)) in
        let byte : get_or (take n (drop from row₀)) i d ≡ get_or row (from + i) d =
        get_or-take n (drop from row₀) i d low ∙ get_or-drop from row₀ i d ∙ sym (same_at row row₀ (from + i) (from + i) d (omega arith) ahead) in
        sets_on row to (take n (drop from row₀)) i d (omega arith)
        ∙ ap (λ (b : A). sets (set row (to + i) b) (to + (i + 1)) (drop (i + 1) (take n (drop from row₀)))) byte
