-- Storing elements one by one from a place on, as far as the row reaches: one more element, one run behind another, and a run into a part of the row that
-- is lent on.
-- Assumes nothing.
use mathlib.Core.Path.{◌≡◌, refl, sym, ap, ◌∙◌}
use mathlib.Core.List.{List, [], ◌∷◌, ◌++◌, append_assoc, append-nil}
use Prim.Native.Nat.{ℕ, zero, suc, ◌+◌, ◌-◌, ◌≤◌, ◌<◌, min}
use native.Mathlib.Nat.{add-zero}
use native.Mathlib.Omega.{arith}
use lib.Dec.{leb}
use lib.ListN.{length, get_or, take, drop, set, length-append, length-drop, drop_of_length-le}
use lib.Seq.{sets, sets-eq, length-sets, length-take-le, set_out, drop_at, drop-length, take-length, take_all}
use borrow.Author.Tests.{leb-true, leb-false}
use borrow.Rule.Slice.PartMut.{put_mid, mid_of, post_of}
use Rattle.lent.specs.Filled.{over}
use Rattle.lent.proofs.Filled.{over_stored}
use Rattle.lent.proofs.Lists.{drop_here}
use Rattle.lent.proofs.Tests.{by-test}

module _ {A : Type 0} where
  -- a run behind a run
  pub sets_append : (l : List A) (n : ℕ) (xs ys : List A) → sets l n (xs ++ ys) ≡ sets (sets l n xs) (n + length xs) ys
  sets_append l n [] ys = rw (add-zero n)
  sets_append l n (x ∷ xs) ys =
      let q : suc n + length xs ≡ n + suc (length xs) = omega arith in
      sets_append (set l n x) (suc n) xs ys ∙ ap (λ (k : ℕ). sets (sets (set l n x) (suc n) xs) k ys) q

  -- what is left of a run, and one store more
  pub sets_on : (l : List A) (n : ℕ) (s : List A) (i : ℕ) (d : A) → i < length s
      → sets l (n + i) (drop i s) ≡ sets (set l (n + i) (get_or s i d)) (n + (i + 1)) (drop (i + 1) s)
  sets_on l n s i d h =
      let q : suc (n + i) ≡ n + (i + 1) = omega arith in
      ap (sets l (n + i)) (drop_here s i d h) ∙ ap (λ (k : ℕ). sets (set l (n + i) (get_or s i d)) k (drop (i + 1) s)) q

  -- past the row's end nothing is stored
  pub sets_out : (xs l : List A) (n : ℕ) → length l ≤ n → sets l n xs ≡ l
  sets_out [] l n h = refl
  sets_out (x ∷ xs) l n h = rw (set_out l n x h) (sets_out xs l (suc n) (omega arith))

  sets_tail : (y : A) (l : List A) (n : ℕ) (xs : List A) → sets (y ∷ l) (suc n) xs ≡ y ∷ sets l n xs
  sets_tail y l n [] = refl
  sets_tail y l n (x ∷ xs) = sets_tail y (set l n x) (suc n) xs

  sets_in : (l : List A) (n : ℕ) (xs : List A) → n ≤ length l → take n l ++ sets (drop n l) 0 xs ≡ sets l n xs
  sets_in l zero xs h = refl
  sets_in [] (suc n) xs h = absurd (omega arith)
  sets_in (y ∷ l) (suc n) xs h = ap (λ (r : List A). y ∷ r) (sets_in l n xs (omega arith)) ∙ sym (sets_tail y l n xs)

  -- a run from the start of the part that begins at n, or of the empty part where the row ends before, is a run from n on
  pub sets_part : (l : List A) (n e : ℕ) (xs : List A) → e ≡ min n (length l) → take e l ++ sets (drop e l) 0 xs ≡ sets l n xs
  sets_part l n e xs q =
      by-test (leb n (length l))
      (λ t. let low : n ≤ length l = leb-true n (length l) t in let z : e ≡ n = omega arith in rw z (sets_in l n xs low))
      (λ t.
      let over : length l < n = leb-false n (length l) t in
      let z : e ≡ length l = omega arith in
      rw (z, drop-length l, take-length l, sets_out xs l n (omega arith), sets_out xs [] 0 (omega arith)) (append-nil l))

  -- the part from e to the end, as it is lent and as it comes back
  pub part_lent : (l : List A) (e : ℕ) → mid_of e (length l - e) l ≡ drop e l
  part_lent l e = take_all (length l - e) (drop e l) (omega (arith, length-drop e l))

  pub part_back : (l : List A) (e : ℕ) (ys : List A) → put_mid e (length l - e) l ys ≡ take e l ++ ys
  part_back l e ys =
      let all : length (drop e l) ≤ length l - e = omega (arith, length-drop e l) in
      let none : post_of e (length l - e) l ≡ [] = drop_of_length-le (drop e l) all in
      rw (none, append-nil ys)

  -- a run stored at the front of that part
  pub part_stored : (out vs : List A) (s k : ℕ) → k ≡ length out - s → s ≤ length out → put_mid s k out (sets (take k (drop s out)) 0 vs) ≡ sets out s vs
  part_stored out vs s k e h =
      let low : s ≡ min s (length out) = omega arith in
      rw e (part_back out s (sets (mid_of s (length out - s) out) 0 vs)
      ∙ ap (λ (d : List A). take s out ++ sets d 0 vs) (part_lent out s) ∙ sets_part out s s vs low)

  -- a run stored before another that was stored behind its room
  pub sets_before : (out vs ws : List A) → length vs + length ws ≤ length out → sets (sets out (length vs) ws) 0 vs ≡ over (vs ++ ws) out
  unfolding over
  sets_before out vs ws h =
      let fits : length vs ≤ length (sets out (length vs) ws) = omega (arith, length-sets out (length vs) ws) in
      let front : length (take (length vs) out) ≡ length vs = length-take-le (length vs) out (omega arith) in
      over_stored vs (sets out (length vs) ws) fits
      ∙ rw (
        sets-eq ws out (length vs) h,
        append_assoc (take (length vs) out) ws (drop (length vs + length ws) out),
        drop_at (take (length vs) out) (ws ++ drop (length vs + length ws) out) (length vs) front,
      )
      (simp (append_assoc, length-append))
