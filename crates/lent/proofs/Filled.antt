-- Laws of a lent output row: its length, one more element, a part that is lent on and comes back, and the elements past the list. The answer and the list
-- determine the row.
-- Assumes nothing.
use Rattle.std.specs.Prelude.{Ok, Err}
use mathlib.Core.Path.{◌≡◌, refl, sym, ap, ◌∙◌}
use mathlib.Core.List.{List, [], ◌∷◌, ◌++◌, append_assoc, append-nil}
use Prim.Native.Nat.{ℕ, suc, ◌+◌, ◌-◌, ◌≤◌, ◌<◌}
use native.Mathlib.Numerals.{add-one}
use native.Mathlib.Omega.{arith}
use lib.ListN.{length, get_or, take, drop, set, length-append, length-drop, drop_of_length-le, take-append-drop}
use lib.Seq.{sets, sets-eq, take_at, drop_at, drop-drop, drop-cons, take_all, set_at, append_snoc, get_or-append-add, get_or-drop}
use Rattle.lent.specs.Filled.{over, leaves}
use Rattle.lent.specs.declared.Refusal.{Refusal}
use Rattle.lent.proofs.Lists.{drop_take}

module _ {A : Type 0} where
  pub over_none : (out : List A) → out ≡ over [] out
  unfolding over
  over_none out = refl

  pub length_over : (l out : List A) → length l ≤ length out → length (over l out) ≡ length out
  unfolding over
  length_over l out h = simp (length-append, length-drop) (omega arith)

  -- a list over the first n of a row, put back
  pub over_part_front : (l row : List A) (n : ℕ) → length l ≤ n → over l (take n row) ++ drop n row ≡ over l row
  unfolding over
  over_part_front l row n h =
      let k = length l in
      let rest : k + (n - k) ≡ n = omega arith in
      append_assoc l (drop k (take n row)) (drop n row)
      ∙ ap (λ (r : List A). l ++ r)
      (ap (λ (r : List A). r ++ drop n row) (drop_take k n row)
      ∙ ap (λ (r : List A). take (n - k) (drop k row) ++ r) (sym (drop-drop (n - k) k row ∙ ap (λ (i : ℕ). drop i row) rest))
      ∙ take-append-drop (n - k) (drop k row))

  -- one element more, stored where the list ends
  pub over_one_more : (l out : List A) (i : ℕ) (b : A) → length l ≡ i → i < length out → set (over l out) i b ≡ over (l ++ (b ∷ [])) out
  unfolding over
  over_one_more l out i b e h =
      rw (drop-cons out (length l) b (omega arith), set_at l (get_or out (length l) b) (drop (suc (length l)) out) b i e)
      (simp (append_snoc, length-append, add-one))

  -- the part that begins where the list ends was lent on, and came back with g at its front
  pub over_part : (l g out : List A) (a k : ℕ) → length l ≡ a → k ≡ length out - a → length l + length g ≤ length out
      → take a (over l out) ++ (over g (take k (drop a (over l out))) ++ drop k (drop a (over l out))) ≡ over (l ++ g) out
  unfolding over
  over_part l g out a k e f h =
      let d : List A = drop (length l) out in
      let n : length d ≤ k = simp length-drop (omega arith) in
      simp (take_at l d a e, drop_at l d a e, take_all k d n, drop_of_length-le d n, append-nil, append_assoc, length-append, drop-drop)

  -- the front is the list
  pub over_front : (l out : List A) → take (length l) (over l out) ≡ l
  unfolding over
  over_front l out = take_at l (drop (length l) out) (length l) refl

  -- past the list each element is as lent
  pub over_past : (l out : List A) (i : ℕ) (d : A) → length l ≤ i → get_or (over l out) i d ≡ get_or out i d
  unfolding over
  over_past l out i d h =
      let e : length l + (i - length l) ≡ i = omega arith in
      rw e at (get_or-append-add l (drop (length l) out) (i - length l) d ∙ get_or-drop (length l) out (i - length l) d)

  -- stores one by one from the start on, where they fit
  pub over_stored : (l out : List A) → length l ≤ length out → sets out 0 l ≡ over l out
  unfolding over
  over_stored l out h = let z : 0 + length l ≡ length l = omega arith in sets-eq l out 0 (omega arith) ∙ rw z

  -- a list as long as the row is all that the row holds
  pub over_all : (l out : List A) → length l ≡ length out → over l out ≡ l
  unfolding over
  over_all l out e =
      let h : length out ≤ length l = omega arith in
      rw (drop_of_length-le out h, append-nil l)

module _ {A B : Type 0} where
  pub leaves_done : (part : A → List B) (a : A) (row : List B) → leaves part (Ok a) row ≡ over (part a) row
  unfolding leaves
  leaves_done part a row = refl

  pub leaves_refused : (part : A → List B) (r : Refusal) (row : List B) → leaves part (Err r) row ≡ row
  unfolding leaves
  leaves_refused part r row = refl

-- Two outcomes that both equal what a definition gives are the same: each public call's uniqueness is an instance.
pub settled : {A : Type 0} {x : A} (a b : A) → a ≡ x → b ≡ x → a ≡ b
settled a b p q = p ∙ sym q
