-- A header's codes, found by taking marks off its end one by one, and a test of each element.
-- Assumes nothing.
use mathlib.Core.Path.{◌≡◌, ◌∙◌, refl, sym}
use Prim.Native.Nat.{◌+◌, ◌-◌, ◌<◌, ◌≤◌, suc, zero, ℕ}
use native.Mathlib.Omega.{arith}
use mathlib.Core.Bool.{Bool, false, true}
use mathlib.Core.List.{List, [], ◌++◌, ◌∷◌}
use lib.ListN.{drop, get_or, length, length-drop, take}
use lib.Seq.{get_or-drop, take-suc}
use Rattle.std.specs.Prelude.{◌↔◌}
use Rattle.lent.proofs.Tests.{and_true, and_true_l, and_true_r, by-test}
use Rattle.lent.specs.Lists.{every}
use Rattle.samtags.specs.Bytes.{is_mark}
use Rattle.samtags.specs.Text.{glue, without_marks}

-- ---- a test of each element

each_passes : (t : ℕ → Bool) (xs : List ℕ) → every t xs ≡ true → (k : ℕ) → k < length xs → t (get_or xs k 0) ≡ true
each_passes t [] e k h = absurd (omega arith)
each_passes t (x ∷ xs) e zero h = and_true_l (t x) (every t xs) e
each_passes t (x ∷ xs) e (suc k) h = each_passes t xs (and_true_r (t x) (every t xs) e) k (omega arith)

all_pass : (t : ℕ → Bool) (xs : List ℕ) → ((k : ℕ) → k < length xs → t (get_or xs k 0) ≡ true) → every t xs ≡ true
all_pass t [] f = refl
all_pass t (x ∷ xs) f = and_true (t x) (every t xs) (f 0 (omega arith)) (all_pass t xs (λ k h. f (suc k) (omega arith)))

pub every_by : (t : ℕ → Bool) (xs : List ℕ) (b : Bool) → (b ≡ true ↔ ((k : ℕ) → k < length xs → t (get_or xs k 0) ≡ true)) → b ≡ every t xs
every_by t xs b f =
    by-test b
    (λ e. e ∙ sym (all_pass t xs (f.0 e)))
    (λ e. by-test (every t xs) (λ q. f.1 (each_passes t xs q) ∙ sym q) (λ q. e ∙ sym q))

-- ---- marks at the end

marked_mark : (xs : List ℕ) (x : ℕ) → is_mark x ≡ true → without_marks (xs ++ x ∷ []) ≡ without_marks xs
unfolding without_marks glue
marked_mark [] x h = rw h
marked_mark (y ∷ ys) x h = rw (marked_mark ys x h)

marked_code : (xs : List ℕ) (x : ℕ) → is_mark x ≡ false → without_marks (xs ++ x ∷ []) ≡ xs ++ x ∷ []
unfolding without_marks glue
marked_code [] x h = rw h
marked_code (y ∷ []) x h = rw h
marked_code (y ∷ z ∷ ys) x h = rw (marked_code (z ∷ ys) x h)

module _ (h : List ℕ) (e : ℕ) (lo : 2 < e) (hi : e ≤ length h) where
  part_snoc : take (e - 2) (drop 2 h) ≡ take (e - 1 - 2) (drop 2 h) ++ get_or h (e - 1) 0 ∷ []
  part_snoc =
      let m = e - 1 - 2 in
      let q : e - 2 ≡ suc m = omega arith in
      let at : 2 + m ≡ e - 1 = omega arith in
      rw (q, take-suc (drop 2 h) m 0 (omega (arith, length-drop 2 h)), get_or-drop 2 h m 0, at)

  pub part_mark : is_mark (get_or h (e - 1) 0) ≡ true → without_marks (take (e - 2) (drop 2 h)) ≡ without_marks (take (e - 1 - 2) (drop 2 h))
  part_mark k = rw part_snoc (marked_mark (take (e - 1 - 2) (drop 2 h)) _ k)

  pub part_code : is_mark (get_or h (e - 1) 0) ≡ false → without_marks (take (e - 2) (drop 2 h)) ≡ take (e - 2) (drop 2 h)
  part_code k = rw part_snoc (marked_code (take (e - 1 - 2) (drop 2 h)) _ k)

pub part_none : (h : List ℕ) (e : ℕ) → e - 2 ≡ 0 → without_marks (take (e - 2) (drop 2 h)) ≡ []
unfolding without_marks
part_none h e k = rw k
