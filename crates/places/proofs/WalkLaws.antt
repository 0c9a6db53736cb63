-- The bases of a kind from a place of SEQ on, in the order of the walk; and an entry from the answers of its parts.
-- Assumes nothing.
use Rattle.std.specs.Prelude.{Ok, Err, None, Some}
use mathlib.Core.Path.{◌≡◌, ◌∙◌, ap, sym, refl}
use Prim.Native.Nat.{◌+◌, ◌-◌, ◌<◌, ◌≤◌, min, suc, ℕ}
use native.Mathlib.Numerals.{add-one}
use native.Mathlib.Omega.{arith}
use mathlib.Core.Bool.{false, true}
use mathlib.Core.List.{List, [], ◌∷◌, ◌++◌}
use lib.Dec.{leb}
use lib.ListN.{drop, drop_of_length-le, get_or, length, length-drop}
use lib.Seq.{drop-append-add, drop-nil}
use borrow.Author.Tests.{leb-false, leb-true}
use Rattle.lent.proofs.Lists.{drop_here}
use Rattle.lent.proofs.Outcome.{done_inj, need_rest, need_test}
use Rattle.lent.proofs.Tests.{by-test}
use Rattle.lent.specs.Outcome.{need, refuse, with_first}
use Rattle.lent.specs.declared.Refusal.{Refusal}
use Rattle.samtags.proofs.Places.{places_length}
use Rattle.samtags.specs.Decimal.{is_number, value}
use Rattle.samtags.specs.Spots.{holds}
use Rattle.strides.proofs.StrideLaws.{between_rest}
use Rattle.strides.specs.Counts.{between}
use Rattle.places.specs.Walk.{tracked_from, entry_at, first_of}

module _ (b : ℕ) (s : List ℕ) (i : ℕ) where
  tracked_hit : i < length s → holds b (get_or s i 0) ≡ true → tracked_from b i s ≡ i ∷ tracked_from b (i + 1) s
  unfolding tracked_from
  tracked_hit l h = rw (drop_here s i 0 l, h, ← add-one i)

  tracked_miss : i < length s → holds b (get_or s i 0) ≡ false → tracked_from b i s ≡ tracked_from b (i + 1) s
  unfolding tracked_from
  tracked_miss l h = rw (drop_here s i 0 l, h, ← add-one i)

  -- n places further among those that are left
  pub found_end : (n : ℕ) → length s ≤ i → drop n (tracked_from b i s) ≡ []
  unfolding tracked_from
  found_end n h = rw (drop_of_length-le s h) (drop-nil n)

  pub found_at : (n : ℕ) → i < length s → holds b (get_or s i 0) ≡ true → n ≡ 0 → drop n (tracked_from b i s) ≡ i ∷ tracked_from b (i + 1) s
  found_at n l h z = rw (z, tracked_hit l h)

  pub found_on : (n m : ℕ) → i < length s → holds b (get_or s i 0) ≡ true → n ≡ suc m → drop n (tracked_from b i s) ≡ drop m (tracked_from b (i + 1) s)
  found_on n m l h z = rw (z, tracked_hit l h)

  pub found_miss : (n : ℕ) → i < length s → holds b (get_or s i 0) ≡ false → drop n (tracked_from b i s) ≡ drop n (tracked_from b (i + 1) s)
  found_miss n l h = rw (tracked_miss l h)

-- ---- behind a part of SEQ that was passed as a whole

pub behind_passed : (b : ℕ) (seq : List ℕ) (from place n passed : ℕ) → from ≤ place → place ≤ length seq → passed ≤ n → passed ≡ length (between b seq from place)
    → drop n (tracked_from b from seq) ≡ drop (n - passed) (tracked_from b place seq)
unfolding tracked_from
behind_passed b seq from place n passed l u few e =
    let sum : n ≡ length (between b seq from place) + (n - passed) = omega arith in
    ap (drop n) (between_rest b seq from place l u)
    ∙ ap (λ (k : ℕ). drop k (between b seq from place ++ tracked_from b place seq)) sum
    ∙ drop-append-add (between b seq from place) (tracked_from b place seq) (n - passed)

-- ---- a bounded skip passes what the skip passes

pub tracked_few : (b i : ℕ) (s : List ℕ) → length (tracked_from b i s) ≤ length s
unfolding tracked_from
tracked_few b i s = omega (arith, places_length (holds b) i (drop i s), length-drop i s)

-- where there are at most as many places as the bound lets pass
pub bounded_drop : (most n : ℕ) (ps : List ℕ) → length ps ≤ most → drop (min most n) ps ≡ drop n ps
bounded_drop most n ps h =
    by-test (leb n most)
    (λ e. let small : n ≤ most = leb-true n most e in let q : min most n ≡ n = omega arith in rw q)
    (λ e.
    let large : most < n = leb-false n most e in
    let a : length ps ≤ n = omega arith in
    let c : length ps ≤ min most n = omega arith in
    drop_of_length-le ps c ∙ sym (drop_of_length-le ps a))

-- ---- an entry, by what the skip reader and the walk answer

pub entry_six : (f places : List ℕ) (n : ℕ) (r : Refusal) → Err r ≡ need (is_number f) 6 (Ok n) → Err r ≡ entry_at f places
unfolding entry_at
entry_six f places n r e =
    by-test (is_number f)
    (λ t. let x : Err r ≡ Ok n = rw t at e in let z : ◌≡◌ {A = ℕ} 0 1 = cc in absurd (omega arith))
    (λ t. rw t (rw t at e))

-- the same, by the number
pub entry_not_decimal : (f places : List ℕ) (n : ℕ) (r : Refusal) → Err r ≡ need (is_number f) 6 (Ok n) → refuse 6 ≡ entry_at f places
unfolding entry_at
entry_not_decimal f places n r e =
    by-test (is_number f)
    (λ t. let x : Err r ≡ Ok n = rw t at e in let z : ◌≡◌ {A = ℕ} 0 1 = cc in absurd (omega arith))
    (λ t. rw t refl)

-- where the skip's bound lets pass as many places as there are
module _ (f places : List ℕ) (most : ℕ) (few : length places ≤ most) (n : ℕ) (e : Ok n ≡ need (is_number f) 6 (Ok (min most (value f)))) where
  is_number_lem : is_number f ≡ true
  is_number_lem = need_test (is_number f) 6 (Ok (min most (value f))) n (sym e)

  passes : drop n places ≡ drop (value f) places
  passes =
      let q : min most (value f) ≡ n = done_inj (need_rest (is_number f) 6 (Ok (min most (value f))) n (sym e)) in
      rw (← q) (bounded_drop most (value f) places few)

  pub entry_seven : None ≡ first_of (drop n places) → refuse 7 ≡ entry_at f places
  unfolding entry_at
  entry_seven h = rw (is_number_lem, ← passes) (go (drop n places) h)
    where
      go : (l : List ℕ) → None ≡ first_of l → refuse {A = ℕ} 7 ≡ with_first l 7 (λ p rest. Ok p)
      go [] h = refl
      go (x ∷ xs) h = let z : ◌≡◌ {A = ℕ} 0 1 = cc in absurd (omega arith)

  pub entry_on : (p : ℕ) → Some p ≡ first_of (drop n places) → Ok p ≡ entry_at f places
  unfolding entry_at
  entry_on p h = rw (is_number_lem, ← passes) (go (drop n places) h)
    where
      go : (l : List ℕ) → Some p ≡ first_of l → Ok p ≡ with_first l 7 (λ p rest. Ok p)
      go [] h = let z : ◌≡◌ {A = ℕ} 0 1 = cc in absurd (omega arith)
      go (x ∷ xs) h = let q : p ≡ x = cc in rw q
