-- Counts over blocks: one more byte, one block behind another, and how many bases of a block a window still holds.
-- Assumes nothing.
use mathlib.Core.Path.{◌≡◌, ◌∙◌, ap, refl, sym}
use Prim.Native.Nat.{ℕ, suc, ◌+◌, ◌-◌, ◌≤◌, ◌<◌}
use native.Mathlib.Nat.{sub-zero}
use native.Mathlib.Omega.{arith}
use mathlib.Core.Bool.{Bool, cond, false, true, ◌&&◌}
use mathlib.Core.List.{List, [], ◌∷◌, ◌++◌}
use mathlib.Core.Logic.{◌⊎◌, ⊎_elim}
use lib.Dec.{eqb}
use lib.ListN.{length, take, drop, get_or, length-append, length-drop, take-append-drop}
use lib.Seq.{drop-drop, get_or-drop, get_or-take, length-take-le, take-add}
use mir.Val.{bool_byte}
use borrow.Author.Tests.{eq-eqb, le-leb, le-ltb, lt-leb, lt-ltb, ne_eqb}
use Rattle.lent.proofs.Lists.{count_more, filter_all, filter_append, filter_ext, take_more}
use Rattle.lent.proofs.Tests.{by-test}
use Rattle.lent.specs.Lists.{filter}
use Rattle.samtags.specs.Spots.{holds, places_from, tracked}
use Rattle.strides.specs.Counts.{Told, Undivided, between, held_between, held_there, hold_both}
use Rattle.strides.specs.declared.Window.{Window}

pub as_number : (t : Bool) → bool_byte t ≡ cond t 1 0
as_number true = refl
as_number false = refl

pub one_at_most : (t : Bool) → bool_byte t ≤ 1
one_at_most true = omega arith
one_at_most false = omega arith

-- a letter other than 'N' is held by itself alone
pub holds_own : (b x : ℕ) → (b ≡ 78 → ⊥) → holds b x ≡ eqb x b
unfolding holds
holds_own b x n = rw (ne_eqb b 78 n)

-- ---- one byte more

-- how many are the base
pub count_on : (b : ℕ) → (b ≡ 78 → ⊥) → (l : List ℕ) (i : ℕ) → i < length l
    → length (filter (holds b) (take (i + 1) l)) ≡ length (filter (holds b) (take i l)) + bool_byte (eqb (get_or l i 0) b)
count_on b n l i h =
    count_more (holds b) l i 0 h
    ∙ ap (λ (t : Bool). length (filter (holds b) (take i l)) + cond t 1 0) (holds_own b (get_or l i 0) n)
    ∙ ap (λ (k : ℕ). length (filter (holds b) (take i l)) + k) (sym (as_number (eqb (get_or l i 0) b)))

both_append : (b : ℕ) (xs ys : List ℕ) (x y : ℕ) → length xs ≡ length ys
    → hold_both b (xs ++ x ∷ []) (ys ++ y ∷ []) ≡ hold_both b xs ys + cond (holds b x && holds b y) 1 0
both_append b [] [] x y s = omega arith
both_append b [] (v ∷ ys) x y s = absurd (omega arith)
both_append b (u ∷ xs) [] x y s = absurd (omega arith)
both_append b (u ∷ xs) (v ∷ ys) x y s = omega (arith, both_append b xs ys x y (omega arith))

-- of the places from one on, how many hold the base in both rows
pub both_on : (b : ℕ) → (b ≡ 78 → ⊥) → (seq after : List ℕ) (from there i : ℕ) → from + i < length seq → there + i < length after
    → hold_both b (take (i + 1) (drop from seq)) (take (i + 1) (drop there after))
    ≡ hold_both b (take i (drop from seq)) (take i (drop there after)) + bool_byte (eqb (get_or seq (from + i) 0) b && eqb (get_or after (there + i) 0) b)
both_on b n seq after from there i h k =
    let s = drop from seq in
    let a = drop there after in
    let hs : i < length s = omega (arith, length-drop from seq) in
    let ha : i < length a = omega (arith, length-drop there after) in
    let same : length (take i s) ≡ length (take i a) = length-take-le i s (omega arith) ∙ sym (length-take-le i a (omega arith)) in
    let first : holds b (get_or s i 0) ≡ eqb (get_or seq (from + i) 0) b = ap (holds b) (get_or-drop from seq i 0) ∙ holds_own b (get_or seq (from + i) 0) n in
    let second : holds b (get_or a i 0) ≡ eqb (get_or after (there + i) 0) b = ap (holds b) (get_or-drop there after i 0) ∙ holds_own b (get_or after (there + i) 0) n in
    ap (λ (l : List ℕ). hold_both b l (take (i + 1) a)) (take_more s i 0 hs)
    ∙ ap (hold_both b (take i s ++ get_or s i 0 ∷ [])) (take_more a i 0 ha)
    ∙ both_append b (take i s) (take i a) (get_or s i 0) (get_or a i 0) same
    ∙ ap (λ (t : Bool). hold_both b (take i s) (take i a) + cond (t && holds b (get_or a i 0)) 1 0) first
    ∙ ap (λ (t : Bool). hold_both b (take i s) (take i a) + cond (eqb (get_or seq (from + i) 0) b && t) 1 0) second
    ∙ ap (λ (k : ℕ). hold_both b (take i s) (take i a) + k) (sym (as_number (eqb (get_or seq (from + i) 0) b && eqb (get_or after (there + i) 0) b)))

-- ---- the places of a base, part by part

places_append : (t : ℕ → Bool) (i : ℕ) (xs ys : List ℕ) → places_from t i (xs ++ ys) ≡ places_from t i xs ++ places_from t (i + length xs) ys
places_append t i [] ys = let z : i + 0 ≡ i = omega arith in rw z
places_append t i (x ∷ xs) ys =
    let z : suc i + length xs ≡ i + suc (length xs) = omega arith in
    by-test (t x) (λ q. rw (q, places_append t (suc i) xs ys, z)) (λ q. rw (q, places_append t (suc i) xs ys, z))

places_count : (t : ℕ → Bool) (i : ℕ) (xs : List ℕ) → length (places_from t i xs) ≡ length (filter t xs)
places_count t i [] = refl
places_count t i (x ∷ xs) = by-test (t x) (λ q. rw (q, places_count t (suc i) xs)) (λ q. rw (q, places_count t (suc i) xs))

module _ (b : ℕ) (seq : List ℕ) where
  pub between_none : (from : ℕ) → between b seq from from ≡ []
  between_none from = let z : from - from ≡ 0 = omega arith in rw z

  module _ (from mid : ℕ) (l : from ≤ mid) (u : mid ≤ length seq) where
    before : List ℕ
    before = take (mid - from) (drop from seq)

    ends : from + length before ≡ mid
    unfolding before
    ends = omega (arith, length-take-le (mid - from) (drop from seq) (omega (arith, length-drop from seq)))

    on : drop (mid - from) (drop from seq) ≡ drop mid seq
    on = let z : from + (mid - from) ≡ mid = omega arith in drop-drop (mid - from) from seq ∙ ap (λ (k : ℕ). drop k seq) z

    -- the places from one place on are those before another and those from it on
    pub between_rest : places_from (holds b) from (drop from seq) ≡ between b seq from mid ++ places_from (holds b) mid (drop mid seq)
    unfolding before
    between_rest =
        ap (places_from (holds b) from) (sym (take-append-drop (mid - from) (drop from seq)) ∙ ap (λ (r : List ℕ). before ++ r) on)
        ∙ places_append (holds b) from before (drop mid seq)
        ∙ ap (λ (k : ℕ). between b seq from mid ++ places_from (holds b) k (drop mid seq)) ends

    pub between_append : (to : ℕ) → mid ≤ to → between b seq from to ≡ between b seq from mid ++ between b seq mid to
    unfolding before
    between_append to k =
        let sum : to - from ≡ mid - from + (to - mid) = omega arith in
        ap (λ (n : ℕ). places_from (holds b) from (take n (drop from seq))) sum
        ∙ ap (places_from (holds b) from) (take-add (mid - from) (to - mid) (drop from seq) ∙ ap (λ (r : List ℕ). before ++ take (to - mid) r) on)
        ∙ places_append (holds b) from before (take (to - mid) (drop mid seq))
        ∙ ap (λ (n : ℕ). between b seq from mid ++ places_from (holds b) n (take (to - mid) (drop mid seq))) ends

  -- a block has as many as are counted in it
  pub block_count : (at : ℕ) → length (between b seq at (at + 32)) ≡ length (filter (holds b) (take 32 (drop at seq)))
  block_count at =
      let z : at + 32 - at ≡ 32 = omega arith in
      places_count (holds b) at (take (at + 32 - at) (drop at seq)) ∙ ap (λ (n : ℕ). length (filter (holds b) (take n (drop at seq)))) z

-- ---- what a window holds of them

module _ (lo : ℕ) (after : List ℕ) (b p : ℕ) where
  pub there_before : p < lo → held_there lo after b p ≡ false
  there_before h = rw (lt-leb lo p h)

  pub there_past : lo ≤ p → length after ≤ p - lo → held_there lo after b p ≡ false
  there_past h k = rw (le-leb lo p h, le-ltb p (lo + length after) (omega arith))

  pub there_inside : lo ≤ p → p - lo < length after → held_there lo after b p ≡ holds b (get_or after (p - lo) 0)
  there_inside h k = rw (le-leb lo p h, lt-ltb p (lo + length after) (omega arith))

none_held : (held t : ℕ → Bool) (i : ℕ) (xs : List ℕ) → ((p : ℕ) → i ≤ p → p < i + length xs → held p ≡ false) → length (filter held (places_from t i xs)) ≡ 0
none_held held t i [] f = refl
none_held held t i (x ∷ xs) f =
    let rest = none_held held t (suc i) xs (λ p l u. f p (omega arith) (omega arith)) in
    by-test (t x) (λ e. rw (e, f i (omega arith) (omega arith)) rest) (λ e. rw e rest)

both_held : (held : ℕ → Bool) (b i : ℕ) (xs ys : List ℕ) → length xs ≡ length ys
    → ((k : ℕ) → k < length ys → held (i + k) ≡ holds b (get_or ys k 0)) → length (filter held (places_from (holds b) i xs)) ≡ hold_both b xs ys
both_held held b i [] [] s f = refl
both_held held b i [] (y ∷ ys) s f = absurd (omega arith)
both_held held b i (x ∷ xs) [] s f = absurd (omega arith)
both_held held b i (x ∷ xs) (y ∷ ys) s f =
    let rest = both_held held b (suc i) xs ys (omega arith) later in
    let z : i + 0 ≡ i = omega arith in
    let here : held i ≡ holds b y = ap held (sym z) ∙ f 0 (omega arith) in
    by-test (holds b x)
    (λ e. by-test (holds b y) (λ g. rw (e, here, g, rest) (omega arith)) (λ g. rw (e, here, g, rest) (omega arith)))
    (λ e. rw (e, rest) (omega arith))
  where
    later : (k : ℕ) → k < length ys → held (suc i + k) ≡ holds b (get_or ys k 0)
    later k l = let q : i + suc k ≡ suc i + k = omega arith in ap held (sym q) ∙ f (suc k) (omega arith)

module _ (lo : ℕ) (after : List ℕ) (b : ℕ) (seq : List ℕ) where
  pub held_append : (from mid to : ℕ) → from ≤ mid → mid ≤ length seq → mid ≤ to
      → held_between lo after b seq from to ≡ held_between lo after b seq from mid + held_between lo after b seq mid to
  held_append from mid to l u k =
      ap (λ (ps : List ℕ). length (filter (held_there lo after b) ps)) (between_append b seq from mid l u to k)
      ∙ ap length (filter_append (held_there lo after b) (between b seq from mid) (between b seq mid to))
      ∙ length-append (filter (held_there lo after b) (between b seq from mid)) (filter (held_there lo after b) (between b seq mid to))

  module _ (at : ℕ) (u : at + 32 ≤ length seq) where
    same : at + 32 - at ≡ 32
    same = omega arith

    size : length (take 32 (drop at seq)) ≡ 32
    size = length-take-le 32 (drop at seq) (omega (arith, length-drop at seq))

    block : held_between lo after b seq at (at + 32) ≡ length (filter (held_there lo after b) (places_from (holds b) at (take 32 (drop at seq))))
    block = ap (λ (n : ℕ). length (filter (held_there lo after b) (places_from (holds b) at (take n (drop at seq))))) same

    -- the block ends before the window
    pub none_before : at + 32 ≤ lo → held_between lo after b seq at (at + 32) ≡ 0
    none_before h = block ∙ none_held (held_there lo after b) (holds b) at (take 32 (drop at seq))
        (λ p l k. there_before lo after b p (omega (arith, size)))

    -- the window ends before the block
    pub none_past : lo ≤ at → length after ≤ at - lo → held_between lo after b seq at (at + 32) ≡ 0
    none_past h k = block ∙ none_held (held_there lo after b) (holds b) at (take 32 (drop at seq))
        (λ p l m. there_past lo after b p (omega arith) (omega arith))

    -- the block lies in the window
    pub both_inside : lo ≤ at → at - lo + 32 ≤ length after
        → held_between lo after b seq at (at + 32) ≡ hold_both b (take 32 (drop at seq)) (take 32 (drop (at - lo) after))
    both_inside h k = block ∙ both_held (held_there lo after b) b at (take 32 (drop at seq)) (take 32 (drop (at - lo) after)) (size ∙ sym there) inside
      where
        there : length (take 32 (drop (at - lo) after)) ≡ 32
        there = length-take-le 32 (drop (at - lo) after) (omega (arith, length-drop (at - lo) after))

        inside : (n : ℕ) → n < length (take 32 (drop (at - lo) after)) → held_there lo after b (at + n) ≡ holds b (get_or (take 32 (drop (at - lo) after)) n 0)
        inside n l =
            let small : n < 32 = omega (arith, there) in
            let z : at + n - lo ≡ at - lo + n = omega arith in
            there_inside lo after b (at + n) (omega arith) (omega arith)
            ∙ ap (λ (j : ℕ). holds b (get_or after j 0)) z
            ∙ ap (holds b) (sym (get_or-take 32 (drop (at - lo) after) n 0 small ∙ get_or-drop (at - lo) after n 0))

-- a block that is not divided by a window other than SEQ itself
pub undivided : (w : Window) (bases place : ℕ) → w.same ≡ false → Undivided w bases place
    → (place + 32 ≤ w.lo) ⊎ ((w.lo ≤ place) × ((bases ≤ place - w.lo) ⊎ (place - w.lo + 32 ≤ bases)))
undivided w bases place e = ⊎_elim (λ s. let z : ◌≡◌ {A = ℕ} 0 1 = cc in absurd (omega arith)) (λ h. h)

-- ---- where nothing changed

both_self : (b : ℕ) (xs : List ℕ) → hold_both b xs xs ≡ length (filter (holds b) xs)
both_self b [] = refl
both_self b (x ∷ xs) = by-test (holds b x) (λ e. rw (e, both_self b xs) (omega arith)) (λ e. rw (e, both_self b xs) (omega arith))

-- if `after` is SEQ itself, it holds every base of a block
pub all_held : (w : Window) (after : List ℕ) (b : ℕ) (seq : List ℕ) (at : ℕ) → Told w after seq → w.same ≡ true → at + 32 ≤ length seq
    → held_between w.lo after b seq at (at + 32) ≡ length (filter (holds b) (take 32 (drop at seq)))
all_held w after b seq at told s u =
    let start = (told s).0 in
    let row = (told s).1 in
    (λ j. held_between (start j) (row j) b seq at (at + 32))
    ∙ both_inside 0 seq b seq at u (omega arith) (omega arith)
    ∙ rw (sub-zero at) (both_self b (take 32 (drop at seq)))

-- ---- how many there are in all

-- k bytes more
pub count_part : (t : ℕ → Bool) (l : List ℕ) (i k : ℕ)
    → length (filter t (take (i + k) l)) ≡ length (filter t (take i l)) + length (filter t (take k (drop i l)))
count_part t l i k =
    ap (λ (m : List ℕ). length (filter t m)) (take-add i k l)
    ∙ ap length (filter_append t (take i l) (take k (drop i l)))
    ∙ length-append (filter t (take i l)) (filter t (take k (drop i l)))

pub tracked_count : (b : ℕ) (seq : List ℕ) → length (tracked b seq) ≡ length (filter (holds b) seq)
unfolding tracked
tracked_count b seq = places_count (holds b) 0 seq

holds_any : (b : ℕ) → b ≡ 78 → (x : ℕ) → holds b x ≡ true
unfolding holds
holds_any b e x = rw (eq-eqb b 78 e)

-- every byte is one of a group on any base
pub all_tracked : (b : ℕ) → b ≡ 78 → (seq : List ℕ) → length (tracked b seq) ≡ length seq
all_tracked b e seq = tracked_count b seq ∙ ap length (filter_ext (holds b) (λ x. true) (holds_any b e) seq ∙ filter_all seq)
