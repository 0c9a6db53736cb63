-- The counts of a walk by blocks. These are contracts of support functions; no promise rests on them.
-- Assumes nothing.
use Rattle.std.specs.Prelude.{ℕ, ◌+◌, ◌-◌, ◌≤◌, ◌≡◌, Bool, true, cond, ◌&&◌, List, [], ◌∷◌, ◌⊎◌, length, get_or, take, drop, leb, ltb}
use Rattle.lent.specs.Lists.{filter}
use Rattle.samtags.specs.Spots.{holds, places_from}
use Rattle.strides.specs.declared.Window.{Window}

-- the promise of a window's flag: if it is set, the edited SEQ begins at place 0 and is SEQ itself
abbrev pub Told : Window → List ℕ → List ℕ → Type 0
Told w after seq = w.same ≡ true → (w.lo ≡ 0) × (after ≡ seq)

-- a window of `bases` bases does not divide the block at `place`: the block is before it, after it or in it, or the window is SEQ itself
abbrev pub Undivided : Window → ℕ → ℕ → Type 0
Undivided w bases place =
    (w.same ≡ true) ⊎ ((place + 32 ≤ w.lo) ⊎ ((w.lo ≤ place) × ((bases ≤ place - w.lo) ⊎ (place - w.lo + 32 ≤ bases))))

-- how many places hold the base in both rows
abbrev pub hold_both : ℕ → List ℕ → List ℕ → ℕ
hold_both base [] ys = 0
hold_both base (x ∷ xs) [] = 0
hold_both base (x ∷ xs) (y ∷ ys) = cond (holds base x && holds base y) 1 0 + hold_both base xs ys

-- the place p holds the base b after SEQ became `after`, which begins at place lo
abbrev pub held_there : ℕ → List ℕ → ℕ → ℕ → Bool
held_there lo after b p = leb lo p && ltb p (lo + length after) && holds b (get_or after (p - lo) 0)

-- the places of the base from place `from` on and before place `to`
abbrev pub between : ℕ → List ℕ → ℕ → ℕ → List ℕ
between base seq from to = places_from (holds base) from (take (to - from) (drop from seq))

-- how many of these places still hold the base
abbrev pub held_between : ℕ → List ℕ → ℕ → List ℕ → ℕ → ℕ → ℕ
held_between lo after base seq from to = length (filter (held_there lo after base) (between base seq from to))
