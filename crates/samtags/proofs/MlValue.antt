-- The meaning of an ML value, as SAMtags says it: N is for probabilities from N/256 up to (N+1)/256, and 255 also for certainty.
-- Assumes nothing.
use mathlib.Core.Path.{◌≡◌, refl}
use mathlib.Core.Logic.{⊎_elim}
use Prim.Native.Nat.{ℕ, suc, ◌*◌, ◌/◌, ◌≤◌, ◌<◌, min}
use native.Mathlib.Omega.{arith}
use native.Mathlib.Nat.{div-add-mod', div-mul-le_self, div-eq_of_eq-mul_left, mod-lt, mul-le-mul_right, suc-mul}
use Rattle.lent.proofs.Numbers.{le_or_lt}
use Rattle.samtags.specs.Building.{ml_value}

below_256 : (s t q : ℕ) → s < t → q * t ≤ 256 * s → q < 256
below_256 s t q h l =
    ⊎_elim (λ big. let z : ⊥ = omega (arith, mul-le-mul_right t big) in absurd z) (λ small. small) (le_or_lt 256 q)

-- for a probability s/t below 1
pub ml_value_means : (s t : ℕ) → s < t → (ml_value s t * t ≤ 256 * s) × (256 * s < suc (ml_value s t) * t)
unfolding ml_value
ml_value_means s t h =
    let q = 256 * s / t in
    let low : q * t ≤ 256 * s = div-mul-le_self (256 * s) t in
    let small : q < 256 = below_256 s t q h low in
    let same : min 255 q ≡ q = omega arith in
    rw same (low, omega (arith, div-add-mod' (256 * s) t, mod-lt (256 * s) {m = t} (omega arith), suc-mul q t))

pub certain_is_255 : (t : ℕ) → 0 < t → ml_value t t ≡ 255
unfolding ml_value
certain_is_255 t h = rw (div-eq_of_eq-mul_left {n = t} {m = 256 * t} {k = 256} h refl)
