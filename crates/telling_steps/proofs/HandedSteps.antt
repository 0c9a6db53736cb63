-- Handing on the answers of a session's opening and of its steps: the number of the definition, the lengths, and the three rows.
-- Assumes nothing.
use Rattle.std.specs.Prelude.{Ok, Err}
use Prim.Native.Nat.{ℕ}
use mathlib.Core.Bool.{Bool}
use mathlib.Core.List.{List}
use mathlib.Core.Path.{◌≡◌, ◌∙◌, ap}
use Rattle.lent.specs.Outcome.{Outcome, number_of, on_done}
use Rattle.reading.specs.Calls.{counts_of}
use Rattle.samtags.specs.Session.{Lengths, Memory, Step, open_session, step_in_memory}
use Rattle.stepping.specs.Steps.{Came, came, leaves_memory, memory}
use Rattle.stepping.specs.declared.Lengths.{Lengths as Declared}
use Rattle.telling.specs.Told.{told}
use Rattle.telling_steps.specs.Lengths.{length_row, lengths_in}
use Rattle.telling.proofs.HandedReadings.{ListTold, ReadTold, read_handed}

-- an opening whose lengths came in the array row₀
pub open_handed : (ml? : Bool) (seq text ml row₀ : List ℕ) (g₀ c₀ : ℕ) {held : Declared} {w : Outcome (ℕ × ℕ)} {r g c : ℕ}
    → held ≡ lengths_in row₀ → w ≡ on_done counts_of (open_session ml? (memory seq text ml held)) → ReadTold w r g₀ g c₀ c
    → ListTold (open_session ml? (memory seq text ml (lengths_in row₀))) r g₀ g c₀ c
open_handed ml? seq text ml row₀ g₀ c₀ l e h =
    let m : Declared → Memory = memory seq text ml in
    read_handed (open_session ml? (m (lengths_in row₀))) g₀ c₀ (e ∙ ap (λ (n : Declared). on_done counts_of (open_session ml? (m n))) l) h

-- what a caller holds of a step on m that came to o: the number r, the array of lengths, and the rows
abbrev pub StepTold : Memory → Outcome Memory → ℕ → List ℕ → List ℕ → List ℕ → List ℕ → List ℕ → Type 0
StepTold m o r row₀ row seq text ml =
    (r ≡ number_of o) × (row ≡ told (λ (n : Memory). length_row n.lengths) o row₀)
    × (seq ≡ told (λ (n : Memory). n.seq) o m.seq) × (text ≡ told (λ (n : Memory). n.text) o m.text)
    × (ml ≡ told (λ (n : Memory). n.ml) o m.ml)

pub came_told : (m : Memory) (o : Outcome Memory) (row₀ : List ℕ) {w : Outcome Lengths} {r : ℕ} {row seq text ml : List ℕ}
    → came w seq text ml ≡ leaves_memory m o → (r ≡ number_of w) × (row ≡ told length_row w row₀) → StepTold m o r row₀ row seq text ml
unfolding leaves_memory
came_told m (Err s) row₀ e h = (
  h.0 ∙ ap (λ (y : Came). number_of y.answer) e,
  h.1 ∙ ap (λ (y : Came). told length_row y.answer row₀) e,
  ap (λ (y : Came). y.seq) e,
  ap (λ (y : Came). y.text) e,
  ap (λ (y : Came). y.ml) e,
)
came_told m (Ok n) row₀ e h = (
  h.0 ∙ ap (λ (y : Came). number_of y.answer) e,
  h.1 ∙ ap (λ (y : Came). told length_row y.answer row₀) e,
  ap (λ (y : Came). y.seq) e,
  ap (λ (y : Came). y.text) e,
  ap (λ (y : Came). y.ml) e,
)

-- a step whose lengths came in the array row₀
pub step_handed : (ml? : Bool) (t : Step) (seq₀ text₀ ml₀ row₀ : List ℕ) {held : Declared} {w : Outcome Lengths} {r : ℕ}
    {row seq text ml : List ℕ} → held ≡ lengths_in row₀
    → came w seq text ml ≡ leaves_memory (memory seq₀ text₀ ml₀ held) (step_in_memory ml? t (memory seq₀ text₀ ml₀ held))
    → (r ≡ number_of w) × (row ≡ told length_row w row₀)
    → let m = memory seq₀ text₀ ml₀ (lengths_in row₀) in StepTold m (step_in_memory ml? t m) r row₀ row seq text ml
step_handed ml? t seq₀ text₀ ml₀ row₀ l e h =
    let m : Declared → Memory = memory seq₀ text₀ ml₀ in
    let lent = m (lengths_in row₀) in
    came_told lent (step_in_memory ml? t lent) row₀ (e ∙ ap (λ (n : Declared). leaves_memory (m n) (step_in_memory ml? t (m n))) l) h
