-- Handing on the answers of the calls on a stored read: the number of the definition, the lent numbers, and the rows.
-- Assumes nothing.
use Rattle.std.specs.Prelude.{Option}
use Prim.Native.Nat.{ℕ}
use mathlib.Core.Bool.{Bool}
use mathlib.Core.List.{List}
use mathlib.Core.Path.{◌≡◌, ◌∙◌, ap}
use lib.ListN.{length}
use Rattle.editing.specs.Rewrote.{leaves_tag, rewrote}
use Rattle.lent.specs.Filled.{leaves}
use Rattle.lent.specs.Outcome.{Outcome, number_of, on_done}
use Rattle.reading.specs.Calls.{CallsRead, calls_read, counts_of, group_column, start_column}
use Rattle.samtags.specs.Reading.{call_list}
use Rattle.samtags.specs.Session.{Lengths, Memory, Step}
use Rattle.samtags.specs.Spots.{Listing}
use Rattle.samtags.specs.Writing.{Tag}
use Rattle.stepping.specs.Steps.{came, leaves_memory, memory}
use Rattle.stepping.specs.declared.Lengths.{Lengths as Declared}
use Rattle.stored.specs.Reads.{listed_stored, read_stored_calls, stored_column}
use Rattle.stored_edits.specs.Edits.{cut_stored}
use Rattle.stored_steps.specs.Steps.{open_stored, step_stored}
use Rattle.telling.proofs.Handed.{number_handed, told_handed}
use Rattle.telling.proofs.HandedReadings.{ListTold, ReadTold, read_handed}
use Rattle.telling.proofs.HandedTags.{Rewritten, TagTold, tag_handed}
use Rattle.telling.specs.Told.{told}
use Rattle.telling_steps.proofs.HandedSteps.{StepTold, came_told}
use Rattle.telling_steps.specs.Lengths.{length_row, lengths_in}
use Rattle.taglib.specs.AlignmentContracts.{FillsInC}

-- a row that was filled, with the number of its entries
pub fill_handed : (o : Outcome (List ℕ)) (row : List ℕ) (n₀ : ℕ) {w : Outcome ℕ} {r n : ℕ} {row' : List ℕ}
    → (w ≡ on_done length o) × (row' ≡ leaves (λ (l : List ℕ). l) o row) → (r ≡ number_of w) × (n ≡ told (λ (m : ℕ). m) w n₀)
    → FillsInC o row n₀ r row' n
fill_handed o row n₀ e h = (number_handed length o e.0 h.0, told_handed (λ (m : ℕ). m) length o n₀ e.0 h.1, e.1)

-- the list of calls, with the columns gs, ps and ss
pub stored_calls_handed : (reverse ml? : Bool) (n : ℕ) (packed text ml gs₀ ps₀ ss₀ : List ℕ) (g₀ c₀ : ℕ) {w : Outcome (ℕ × ℕ)} {r g c : ℕ}
    {gs ps ss : List ℕ} → calls_read w gs ps ss ≡ read_stored_calls reverse ml? n packed text ml gs₀ ps₀ ss₀ → ReadTold w r g₀ g c₀ c
    → let o = listed_stored reverse ml? n packed text ml (length gs₀) (length ps₀) (length ss₀) in
    (r ≡ number_of o) × (g ≡ told (λ (ls : List Listing). length ls) o g₀) × (c ≡ told (λ (ls : List Listing). length (call_list ls)) o c₀)
    × (gs ≡ leaves group_column o gs₀) × (ps ≡ leaves (stored_column reverse n) o ps₀) × (ss ≡ leaves start_column o ss₀)
unfolding read_stored_calls
stored_calls_handed reverse ml? n packed text ml gs₀ ps₀ ss₀ g₀ c₀ e h =
    let o = listed_stored reverse ml? n packed text ml (length gs₀) (length ps₀) (length ss₀) in
    let t = read_handed o g₀ c₀ (ap (λ (y : CallsRead). y.answer) e) h in
    (t.0, t.1, t.2, ap (λ (y : CallsRead). y.groups) e, ap (λ (y : CallsRead). y.places) e, ap (λ (y : CallsRead). y.starts) e)

-- a cut whose start was given as another says
pub stored_cut_handed : (reverse ml? : Bool) (given : Option ℕ) (n : ℕ) (before : List ℕ) (k : ℕ) (after mm values text₀ ml₀ : List ℕ) (t₀ v₀ : ℕ)
    {start : Option ℕ} {w : Outcome (ℕ × ℕ)} {r t v : ℕ} {text ml : List ℕ} → start ≡ given
    → rewrote w text ml ≡ leaves_tag ml? (cut_stored reverse ml? start n before k after mm values (length text₀) (length ml₀)) text₀ ml₀
    → TagTold w r t₀ t v₀ v
    → Rewritten ml? (cut_stored reverse ml? given n before k after mm values (length text₀) (length ml₀)) r t₀ t v₀ v text₀ text ml₀ ml
stored_cut_handed reverse ml? given n before k after mm values text₀ ml₀ t₀ v₀ s e h =
    let o : Option ℕ → Outcome Tag = λ at. cut_stored reverse ml? at n before k after mm values (length text₀) (length ml₀) in
    tag_handed ml? (o given) text₀ ml₀ t₀ v₀ (e ∙ ap (λ (at : Option ℕ). leaves_tag ml? (o at) text₀ ml₀) s) h

-- an opening whose lengths came in the array row₀
pub stored_open_handed : (reverse ml? : Bool) (packed text ml row₀ : List ℕ) (g₀ c₀ : ℕ) {held : Declared} {w : Outcome (ℕ × ℕ)} {r g c : ℕ}
    → held ≡ lengths_in row₀ → w ≡ on_done counts_of (open_stored reverse ml? (memory packed text ml held)) → ReadTold w r g₀ g c₀ c
    → ListTold (open_stored reverse ml? (memory packed text ml (lengths_in row₀))) r g₀ g c₀ c
stored_open_handed reverse ml? packed text ml row₀ g₀ c₀ l e h =
    let m : Declared → Memory = memory packed text ml in
    read_handed (open_stored reverse ml? (m (lengths_in row₀))) g₀ c₀ (e ∙ ap (λ (n : Declared). on_done counts_of (open_stored reverse ml? (m n))) l) h

-- a step whose lengths came in the array row₀
pub stored_step_handed : (reverse ml? : Bool) (t : Step) (packed₀ text₀ ml₀ row₀ : List ℕ) {held : Declared} {w : Outcome Lengths} {r : ℕ}
    {row packed text ml : List ℕ} → held ≡ lengths_in row₀
    → came w packed text ml ≡ leaves_memory (memory packed₀ text₀ ml₀ held) (step_stored reverse ml? t (memory packed₀ text₀ ml₀ held))
    → (r ≡ number_of w) × (row ≡ told length_row w row₀)
    → let m = memory packed₀ text₀ ml₀ (lengths_in row₀) in StepTold m (step_stored reverse ml? t m) r row₀ row packed text ml
stored_step_handed reverse ml? t packed₀ text₀ ml₀ row₀ l e h =
    let m : Declared → Memory = memory packed₀ text₀ ml₀ in
    let lent = m (lengths_in row₀) in
    came_told lent (step_stored reverse ml? t lent) row₀ (e ∙ ap (λ (n : Declared). leaves_memory (m n) (step_stored reverse ml? t (m n))) l) h
